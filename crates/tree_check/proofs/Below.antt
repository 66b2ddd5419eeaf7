-- Lists of what is given for each number below one.
use Rattle.std.proofs.Common.{◌≡◌, ℕ, ◌<◌, ◌≤◌, zero, suc, List, [], ◌∷◌, ◌++◌, length, set, refl, sym, ap}
use Rattle.std.proofs.Common.{◌∙◌, arith, replicate, ⊎_elim, length-append, inl, inr, ◌⊎◌}
use Rattle.std.proofs.Math.Seq.{set-append_seam}
use Rattle.std.proofs.lemmas.List.{set-append_left}
use Rattle.trail_replay.specs.Reads.{list_below}
use Rattle.trail_replay.proofs.Rows.{same_or}

module _ {A : Type 0} where
  pub length-below : (f : ℕ → A) (n : ℕ) → length (list_below f n) ≡ n
  length-below f zero = refl
  length-below f (suc n) =
      omega (arith, length-append (list_below f n) (f n ∷ []), length-below f n)

  -- what is alike below a number makes the same list
  pub same_below : (f g : ℕ → A) (n : ℕ) → ((k : ℕ) → k < n → f k ≡ g k)
      → list_below f n ≡ list_below g n
  same_below f g zero alike = refl
  same_below f g (suc n) alike =
      ap (λ xs. xs ++ f n ∷ []) (same_below f g n (λ k less. alike k (omega (arith, less))))
      ∙ ap (λ x. list_below g n ++ x ∷ []) (alike n (omega arith))

  set_past : (xs : List A) (i : ℕ) (v : A) → length xs ≤ i → set xs i v ≡ xs
  set_past [] i v past = refl
  set_past (x ∷ xs) zero v past = absurd (omega (arith, past))
  set_past (x ∷ xs) (suc i) v past = ap (λ r. x ∷ r) (set_past xs i v (omega (arith, past)))

  -- the list with another element at one number
  pub set_below : (f g : ℕ → A) (n at : ℕ) (v : A) → (at < n → g at ≡ v)
      → ((k : ℕ) → k < n → (k ≡ at → ⊥) → f k ≡ g k)
      → set (list_below f n) at v ≡ list_below g n
  set_below f g zero at v own others = refl
  set_below f g (suc n) at v own others = ⊎_elim
      (λ (last : at ≡ n).
      let long : length (list_below f n) ≡ at = length-below f n ∙ sym last in
      ap (λ k. set (list_below f n ++ f n ∷ []) k v) (sym long)
      ∙ set-append_seam (list_below f n) (f n) [] v
      ∙ ap (λ x. list_below f n ++ x ∷ []) (sym (own (omega (arith, last))) ∙ ap g last)
      ∙ ap (λ xs. xs ++ g n ∷ []) (same_below f g n (λ k less. others k (omega (arith, less))
      (λ same. absurd (omega (arith, less, same, last))))))
      (λ (apart : at ≡ n → ⊥).
      ⊎_elim
      (λ (before : at < n).
      set-append_left (list_below f n) (f n ∷ []) at v (omega (arith, before, length-below f n))
      ∙ ap (λ xs. xs ++ f n ∷ []) (set_below f g n at v (λ less. own (omega (arith, less)))
      (λ k less. others k (omega (arith, less))))
      ∙ ap (λ x. list_below g n ++ x ∷ [])
      (others n (omega arith) (λ same. apart (sym same))))
      (λ (past : n < at).
      set_past (list_below f (suc n)) at v
      (omega (arith, length-below f (suc n), past))
      ∙ same_below f g (suc n) (λ k less. others k less
      (λ same. absurd (omega (arith, less, same, past)))))
      (sides at n apart))
      (same_or at n)
    where
      sides : (a b : ℕ) → (a ≡ b → ⊥) → (a < b) ⊎ (b < a)
      sides zero zero apart = absurd (apart refl)
      sides zero (suc b) apart = inl (omega arith)
      sides (suc a) zero apart = inr (omega arith)
      sides (suc a) (suc b) apart =
          ⊎_elim (λ (l : a < b). inl (omega (arith, l))) (λ (r : b < a). inr (omega (arith, r)))
          (sides a b (λ same. apart (ap suc same)))

  one_more : (x : A) (n : ℕ) → replicate n x ++ x ∷ [] ≡ x ∷ replicate n x
  one_more x zero = refl
  one_more x (suc n) = ap (λ xs. x ∷ xs) (one_more x n)

  -- the same for each number
  pub below_same : (x : A) (n : ℕ) → list_below (λ k. x) n ≡ replicate n x
  below_same x zero = refl
  below_same x (suc n) = ap (λ xs. xs ++ x ∷ []) (below_same x n) ∙ one_more x n
