-- A list of which one item is changed, as it is kept and as it is seen.
use Rattle.std.proofs.Common.{◌≡◌, ℕ, ◌+◌, ◌<◌, ◌≤◌, List, [], ◌∷◌, ◌++◌, length, map, take, drop, get_or, set}
use Rattle.std.proofs.Common.{ap, sym, ◌∙◌, arith, append_assoc}
use Rattle.std.proofs.Math.Seq.{set-append_seam, get_or-append_seam}
use Rattle.std.proofs.lemmas.List.{map-set, get_or-map, map-append, take_more, length-map, length-take-le}
use Rattle.std.proofs.lemmas.List.{take_all, drop_more, drop_all, append-nil as append_nil}

pub map-changed : {A B : Type 0} (f : A → B) (change : B → B) (xs : List A) (i : ℕ) (new old : A)
    (d : B) → i < length xs → old ≡ get_or xs i old → f new ≡ change (f old)
    → map f (set xs i new) ≡ set (map f xs) i (change (get_or (map f xs) i d))
map-changed f change xs i new old d less is made =
    map-set f xs i new
    ∙ ap (set (map f xs) i)
    (made ∙ ap change (ap f is ∙ sym (get_or-map f xs i old d less)))

module _ {A : Type 0} (f : A → A) (all : List A) where
  pub changed_more : (xs : List A) (i : ℕ) (d : A) → i < length all
      → xs ≡ map f (take i all) ++ drop i all
      → set xs i (f (get_or xs i d)) ≡ map f (take (i + 1) all) ++ drop (i + 1) all
  changed_more xs i d less is =
      let front : List A = map f (take i all) in
      let here : A = get_or all i d in
      let rest : List A = drop (i + 1) all in
      let long : length front ≡ i = length-map (take i all) f ∙ length-take-le i all (omega (arith, less)) in
      let split : xs ≡ front ++ here ∷ rest = is ∙ ap (λ s. front ++ s) (drop_more all i d less) in
      let got : get_or xs i d ≡ here =
      ap (λ s. get_or s i d) split ∙ ap (λ n. get_or (front ++ here ∷ rest) n d) (sym long)
      ∙ get_or-append_seam front here rest d in
      ap (λ x. set xs i (f x)) got ∙ ap (λ s. set s i (f here)) split
      ∙ ap (λ n. set (front ++ here ∷ rest) n (f here)) (sym long)
      ∙ set-append_seam front here rest (f here)
      ∙ sym (append_assoc front (f here ∷ []) rest)
      ∙ ap (λ s. s ++ rest) (sym (map-append f (take i all) (here ∷ [])))
      ∙ ap (λ s. map f s ++ rest) (sym (take_more all i d less))

  pub changed_all : (i : ℕ) → length all ≤ i → map f (take i all) ++ drop i all ≡ map f all
  changed_all i most =
      ap (λ s. map f s ++ drop i all) (take_all i all most)
      ∙ ap (λ s. map f all ++ s) (drop_all i all most) ∙ append_nil (map f all)
