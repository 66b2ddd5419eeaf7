-- The places of a history, and the events with them.
use Rattle.std.proofs.Common.{◌≡◌, ℕ, zero, suc, ◌<◌, ◌≤◌, ◌==◌, Bool, true, false, cond, List, []}
use Rattle.std.proofs.Common.{◌∷◌}
use Rattle.std.proofs.Common.{length, map, refl, ap, sym, ◌∙◌, arith, length-append, ⊎_elim}
use mathlib.Core.Option.{some}
use lib.ListN.{get_elem?}
use Rattle.std.specs.Prelude.{slice_index, slice_get, Some}
use Rattle.std.proofs.lemmas.Bool.{eqb-true, cases_lt}
use Rattle.std.proofs.lemmas.List.{get_or_push}
use Rattle.risk_board.specs.declared.hand.Call.{Call}
use Rattle.risk_board.specs.declared.hand.Call.TheVariants.{Post, Read}
use Rattle.risk_board.specs.History.{Event, events_of_calls}
use Rattle.risk_board.specs.History.Event.{Posted, Saw}
use Rattle.trail_replay.specs.Blocks.{place_at, places_to}
use Rattle.trail_replay.proofs.Folds.{get-first}

module _ (front : ℕ → ℕ → ℕ) (posts : List (List ℕ)) where
  pub length-places_to : (last : ℕ) → length (places_to front posts last) ≡ suc last
  length-places_to zero = refl
  length-places_to (suc last) =
      let long = length-places_to last in
      omega (
        arith,
        length-append (places_to front posts last)
            (place_at front posts (suc last) ∷ []),
      )

  -- the place of a stamp stands at that index
  pub get-places_to : (last stamp : ℕ) → stamp ≤ last
      → slice_index (places_to front posts last) stamp ≡ place_at front posts stamp
  get-places_to zero zero le = refl
  get-places_to zero (suc stamp) le = absurd (omega arith)
  get-places_to (suc last) stamp le =
      let earlier = places_to front posts last in
      let long = length-places_to last in
      ⊎_elim
      (λ (lt : stamp < suc last).
      get-first earlier (place_at front posts (suc last) ∷ []) stamp (omega arith)
      ∙ get-places_to last stamp (omega arith))
      (λ (ge : suc last ≤ stamp).
      let same : stamp ≡ suc last = omega arith in
      get_or_push earlier (place_at front posts (suc last)) 0 stamp (long ∙ sym same)
      ∙ ap (place_at front posts) (sym same))
      (cases_lt stamp (suc last))

module _ (f g : ℕ → ℕ) (tree : ℕ) where
  same_post : (b : Bool) (value : ℕ) (xs ys : List Event) → xs ≡ ys
      → cond b (Posted value ∷ xs) xs ≡ cond b (Posted value ∷ ys) ys
  same_post b value xs ys same = ap (λ s. cond b (Posted value ∷ s) s) same

  same_read : (b : Bool) (stamp value : ℕ) (xs ys : List Event)
      → (b ≡ true → f stamp ≡ g stamp) → xs ≡ ys
      → cond b (Saw stamp (f stamp) value ∷ xs) xs ≡ cond b (Saw stamp (g stamp) value ∷ ys) ys
  same_read true stamp value xs ys here same =
      let at = here refl in λ i. Saw stamp (at i) value ∷ same i
  same_read false stamp value xs ys here same = same

  -- where two places of each read in the tree are the same, so are the events
  pub same_events : (calls : List Call)
      → ((k s v : ℕ) → get_elem? calls k ≡ some (Read tree s v) → f s ≡ g s)
      → events_of_calls f tree calls ≡ events_of_calls g tree calls
  same_events [] each = refl
  same_events (Post t value ∷ calls) each =
      same_post (t == tree) value _ _ (same_events calls (λ k. each (suc k)))
  same_events (Read t stamp value ∷ calls) each =
      same_read (t == tree) stamp value _ _
      (λ test. each 0 stamp value (ap (λ n. some (Read n stamp value)) (eqb-true t tree test)))
      (same_events calls (λ k. each (suc k)))

-- lists that agree for each element are mapped to the same
pub same_maps : {A B : Type 0} (f g : A → B) (xs : List A)
    → ((k : ℕ) (x : A) → slice_get xs k ≡ Some x → f x ≡ g x) → map f xs ≡ map g xs
same_maps f g [] each = refl
same_maps f g (x ∷ xs) each =
    let first = each 0 x refl in
    let rest = same_maps f g xs (λ k. each (suc k)) in
    λ i. first i ∷ rest i
