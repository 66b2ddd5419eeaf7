-- What is true of an order that is kept, and where the last item that passes a test stands.
use Rattle.std.specs.Prelude.{◌≡◌, ℕ, suc, ◌^◌, ◌≤◌, ◌<◌, List, length, drop, Bool, true, false}
use Rattle.std.specs.List.{list_any, slice_index_or, AllByRecursion}
use Rattle.cross_guard.specs.declared.resting.Term.{Term}
use Rattle.cross_guard.specs.Halves.{cross_cap}

-- each term's value can be posted, and of an open order what is filled fits 64 bits
pub record IsHeld (terms : List Term) (filled : ℕ) (closed : Bool) : Type 0 where
  pub capped : AllByRecursion (λ (term : Term). term.value ≤ cross_cap) terms
  pub fits : closed ≡ false → filled < 2 ^ 64

-- the item at this place passes the test, and none behind it does
pub record IsLast {A : Type 0} (test : A → Bool) (place : ℕ) (items : List A) : Type 0 where
  pub inside : place < length items
  pub passes : (d : A) → test (slice_index_or items place d) ≡ true
  pub none : list_any test (drop (suc place) items) ≡ false
