-- How a request that is asked about is kept meanwhile.
use Rattle.std.specs.Prelude.{◌≡◌, ℕ, ◌<◌, List, [], ◌∷◌, ◌++◌, length, slice_set}
use Rattle.std.specs.List.{slice_index_or}
use Rattle.cross_guard.specs.declared.orders.Added.{Added}
use Rattle.cross_guard.specs.declared.orders.Added.TheVariants as added
use Rattle.cross_guard.specs.declared.resting.Term.{Term}
use Rattle.cross_guard.specs.Resting.{RestingValue, with_term}

-- the order at a place has one term more
pub record HasTerm (place : ℕ) (before now : List RestingValue) : Type 0 where
  pub term : Term
  pub inside : place < length before
  pub is : (d : RestingValue)
      → now ≡ slice_set before place (with_term term (slice_index_or before place d))

-- of the orders before, one has one term more, or there is one order more
abbrev pub IsAdded : Added → List RestingValue → List RestingValue → Type 0
IsAdded (added.Term place) before now = HasTerm place before now
IsAdded added.Order before now = (order : RestingValue) × (now ≡ before ++ order ∷ [])
