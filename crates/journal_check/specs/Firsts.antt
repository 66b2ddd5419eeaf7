-- The first of what is wrong.
use Rattle.std.specs.Prelude.{◌≡◌, ℕ, ◌<◌, List, Some, slice_get}

-- each of the first so many items is right at its place, from 0
abbrev pub AllBefore : {X : Type 0} → (ℕ → X → Type 0) → List X → ℕ → Type 0
AllBefore {X} IsRight items count =
    (index : ℕ) (item : X) → index < count → slice_get items index ≡ Some item
    → IsRight index item

-- the item at this place, from 0, isn't right, and each before it is
pub record IsFirstWrong {X : Type 0} (IsRight : ℕ → X → Type 0) (items : List X) (index : ℕ)
    : Type 0 where
  pub item : X
  pub at : slice_get items index ≡ Some item
  pub wrong : ¬ IsRight index item
  pub before : AllBefore IsRight items index

-- what is wrong is wrong in this row, and in none before it
pub record IsFirstRow (IsWrong : ℕ → Type 0) (row : ℕ) : Type 0 where
  pub wrong : IsWrong row
  pub before : (earlier : ℕ) → earlier < row → ¬ IsWrong earlier
