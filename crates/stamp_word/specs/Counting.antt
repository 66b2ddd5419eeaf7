-- Seats that count their steps: beside a view stands a number, which each step of its seat raises
-- by 1.
use Rattle.std.specs.Prelude.{◌≡◌, ℕ, suc, map}
use Rattle.atomic_table.specs.Seated.{TableId}
use Rattle.atomic_table.specs.Table.{State, Me, Step}

-- what contracts see of a table: which it is, and what its rule was told once
pub record TableValue (K : Type 0) : Type 0 where
  pub table_id : TableId
  pub key : K

-- what contracts see of a seat: its table, its number, its view with the slots that it has, and how
-- many steps it made on the words
pub record SeatValue (V : Type 0) : Type 0 where
  pub table_id : TableId
  pub id : ℕ
  pub me : Me (Unit {0}) V
  pub steps : ℕ

module _ {S V : Type 0} where
  -- the table without the counts
  abbrev pub uncounted : State S (V × ℕ) → State S V
  uncounted s = record { words = s.words; homes = s.homes; views = map (λ v. v.0) s.views }

  -- the seat without its count
  abbrev pub plain : Me S (V × ℕ) → Me S V
  plain me = (me.0.0, me.1)

  -- what a step tells, and that its seat's count is one more
  abbrev pub Counts : (Step S → Me S V → ℕ → Me S V → Type 0) → Step S → Me S (V × ℕ) → ℕ
      → Me S (V × ℕ) → Type 0
  Counts tells step me found after =
      tells step (plain me) found (plain after) × (after.0.1 ≡ suc me.0.1)
