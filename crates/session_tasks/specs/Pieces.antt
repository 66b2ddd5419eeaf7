-- The journal in pieces: its first row, the rows of each session, and those of each tree.
use Rattle.std.specs.Prelude.{◌≡◌, ℕ, List, [], Result, Ok, Err, Vec, slice_index_or}
use Rattle.std.specs.Global.{Global}

-- the piece was written
abbrev pub IsWritten : {E : Type 0} → Result (Vec ℕ Global) E → Type 0
IsWritten (Ok piece) = Unit {0}
IsWritten (Err why) = ⊥

-- the bytes of a piece that was written
abbrev pub bytes_in : {E : Type 0} → Result (Vec ℕ Global) E → List ℕ
bytes_in (Ok piece) = piece.items
bytes_in (Err why) = []

-- a piece that was written is the rows of the list with this number
abbrev pub HasRows : {Y E : Type 0} → (ℕ × List Y → List ℕ) → List (List Y) → ℕ
    → Result (Vec ℕ Global) E → Type 0
HasRows rows lists number (Ok piece) = piece.items ≡ rows (number, slice_index_or lists number [])
HasRows rows lists number (Err why) = Unit {0}
