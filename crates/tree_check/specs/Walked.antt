-- Reads that agree with a walk along a history.
use Rattle.std.specs.Prelude.{ℕ, ◌==◌, ◌&&◌, List, length, Bool, nat_le, nat_lt, slice_index}
use Rattle.std.specs.List.{list_all}
use Rattle.risk_board.specs.declared.hand.Line.{Line}
use Rattle.trail_replay.specs.Arrays.{whole_at}
use Rattle.tree_check.specs.declared.read_at.ReadAt.{ReadAt}

-- the read's place is within the history, and its value is the fold of the plain array there
abbrev pub is_walked : (ℕ → ℕ → ℕ) → ℕ → List Line → ReadAt → Bool
is_walked join unit lines read =
    nat_le read.place (length lines) && (read.value == whole_at join unit lines read.place)

-- each read is so
abbrev pub are_walked : (ℕ → ℕ → ℕ) → ℕ → List Line → List ReadAt → Bool
are_walked join unit lines reads = list_all (is_walked join unit lines) reads

-- the read's value stands at its place among these
abbrev pub is_among_roots : List ℕ → ReadAt → Bool
is_among_roots roots read =
    nat_lt read.place (length roots) && (read.value == slice_index roots read.place)
