-- Trees that were replayed, each where memory was at hand.
use Rattle.std.specs.Prelude.{◌≡◌, ℕ, ◌<◌, List, [], Result, Ok, Err}
use Rattle.risk_board.specs.declared.hand.Line.{Line}
use Rattle.f_array.specs.declared.record.Record.{Record}
use Rattle.trail_replay.specs.declared.history.History.{History}
use Rattle.trail_replay.specs.Fronts.{IsLawful}
use Rattle.trail_replay.specs.Histories.{history_of, places_of}

-- the tree was replayed
abbrev pub IsReplayed : {E : Type 0} → Result History E → Type 0
IsReplayed (Ok own) = Unit {0}
IsReplayed (Err why) = ⊥

-- the lines that a replay gave
abbrev pub lines_in : {E : Type 0} → Result History E → List Line
lines_in (Ok own) = own.lines.items
lines_in (Err why) = []

-- the places that a replay gave
abbrev pub places_in : {E : Type 0} → Result History E → List ℕ
places_in (Ok own) = own.places.items
places_in (Err why) = []

-- what a replay of the tree gave is its history
abbrev pub HasReplayed : {E : Type 0} → Record → ℕ → Result History E → Type 0
HasReplayed taken tree (Ok own) =
    (own.lines.items ≡ history_of taken tree) × (own.places.items ≡ places_of taken tree)
HasReplayed taken tree (Err why) = Unit {0}

-- the tree is one of a lawful record
pub record IsLawfulTree (unit cap : ℕ) (join : ℕ → ℕ → ℕ) (taken : Record) (tree : ℕ) : Type 0
  where
    pub lawful : IsLawful unit cap join taken
    pub below : tree < taken.shape.trees
