-- What a session is held to, whatever its command is: two relations on what it reads and writes.
use Rattle.std.specs.Prelude.{ℕ, List, [], ◌∷◌, ◌++◌, ◌≡◌, ◌⊎◌}
use Rattle.risk_journal.specs.declared.acts.Act.{Act}
use Rattle.risk_journal.specs.declared.acts.Act.TheVariants.{Ended}
use Rattle.risk_journal.specs.declared.acts.End.{End}
use Rattle.risk_journal.specs.declared.acts.End.TheVariants as ending

-- of the bytes of an input, what a session that they end did and wrote: its acts, its end, what
-- goes on to the venue, and what the client gets
abbrev pub InputRule : Type 1
InputRule = List ℕ → List Act → End → List ℕ → List ℕ → Type 0

-- the same of what was fetched, for a session that a fault ended, with what is said of a sink to
-- the venue that failed, and of one to the client
abbrev pub EarlyRule : Type 1
EarlyRule = List ℕ → List Act → End → List ℕ → List ℕ → Type 0 → Type 0 → Type 0

-- what is said of a sink that failed may be anything that follows from it
abbrev pub IsByCauses : EarlyRule → Type 1
IsByCauses Early =
    (fetched : List ℕ) (acts : List Act) (end : End) (venue client : List ℕ) (V C V' C' : Type 0)
    → (V → V') → (C → C') → Early fetched acts end venue client V C
    → Early fetched acts end venue client V' C'

-- the last act says how the session ended
abbrev pub EndsWith : List Act → End → Type 0
EndsWith acts end = (front : List Act) × (acts ≡ front ++ Ended end ∷ [])

-- the last act says how the session ended; there is none only where memory was wanting
abbrev pub EndsAs : List Act → End → Type 0
EndsAs acts end = EndsWith acts end ⊎ ((acts ≡ []) × (end ≡ ending.Memory))
