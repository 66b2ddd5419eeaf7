-- How a run says that it ended, and how it leaves its source.
use Rattle.std.specs.Prelude.{◌≡◌, ◌⊎◌, ℕ, ◌^◌, ◌≤◌, ◌<◌, List, [], ◌∷◌, ◌++◌, length, Option, Bool, true}
use Rattle.gate_ports.specs.Faults.{Rose}
use Rattle.risk_journal.specs.declared.acts.Act.{Act}
use Rattle.risk_journal.specs.declared.acts.Act.TheVariants.{Ended}
use Rattle.risk_journal.specs.declared.acts.End.{End}
use Rattle.risk_journal.specs.declared.acts.End.TheVariants as ending
use Rattle.frame_run.specs.Ends.{FetchesInput}

-- the last act says how the run ended
abbrev pub EndsWith : List Act → End → Type 0
EndsWith acts end = (front : List Act) × (acts ≡ front ++ Ended end ∷ [])

-- the last act says how the run ended; there is none only where memory was wanting
abbrev pub EndsAs : List Act → End → Type 0
EndsAs acts end = EndsWith acts end ⊎ ((acts ≡ []) × (end ≡ ending.Memory))

-- the last act says how the run ended, and they are few
pub record EndsInFew (acts : List Act) (end : End) : Type 0 where
  pub ends : EndsWith acts end
  pub few : length acts < 2 ^ 32

-- The same source, of which few bytes were fetched. It failed where the end says so, and saw its end
-- where the end is whole.
pub record IsSourceDone {S : Type 0} (left : S → Option (List ℕ)) (faults : S → ℕ)
    (name : S → Option (List ℕ)) (is_ended : S → Bool) (before now : S) (end : End) : Type 0 where
  pub fetched : FetchesInput (left before) (left now) end
  pub later : faults before ≤ faults now
  pub name_is : name now ≡ name before
  pub failed : end ≡ ending.ReadFault → Rose (faults before) (faults now)
  pub whole : end ≡ ending.Whole → is_ended now ≡ true
