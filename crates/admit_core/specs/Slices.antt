-- A limit that several machines keep together, each within a slice of it.
use Rattle.std.specs.Prelude.{ℕ, ◌+◌, ◌==◌, List, [], ◌∷◌, length, take, filter, sum_by}
use Rattle.risk_board.specs.declared.hand.Line.{Line}
use Rattle.risk_board.specs.History.{Event}
use Rattle.admit_core.specs.Admitted.{StaysWithin, admitted_sum, moments}

-- what a machine's sessions did in a tree, and the slice of the limit that they were held to: the
-- lines of its history, and the posts and reads of each session
pub record Machine : Type 0 where
  pub slice : ℕ
  pub lines : List Line
  pub events : List (List Event)

-- after each line and each read of its own history the machine is within its slice
abbrev pub KeepsSlice : Machine → Type 0
KeepsSlice machine =
    StaysWithin machine.slice (length machine.events) machine.lines machine.events

-- the slices of all machines together
abbrev pub slices_sum : List Machine → ℕ
slices_sum machines = sum_by (λ (machine : Machine). machine.slice) machines

-- what the machine's sessions have admitted after so many steps of its history
abbrev pub admitted_after : ℕ → Machine → ℕ
admitted_after count machine =
    admitted_sum machine.slice (length machine.events)
    (take count (moments machine.lines machine.events))

-- how many of these steps are the machine's with this number, where each is told by its machine's
abbrev pub steps_by : ℕ → List ℕ → ℕ
steps_by number steps = length (filter (λ whose. whose == number) steps)

-- what machines have admitted after these steps, of which the first has this number
abbrev pub admitted_from : ℕ → List ℕ → List Machine → ℕ
admitted_from number steps [] = 0
admitted_from number steps (machine ∷ later) =
    admitted_after (steps_by number steps) machine + admitted_from (number + 1) steps later

-- what all machines together have admitted after these steps
abbrev pub admitted_together : List ℕ → List Machine → ℕ
admitted_together steps machines = admitted_from 0 steps machines
