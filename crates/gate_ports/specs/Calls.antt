-- The calls on a name of a folder in memory: how many were made, and which fail.
use Rattle.std.specs.Prelude.{ℕ, List, [], ◌∷◌, ◌++◌, Contains, Result, Ok, Err, if◌then◌else◌}
use Rattle.std.specs.Str.{bytes_eq}
use Rattle.gate_ports.specs.declared.calls.Fail.{Fail}
use Rattle.gate_ports.specs.declared.calls.Fail.TheVariants.{Open, Fetch, Create, Give}
use Rattle.gate_ports.specs.declared.ports.PortFault.{PortFault}
use Rattle.gate_ports.specs.declared.ports.PortFault.TheVariants.{Failed, Memory}
use Rattle.gate_ports.specs.Faults.{one_more}

-- a name: how many times it was opened and made, the numbers of those calls that fail, from 0, and
-- of the calls that fail on each source and sink that is handed out for it
pub record CallsState : Type 0 where
  pub opens : ℕ
  pub creates : ℕ
  pub failing_opens : List ℕ
  pub failing_fetches : List ℕ
  pub failing_creates : List ℕ
  pub failing_gives : List ℕ

-- a name on which no call was made, and none fails
abbrev pub no_calls : CallsState
no_calls = record {
  opens = 0;
  creates = 0;
  failing_opens = [];
  failing_fetches = [];
  failing_creates = [];
  failing_gives = [];
}

-- the name with one more call that fails
abbrev pub with_failing : Fail → ℕ → CallsState → CallsState
with_failing Open number s = record s { failing_opens = s.failing_opens ++ number ∷ [] }
with_failing Fetch number s = record s { failing_fetches = s.failing_fetches ++ number ∷ [] }
with_failing Create number s = record s { failing_creates = s.failing_creates ++ number ∷ [] }
with_failing Give number s = record s { failing_gives = s.failing_gives ++ number ∷ [] }

-- the next call that opens the name fails
abbrev pub FailsToOpen : CallsState → Type 0
FailsToOpen s = Contains s.failing_opens s.opens

-- the next call that makes the name fails
abbrev pub FailsToCreate : CallsState → Type 0
FailsToCreate s = Contains s.failing_creates s.creates

-- the name opened once more
abbrev pub opened_again : CallsState → CallsState
opened_again s = record s { opens = one_more s.opens }

-- the name made once more
abbrev pub created_again : CallsState → CallsState
created_again s = record s { creates = one_more s.creates }

-- the name after it was opened with this answer; a call that memory was refused isn't counted
abbrev pub after_open : {T : Type 0} → Result T PortFault → CallsState → CallsState
after_open (Ok value) s = opened_again s
after_open (Err Failed) s = opened_again s
after_open (Err Memory) s = s

-- the name after it was made with this answer; a call that memory was refused isn't counted
abbrev pub after_create : {T : Type 0} → Result T PortFault → CallsState → CallsState
after_create (Ok value) s = created_again s
after_create (Err Failed) s = created_again s
after_create (Err Memory) s = s

-- the calls on each name with this name's set, and each other name's as before
abbrev pub with_calls : List ℕ → CallsState → (List ℕ → CallsState) → List ℕ → CallsState
with_calls name own calls other = if bytes_eq other name then own else calls other
