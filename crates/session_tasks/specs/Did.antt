-- What sessions did with their inputs and outputs.
use Rattle.std.specs.Prelude.{◌≡◌, ◌⊎◌, ℕ, List, length, IfSome, slice_get, Some}
use Rattle.std.specs.Io.KnownBytes.{Appends, Consumes}
use Rattle.gate_ports.specs.Faults.{Rose}
use Rattle.risk_journal.specs.declared.acts.Act.{Act}
use Rattle.risk_journal.specs.declared.acts.End.{End}
use Rattle.risk_journal.specs.declared.acts.End.TheVariants as ending
use Rattle.frame_run.specs.Ends.{IsByInput}
use Rattle.gate_files.specs.Objects.{ObjectsValue}
use Rattle.session_tasks.specs.Rules.{InputRule, EarlyRule, EndsAs}

-- the outputs got what follows from the bytes that the input had left, where it tells them
abbrev pub FollowsLeft : InputRule → ObjectsValue → ObjectsValue → List Act → End → Type 0
FollowsLeft Input before after acts end =
    IfSome before.left (λ bytes. (to_venue : List ℕ) × (to_client : List ℕ)
    × Appends before.venue_held after.venue_held to_venue
    × Appends before.client_held after.client_held to_client
    × Input bytes acts end to_venue to_client)

-- A fault ended the session. Its outputs got what follows from the bytes that were fetched.
pub record StopsLeft (Early : EarlyRule) (before after : ObjectsValue) (acts : List Act) (end : End)
    : Type 0 where
  pub fetched : List ℕ
  pub to_venue : List ℕ
  pub to_client : List ℕ
  pub taken : Consumes before.left after.left fetched
  pub venue_got : Appends before.venue_held after.venue_held to_venue
  pub client_got : Appends before.client_held after.client_held to_client
  pub stops : Early fetched acts end to_venue to_client
      (Rose before.venue_faults after.venue_faults) (Rose before.client_faults after.client_faults)

-- What a session did with its objects, by its end.
pub record HasDone (Input : InputRule) (Early : EarlyRule) (before after : ObjectsValue)
    (acts : List Act) (end : End) : Type 0 where
  pub input : IsByInput end → FollowsLeft Input before after acts end
  pub early : IsByInput end ⊎ StopsLeft Early before after acts end
  -- a fault that ends the session is one of its own objects
  pub read : end ≡ ending.ReadFault → Rose before.input_faults after.input_faults
  pub write : end ≡ ending.WriteFault
      → Rose before.venue_faults after.venue_faults ⊎ Rose before.client_faults after.client_faults
  -- the last act says how it ended
  pub ends : EndsAs acts end
  -- the objects are those that were opened
  pub input_name : after.input_name ≡ before.input_name
  pub venue_name : after.venue_name ≡ before.venue_name
  pub client_name : after.client_name ≡ before.client_name

-- The sessions did so, each with its own objects, and each held to the rules of its number.
pub record HaveDone (Input : ℕ → InputRule) (Early : ℕ → EarlyRule)
    (before after : List ObjectsValue) (acts : List (List Act)) (ends : List End) : Type 0 where
  pub act_count : length acts ≡ length before
  pub end_count : length ends ≡ length before
  pub object_count : length after ≡ length before
  pub each : (session : ℕ) (own now : ObjectsValue) (did : List Act) (end : End)
      → slice_get before session ≡ Some own → slice_get after session ≡ Some now
      → slice_get acts session ≡ Some did → slice_get ends session ≡ Some end
      → HasDone (Input session) (Early session) own now did end
