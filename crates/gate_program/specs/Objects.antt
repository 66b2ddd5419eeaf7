-- The inputs and outputs of sessions: what is told of them, and what a run does with them.
use Rattle.std.specs.Prelude.{◌≡◌, ℕ, List, length, Option, Some, None, IfSome}
use Rattle.std.specs.Prelude.{IsSome}
use Rattle.std.specs.Prelude.{slice_get, ◌⊎◌, false}
use Rattle.gate_ports.specs.Faults.{Rose}
use Rattle.gate_ports.specs.Names.{Texts}
use Rattle.session_engine.specs.Follows.{SinkValue}
use Rattle.limit_table.specs.declared.limits.Limits.{Limits}
use Rattle.risk_journal.specs.declared.acts.Act.{Act}
use Rattle.risk_journal.specs.declared.acts.End.{End}
use Rattle.risk_journal.specs.declared.acts.End.TheVariants as ending
use Rattle.screen_kit.specs.Screens.{ScreenValue}
use Rattle.session_engine.specs.Follows.{Follows, EndsAs}
use Rattle.session_engine.specs.Session.{armed_for}
use Rattle.gate_files.specs.Words.{RunWords, output_names, is_among}
use Rattle.gate_program.specs.Run.{set_of}
use Rattle.gate_files.specs.Objects.{ObjectsValue, EachHolds}

-- a session's outputs as its run sees them
abbrev pub venue_of : ObjectsValue → SinkValue
venue_of own =
    record { held = own.venue_held; faults = own.venue_faults; name = own.venue_name }

abbrev pub client_of : ObjectsValue → SinkValue
client_of own =
    record { held = own.client_held; faults = own.client_faults; name = own.client_name }

-- What a session did with its objects and these screens, by its end.
pub record HasDone (limits : Limits) (screens : List ScreenValue) (before after : ObjectsValue)
    (acts : List Act) (end : End) : Type 0 where
  pub follows : Follows limits (armed_for limits screens) before.left after.left acts end
      (venue_of before) (venue_of after) (client_of before) (client_of after)
  -- a fault that ends the session is one of its own objects
  pub read : end ≡ ending.ReadFault → Rose before.input_faults after.input_faults
  pub write : end ≡ ending.WriteFault
      → Rose before.venue_faults after.venue_faults ⊎ Rose before.client_faults after.client_faults
  -- the last act says how it ended
  pub ends : EndsAs acts end
  -- the objects are those that were opened
  pub input_name : after.input_name ≡ before.input_name
  pub venue_name : after.venue_name ≡ before.venue_name
  pub client_name : after.client_name ≡ before.client_name

-- The sessions did so, each with its own objects and its own set of these screens.
pub record HaveDone (limits : Limits) (sets : List (List ScreenValue))
    (before after : List ObjectsValue) (acts : List (List Act)) (ends : List End) : Type 0 where
  pub act_count : length acts ≡ length before
  pub end_count : length ends ≡ length before
  pub object_count : length after ≡ length before
  pub each : (session : ℕ) (own now : ObjectsValue) (did : List Act) (end : End)
      → slice_get before session ≡ Some own → slice_get after session ≡ Some now
      → slice_get acts session ≡ Some did → slice_get ends session ≡ Some end
      → HasDone limits (set_of sets session) own now did end

-- The outputs and the journal are written, and names that are no outputs keep their texts, where
-- the
-- folder tells its texts.
pub record AreWritten (run : RunWords) (before after : Option Texts) (objects : List ObjectsValue)
    : Type 0 where
  pub tells : before ≡ None → after ≡ None
  pub goes_on : IsSome before → IsSome after
  pub holds : IfSome before (λ old. IfSome after (λ new. EachHolds run new objects))
  pub others : IfSome before (λ old. IfSome after (λ new. (name : List ℕ)
      → is_among name (output_names run.out (length run.sessions)) ≡ false → new name ≡ old name))
