-- What is said of a session that was filtered is what a task is held to.
use Rattle.std.proofs.Common.{◌≡◌, List}
use Rattle.std.proofs.Common.{inl, inr}
use Rattle.std.specs.Prelude.{◌⊎◌}
use Rattle.gate_ports.specs.Faults.{Rose}
use Rattle.risk_journal.specs.declared.acts.Act.{Act}
use Rattle.risk_journal.specs.declared.acts.End.{End}
use Rattle.risk_journal.specs.declared.acts.End.TheVariants as ending
use Rattle.limit_table.specs.declared.limits.Limits.{Limits}
use Rattle.frame_run.specs.Ends.{IsByInput}
use Rattle.frame_run.specs.Sinks.{SinkValue}
use Rattle.gate_files.specs.Objects.{ObjectsValue}
use Rattle.session_tasks.specs.Rules.{EndsAs, IsByCauses}
use Rattle.session_tasks.specs.Did.{HasDone, StopsLeft}
use Rattle.cross_guard.specs.Follows.{Follows, FollowsInput, StopsEarly, StopsSource}
use Rattle.cross_guard.specs.Lasting.{AreSinksDone}

-- a session's outputs as its filter sees them
abbrev pub venue_of : ObjectsValue → SinkValue
venue_of own =
    record { held = own.venue_held; faults = own.venue_faults; name = own.venue_name }

abbrev pub client_of : ObjectsValue → SinkValue
client_of own =
    record { held = own.client_held; faults = own.client_faults; name = own.client_name }

pub has_done : (limits : Limits) (before after : ObjectsValue) (acts : List Act) (end : End)
    → Follows limits before.left after.left acts end (venue_of before) (venue_of after)
    (client_of before) (client_of after)
    → (end ≡ ending.ReadFault → Rose before.input_faults after.input_faults)
    → after.input_name ≡ before.input_name
    → AreSinksDone (venue_of before) (venue_of after) (client_of before) (client_of after) end
    → EndsAs acts end
    → HasDone (FollowsInput limits) (StopsEarly limits) before after acts end
has_done limits before after acts end follows read name sinks ends = record {
  input = follows.input;
  early = early follows.early;
  read = read;
  write = sinks.failed;
  ends = ends;
  input_name = name;
  venue_name = sinks.pass_later.name_is;
  client_name = sinks.client_later.name_is;
}
  where
    early : (IsByInput end ⊎ StopsSource limits before.left after.left acts end
        (venue_of before) (venue_of after) (client_of before) (client_of after))
        → IsByInput end ⊎ StopsLeft (StopsEarly limits) before after acts end
    early (inl by_input) = inl by_input
    early (inr stops) = inr (record {
      fetched = stops.fetched;
      to_venue = stops.to_pass;
      to_client = stops.to_client;
      taken = stops.taken;
      venue_got = stops.pass_got;
      client_got = stops.client_got;
      stops = stops.stops;
    })

-- what is said of a sink that failed may be anything that follows from it
pub by_causes : (limits : Limits) → IsByCauses (StopsEarly limits)
by_causes limits fetched acts ending.ReadFault venue client V C V' C' v c stops = stops
by_causes limits fetched acts ending.Memory venue client V C V' C' v c stops = stops
by_causes limits fetched acts ending.Whole venue client V C V' C' v c stops = tt
by_causes limits fetched acts (ending.Cut place) venue client V C V' C' v c stops = tt
by_causes limits fetched acts (ending.Broken place) venue client V C V' C' v c stops = tt
by_causes limits fetched acts (ending.TooLong place) venue client V C V' C' v c stops = tt
by_causes limits fetched acts ending.WriteFault venue client V C V' C' v c stops = record {
  behind = stops.behind;
  failed = record { last = stops.failed.last; failed = which stops.failed.failed };
}
  where
    which : {A B : Type 0} → ((V × A) ⊎ (C × B)) → ((V' × A) ⊎ (C' × B))
    which (inl (failed, more)) = inl (v failed, more)
    which (inr (failed, more)) = inr (c failed, more)
