-- A session stays the same one over what it does, and a fault stays one.
use Rattle.std.proofs.Common.{ℕ, ◌+◌, ◌*◌, ◌≤◌, arith, refl, ◌∙◌}
use Rattle.gate_ports.specs.Faults.{Rose}
use Rattle.frame_run.specs.Sinks.{SinkValue, IsLaterSink}
use Rattle.session_engine.specs.Running.{Running, Continues, frame_acts}

pub same_sink : (sink : SinkValue) → IsLaterSink sink sink
same_sink sink = record { name_is = refl; faults_are = omega arith }

pub later_sink : (a b c : SinkValue) → IsLaterSink a b → IsLaterSink b c → IsLaterSink a c
later_sink a b c one two = record {
  name_is = two.name_is ∙ one.name_is;
  faults_are = omega (arith, one.faults_are, two.faults_are);
}

-- a count that rose from a later one rose
pub rose_later : (a b c : ℕ) → a ≤ b → Rose b c → Rose a c
rose_later a b c later rose = omega (arith, later, rose)

module _ {H M K : Type 0} (SameSum : H → H → Type 0) (SameHalt : M → M → Type 0) where
  -- nothing was done
  pub continues_same : ((a : H) → SameSum a a) → ((a : M) → SameHalt a a) → (a : Running H M K)
      → (acts : ℕ) → Continues SameSum SameHalt a a acts
  continues_same same_sum same_halt a acts = record {
    desk_is = record {
      limits_are = refl;
      hands_are = record {
        halt_tree_is = refl;
        quota_is = refl;
        sum_is = same_sum a.desk.hands.sum;
        halt_is = same_halt a.desk.hands.halt;
        room = omega arith;
        few = omega arith;
      };
    };
    venue_is = same_sink a.venue;
    client_is = same_sink a.client;
  }

  -- one thing was done, and then another
  pub continues_then : ((a b c : H) → SameSum a b → SameSum b c → SameSum a c)
      → ((a b c : M) → SameHalt a b → SameHalt b c → SameHalt a c) → (a b c : Running H M K)
      → (acts more most : ℕ) → Continues SameSum SameHalt a b acts
      → Continues SameSum SameHalt b c more → acts + more ≤ most
      → Continues SameSum SameHalt a c most
  continues_then next_sum next_halt a b c acts more most one two few =
      let first = one.desk_is.hands_are in
      let second = two.desk_is.hands_are in
      record {
        desk_is = record {
          limits_are = two.desk_is.limits_are ∙ one.desk_is.limits_are;
          hands_are = record {
            halt_tree_is = second.halt_tree_is ∙ first.halt_tree_is;
            quota_is = second.quota_is ∙ first.quota_is;
            sum_is = next_sum _ _ _ first.sum_is second.sum_is;
            halt_is = next_halt _ _ _ first.halt_is second.halt_is;
            room = omega (arith, first.room, second.room, few);
            few = omega (arith, first.few, second.few, few);
          };
        };
        venue_is = later_sink _ _ _ one.venue_is two.venue_is;
        client_is = later_sink _ _ _ one.client_is two.client_is;
      }

  -- so many frames were taken, and then so many more
  pub continues_next : ((a b c : H) → SameSum a b → SameSum b c → SameSum a c)
      → ((a b c : M) → SameHalt a b → SameHalt b c → SameHalt a c) → (a b c : Running H M K)
      → (one two : ℕ) → Continues SameSum SameHalt a b (frame_acts * one)
      → Continues SameSum SameHalt b c (frame_acts * two)
      → Continues SameSum SameHalt a c (frame_acts * (one + two))
  continues_next next_sum next_halt a b c one two first second =
      continues_then next_sum next_halt a b c (frame_acts * one) (frame_acts * two)
      (frame_acts * (one + two)) first second (omega arith)
