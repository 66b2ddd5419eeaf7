-- A session stays the same one over what it does, and stops behind the frames that it took.
use Rattle.std.proofs.Common.{◌≡◌, ℕ, ◌+◌, ◌*◌, ◌≤◌, List, [], length, take, refl, sym, ap, ◌∙◌, arith, inl}
use Rattle.std.specs.Prelude.{◌⊎◌}
use Rattle.std.specs.List.{concat}
use Rattle.std.proofs.lemmas.List.{append-nil, take_all}
use Rattle.fix_fields.specs.Frames.{FrameValue}
use Rattle.gate_ports.specs.Faults.{Rose}
use Rattle.gate_ports.specs.declared.ports.PortFault.TheVariants as fault
use Rattle.risk_journal.specs.declared.acts.End.{End}
use Rattle.risk_journal.specs.declared.acts.End.TheVariants as ending
use Rattle.risk_journal.specs.ActLists.{reads_of}
use Rattle.cross_guard.specs.Giving.{between_by, between_same}
use Rattle.frame_run.specs.Sinks.{SinkValue, IsLaterSink}
use Rattle.cross_guard.specs.Crossing.{Crossing, Continues, TookBy, TookFrames, StoppedFrames, frame_acts}
use Rattle.cross_guard.specs.Crossing.{with_reads}
use Rattle.cross_guard.specs.Follows.{session_with}
use Rattle.cross_guard.specs.Session.{CrossSession}
use Rattle.cross_guard.specs.Told.{Placing, with_places}

-- the same sinks, of which one failed where the end says so
pub record AreSinksDone (pass pass_after client client_after : SinkValue) (end : End) : Type 0 where
  pub pass_later : IsLaterSink pass pass_after
  pub client_later : IsLaterSink client client_after
  pub failed : end ≡ ending.WriteFault
      → Rose pass.faults pass_after.faults ⊎ Rose client.faults client_after.faults

pub same_sink : (sink : SinkValue) → IsLaterSink sink sink
same_sink sink = record { name_is = refl; faults_are = omega arith }

pub later_sink : (a b c : SinkValue) → IsLaterSink a b → IsLaterSink b c → IsLaterSink a c
later_sink a b c one two = record {
  name_is = two.name_is ∙ one.name_is;
  faults_are = omega (arith, one.faults_are, two.faults_are);
}

module _ {H : Type 0} (Same : H → H → Type 0) where
  -- nothing was done
  pub continues_same : ((a : H) → Same a a) → (a : Crossing H) → (acts : ℕ)
      → Continues Same a a acts
  continues_same same a acts = record {
    limits_are = refl;
    told_is = record {
      trees_are = refl;
      quota_is = refl;
      hand_is = same a.told.hand;
      room = omega arith;
      few = omega arith;
    };
    pass_is = same_sink a.pass;
    client_is = same_sink a.client;
  }

  -- one thing was done, and then another
  pub continues_then : ((a b c : H) → Same a b → Same b c → Same a c) → (a b c : Crossing H)
      → (acts more most : ℕ) → Continues Same a b acts → Continues Same b c more
      → acts + more ≤ most → Continues Same a c most
  continues_then next a b c acts more most one two few = record {
    limits_are = two.limits_are ∙ one.limits_are;
    told_is = record {
      trees_are = two.told_is.trees_are ∙ one.told_is.trees_are;
      quota_is = two.told_is.quota_is ∙ one.told_is.quota_is;
      hand_is = next _ _ _ one.told_is.hand_is two.told_is.hand_is;
      room = omega (arith, one.told_is.room, two.told_is.room, few);
      few = omega (arith, one.told_is.few, two.told_is.few, few);
    };
    pass_is = later_sink _ _ _ one.pass_is two.pass_is;
    client_is = later_sink _ _ _ one.client_is two.client_is;
  }

  -- at most so many acts are at most more
  pub continues_most : (a b : Crossing H) (acts most : ℕ) → Continues Same a b acts → acts ≤ most
      → Continues Same a b most
  continues_most a b acts most one few = record {
    limits_are = one.limits_are;
    told_is = record {
      trees_are = one.told_is.trees_are;
      quota_is = one.told_is.quota_is;
      hand_is = one.told_is.hand_is;
      room = omega (arith, one.told_is.room, few);
      few = omega (arith, one.told_is.few, few);
    };
    pass_is = one.pass_is;
    client_is = one.client_is;
  }

  -- so many frames were taken, and then so many more
  pub continues_next : ((a b c : H) → Same a b → Same b c → Same a c) → (a b c : Crossing H)
      → (one two : ℕ) → Continues Same a b (frame_acts * one)
      → Continues Same b c (frame_acts * two) → Continues Same a c (frame_acts * (one + two))
  continues_next next a b c one two first second =
      continues_then next a b c (frame_acts * one) (frame_acts * two) (frame_acts * (one + two))
      first second (omega arith)

-- the session's value is that over the frames, with the reads that the acts have
pub session_by : {H : Type 0} (place : Placing) (input : List ℕ) (start now : Crossing H)
    (frames : List FrameValue) → (took : TookBy place input start frames now)
    → session_with start.limits (reads_of (with_places place now.told.acts)) input frames
    ≡ with_reads [] took.session
session_by place input start now frames took =
    ap (λ rs. session_with start.limits rs input frames)
    (ap reads_of (sym took.stands.acts_are) ∙ sym (append-nil (reads_of took.session.acts)))
    ∙ took.reached []

-- the frames that were taken lead to where the session stopped behind them
pub stopped_whole : {H : Type 0} (input : List ℕ) (start now : Crossing H)
    (frames : List FrameValue) → TookFrames input start frames now
    → StoppedFrames fault.Memory input start frames now
stopped_whole input start now frames took_all = λ place.
    let took = took_all place in
    let reads = reads_of (with_places place now.told.acts) in
    let by = session_by place input start now frames took in
    let passed_is = ap (λ (s : CrossSession). s.passed) by in
    let client_is = ap (λ (s : CrossSession). s.client) by in
    let all : session_with start.limits reads input (take (length frames) frames)
    ≡ with_reads [] took.session =
    ap (session_with start.limits reads input) (take_all (length frames) frames (omega arith)) ∙ by in
    record {
      given = length frames;
      to_pass = concat took.session.passed;
      to_client = concat took.session.client;
      acts_are = sym (ap (λ (s : CrossSession). s.acts) by ∙ took.stands.acts_are);
      pass_got = took.pass_grows;
      client_got = took.client_grows;
      messages = record {
        all_but_one = omega arith;
        pass_is = between_by took.session.passed took.session.passed _ _ _
            (ap (λ (s : CrossSession). s.passed) all) passed_is
            (between_same took.session.passed took.session.passed refl);
        client_is = between_by took.session.client took.session.client _ _ _
            (ap (λ (s : CrossSession). s.client) all) client_is
            (between_same took.session.client took.session.client refl);
        one = inl (ap concat (sym passed_is));
      };
      failed = λ is. absurd cc;
    }
