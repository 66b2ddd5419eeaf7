-- A session that took frames stops behind them.
use Rattle.std.proofs.Common.{◌≡◌, ℕ, List, [], length, map, take, refl, sym, ap, ◌∙◌, arith, inl}
use Rattle.std.specs.List.{concat}
use Rattle.std.proofs.lemmas.List.{append-nil, take_all}
use Rattle.fix_fields.specs.Frames.{FrameValue}
use Rattle.gate_ports.specs.declared.ports.PortFault.TheVariants as fault
use Rattle.risk_journal.specs.ActLists.{reads_of}
use Rattle.screen_kit.specs.Screens.{ScreenValue}
use Rattle.session_engine.specs.Follows.{IsBetween, session_with}
use Rattle.session_engine.specs.Reaches.{with_reads}
use Rattle.session_engine.specs.Running.{Running, TookFrames, StoppedFrames}

-- nothing is lacking
pub between_same : (before after : List (List ℕ)) → before ≡ after → IsBetween before after (concat after)
between_same before after same = record {
  more = [];
  rest = [];
  begins = ap concat (sym same) ∙ sym (append-nil (concat before));
  within = sym (append-nil (concat after));
}

module _ {H M K : Type 0} (meaning : K → ScreenValue) where
  -- the session's value is that over the frames, with the reads that the acts have
  pub session_by : (start now : Running H M K) (frames : List FrameValue)
      → (took : TookFrames meaning start frames now)
      → session_with start.desk.limits (map meaning start.desk.screens)
      (reads_of now.desk.hands.acts) frames ≡ with_reads [] took.session
  session_by start now frames took =
      ap (λ rs. session_with start.desk.limits (map meaning start.desk.screens) rs frames)
      (ap reads_of (sym took.stands.stands.acts_are)
      ∙ sym (append-nil (reads_of took.session.acts)))
      ∙ took.reached []

  -- the frames that were taken lead to where the session stopped behind them
  pub stopped_whole : (start now : Running H M K) (frames : List FrameValue)
      → TookFrames meaning start frames now
      → StoppedFrames meaning fault.Memory start frames now
  stopped_whole start now frames took =
      let limits = start.desk.limits in
      let screens = map meaning start.desk.screens in
      let reads = reads_of now.desk.hands.acts in
      let by = session_by start now frames took in
      let all : session_with limits screens reads (take (length frames) frames)
      ≡ with_reads [] took.session =
      ap (session_with limits screens reads) (take_all (length frames) frames (omega arith)) ∙ by in
      record {
        given = length frames;
        to_venue = concat took.session.venue;
        to_client = concat took.session.client;
        acts_are = rw by (sym took.stands.stands.acts_are);
        venue_got = took.venue_grows;
        client_got = took.client_grows;
        messages = record {
          all_but_one = omega arith;
          venue_is = rw (all, by) (between_same took.session.venue took.session.venue refl);
          client_is = rw (all, by) (between_same took.session.client took.session.client refl);
          one = inl (rw by refl);
        };
        failed = λ is. absurd cc;
      }
