-- An input and a list of reads give a session's acts: there are no others.
use Rattle.std.proofs.Common.{◌≡◌, ℕ, List, [], ◌∷◌, ◌++◌, length, take, refl, sym, ap, ◌∙◌, subst, is_some}
use Rattle.std.specs.Prelude.{Bool, true, false, nat_lt}
use Rattle.fix_fields.specs.Frames.{FrameValue, IsFrameAt}
use Rattle.fix_fields.specs.Found.{Finds, Splits}
use Rattle.fix_fields.specs.declared.frame.Frame.{Frame}
use Rattle.fix_fields.specs.declared.frame.Found.{Found}
use Rattle.fix_fields.specs.declared.frame.Found.TheVariants as found
use Rattle.fix_fields.proofs.FoundLaws.{one_is_found}
use Rattle.fix_fields.proofs.FrameLaws.{one_frame_at}
use Rattle.frame_run.specs.Ends.{EndsBy, IsNoFrame, input_most}
use Rattle.risk_journal.specs.ActLists.{SeenAt}
use Rattle.risk_journal.specs.declared.acts.Act.{Act}
use Rattle.risk_journal.specs.declared.acts.Act.TheVariants.{Ended}
use Rattle.risk_journal.specs.declared.acts.End.{End}
use Rattle.screen_kit.specs.Screens.{ScreenValue}
use Rattle.session_engine.specs.Session.{LimitsValue, opening, after_frames}
use Rattle.journal_check.specs.SessionActs.{IsSessionOf}

-- what ends a run is no frame
ended_by_none : (goes_on : Bool) (next : Found) (end : End) → EndsBy goes_on next end
    → IsNoFrame next
ended_by_none goes_on (found.Frame f) end ends = absurd ends
ended_by_none goes_on found.End end ends = tt
ended_by_none goes_on (found.Cut place) end ends = tt
ended_by_none goes_on (found.Broken place) end ends = tt
ended_by_none goes_on (found.TooLong place) end ends = tt

-- and says how it ended
one_end : (goes_on : Bool) (next : Found) (end other : End) → EndsBy goes_on next end
    → EndsBy goes_on next other → end ≡ other
one_end goes_on (found.Frame f) end other one two = absurd one
one_end true found.End end other one two = one ∙ sym two
one_end false found.End end other one two = one ∙ sym two
one_end true (found.Cut place) end other one two = one ∙ sym two
one_end false (found.Cut place) end other one two = one ∙ sym two
one_end goes_on (found.Broken place) end other one two = one ∙ sym two
one_end goes_on (found.TooLong place) end other one two = one ∙ sym two

-- where a frame stands, nothing else is found
no_other : (bytes : List ℕ) (from : ℕ) (frame : FrameValue) (body_from body_to : ℕ) (next : Found)
    → IsFrameAt bytes from frame body_from body_to → Finds bytes from next → IsNoFrame next → ⊥
no_other bytes from frame body_from body_to next stands finds no_frame =
    let here : Frame = record {
      start = frame.place;
      body_from = body_from;
      body_to = body_to;
      end = frame.end;
      sound = is_some frame.fields;
    } in
    subst IsNoFrame
    (one_is_found bytes from next (found.Frame here) finds (frame.fields, stands, refl)) no_frame

-- the frames and what stands behind them
pub record SplitAlike (frames others : List FrameValue) (next other : Found) : Type 0 where
  pub frames_are : frames ≡ others
  pub next_is : next ≡ other

-- bytes split in one way
pub one_split : (bytes : List ℕ) (from : ℕ) (frames others : List FrameValue) (next other : Found)
    → Splits bytes from frames next → IsNoFrame next → Splits bytes from others other
    → IsNoFrame other → SplitAlike frames others next other
one_split bytes from [] [] next other one none two nor = record {
  frames_are = refl;
  next_is = one_is_found bytes from next other one two;
}
one_split bytes from [] (frame ∷ others) next other one none two nor =
    absurd (no_other bytes from frame two.0 two.1 next two.2 one none)
one_split bytes from (frame ∷ frames) [] next other one none two nor =
    absurd (no_other bytes from frame one.0 one.1 other one.2 two nor)
one_split bytes from (frame ∷ frames) (another ∷ others) next other one none two nor =
    let same = (one_frame_at bytes from frame one.0 one.1 another two.0 two.1 one.2 two.2).frame in
    let later = one_split bytes another.end frames others next other
    (subst (λ (f : FrameValue). Splits bytes f.end frames next) same one.3) none two.3 nor in
    record {
      frames_are = ap (λ f. f ∷ frames) same ∙ ap (λ more. another ∷ more) later.frames_are;
      next_is = later.next_is;
    }

-- Two lists of acts that are a session's of the same input and reads are the same.
pub session_is_one : (limits : LimitsValue) (screens : List ScreenValue) (bytes : List ℕ)
    (reads : List SeenAt) (one other : List Act) → IsSessionOf limits screens bytes reads one
    → IsSessionOf limits screens bytes reads other → one ≡ other
session_is_one limits screens bytes reads one other first second =
    let goes_on = nat_lt input_most (length bytes) in
    let split = one_split (take input_most bytes) 0 first.frames second.frames first.next second.next
    first.split (ended_by_none goes_on first.next first.end first.end_is) second.split
    (ended_by_none goes_on second.next second.end second.end_is) in
    let end = one_end goes_on second.next first.end second.end
    (subst (λ next. EndsBy goes_on next first.end) split.next_is first.end_is) second.end_is in
    first.acts_are
    ∙ ap (λ frames. (after_frames limits (opening limits screens reads) frames).acts
    ++ Ended first.end ∷ []) split.frames_are
    ∙ ap (λ own. (after_frames limits (opening limits screens reads) second.frames).acts
    ++ Ended own ∷ []) end
    ∙ sym second.acts_are
