-- What comes when more is fetched.
use Rattle.std.proofs.Common.{◌≡◌, ℕ, ◌+◌, ◌≤◌, List, [], ◌++◌, length, take, drop, refl, sym, ap}
use Rattle.std.proofs.Common.{◌∙◌, subst, arith, length-append, length-drop, append_assoc, false, Bool}
use Rattle.std.specs.Prelude.{Option, Some, None}
use Rattle.std.specs.Io.KnownBytes.{Consumes, IsAtEnd}
use Rattle.std.proofs.lemmas.List.{take-take, take-append-le, append-nil, nil_from_length}
use Rattle.std.proofs.lemmas.List.Sums.{prefix_len-le-length}
use Rattle.fix_fields.specs.Frames.{is_line_end}
use Rattle.fix_fields.specs.Found.{Finds}
use Rattle.fix_fields.specs.FrameBuffers.{BufferValue, GivesNext, IsOpen, line_ends, buffer_most}
use Rattle.fix_fields.specs.Windows.{HoldsRest}
use Rattle.fix_fields.specs.declared.frame.Found.{Found}
use Rattle.fix_fields.proofs.Windows.{holds_next, holds_more}
use Rattle.gate_ports.proofs.Pieces.{Consumes-append}
use Rattle.frame_run.specs.Ahead.{HasMore, FetchesInto, GoesOn, LooksAhead, FailsAhead}
use Rattle.frame_run.specs.Ends.{input_most}

-- the front of the room is what was written there
pub front_of_room : (room w : List ℕ) (n : ℕ) → n ≤ length w → length w ≡ length room
    → take n (take (length room) (w ++ drop (length w) room)) ≡ take n w
front_of_room room w n few same =
    take-take n (length room) (w ++ drop (length w) room) (omega (arith, same))
    ∙ take-append-le n w (drop (length w) room) few

pub consumes_none : (left : Option (List ℕ)) → Consumes left left []
consumes_none None = tt
consumes_none (Some bytes) = refl

-- CR and LF in front are dropped
pub more_next : (left left_after : Option (List ℕ)) (before middle after : BufferValue) (next : Found)
    → HasMore left left_after before middle → GivesNext middle after next
    → HasMore left left_after before after
more_next left left_after before middle after next m gives =
    let count = prefix_len-le-length is_line_end middle.held in
    let size = length-drop (line_ends middle.held) middle.held in
    record {
      more = m.more;
      taken = m.taken;
      holds = λ bytes place h.
          holds_next (bytes ++ m.more) place middle after next (m.holds bytes place h) gives;
      later = omega (arith, m.later, gives.base);
      total = omega (arith, m.total, gives.base, ap length gives.held, count, size);
      few = omega (arith, m.few, gives.base, ap length gives.held, count, size);
    }

-- more was fetched
pub more_fetched : (left left_between left_after : Option (List ℕ))
    (before middle after : BufferValue) (count most : ℕ) → HasMore left left_between before middle
    → FetchesInto left_between left_after middle after count most
    → middle.base + length middle.held + most ≤ input_most → HasMore left left_after before after
more_fetched left left_between left_after before middle after count most m f fits =
    let size = length-append middle.held f.piece in
    let both = length-append m.more f.piece in
    record {
      more = m.more ++ f.piece;
      taken = Consumes-append left left_between left_after m.more f.piece m.taken f.taken;
      holds = λ bytes place h. subst (λ l. HoldsRest l place after)
          (append_assoc bytes m.more f.piece)
          (holds_more (bytes ++ m.more) f.piece place middle after (m.holds bytes place h) f.held
          f.base);
      later = omega (arith, m.later, f.base);
      total = omega (arith, m.total, f.base, ap length f.held, size, both);
      few = omega (arith, fits, f.base, f.few, f.counted, ap length f.held, size);
    }

-- this stands next, within the input
pub looks_within : (left left_after : Option (List ℕ)) (ended : Type 0)
    (before after : BufferValue) (next : Found) → HasMore left left_after before after
    → length after.held ≤ buffer_most → Finds after.held 0 next
    → (IsOpen next → ended × IsAtEnd left_after)
    → LooksAhead left left_after ended before after (record { next = next; goes_on = false })
looks_within left left_after ended before after next m most finds whole = record {
  more = m.more;
  over = [];
  taken = subst (Consumes left left_after) (sym (append-nil m.more)) m.taken;
  holds = m.holds;
  later = m.later;
  few = m.few;
  most = most;
  finds = finds;
  past = λ is. absurd cc;
  within = λ is. refl;
  may = λ is. absurd cc;
  whole = λ is may. whole may;
}

-- this stands next, and the input has its most bytes
pub looks_past : (left left_between left_after : Option (List ℕ)) (ended : Type 0)
    (before after : BufferValue) (next : Found) (on : Bool) → IsOpen next → HasMore left left_between before after
    → length after.held ≤ buffer_most → Finds after.held 0 next
    → after.base + length after.held ≡ input_most → GoesOn left_between left_after ended on
    → LooksAhead left left_after ended before after (record { next = next; goes_on = on })
looks_past left left_between left_after ended before after next on may m most finds all goes = record {
  more = m.more;
  over = goes.over;
  taken = Consumes-append left left_between left_after m.more goes.over m.taken goes.taken;
  holds = m.holds;
  later = m.later;
  few = m.few;
  most = most;
  finds = finds;
  past = λ is. (goes.one is, all);
  within = λ is. (goes.none is).0;
  may = λ is. may;
  whole = λ is said. ((goes.none is).1, (goes.none is).2);
}

-- the same bytes are held, whatever the room is
holds_same : (bytes : List ℕ) (place : ℕ) (before after : BufferValue)
    → HoldsRest bytes place before → after.held ≡ before.held → after.base ≡ before.base
    → HoldsRest bytes place after
holds_same bytes place before after h held base = record {
  held = held ∙ h.held ∙ ap (λ b. drop b bytes) (sym base);
  within = omega (arith, h.within, base);
  after = omega (arith, h.after, base);
  passed = omega (arith, h.passed, base);
}

-- a read failed where this stood next, and more bytes might have changed it
pub fails_ahead : (left left_between left_after : Option (List ℕ))
    (before middle after : BufferValue) (next : Found) → HasMore left left_between before middle
    → Consumes left_between left_after [] → Finds middle.held 0 next → IsOpen next
    → after.held ≡ middle.held → after.base ≡ middle.base
    → FailsAhead left left_after before after
fails_ahead left left_between left_after before middle after next m none finds may held base =
    record {
      more = m.more;
      next = next;
      taken = subst (Consumes left left_after) (append-nil m.more)
          (Consumes-append left left_between left_after m.more [] m.taken none);
      holds = λ bytes place h.
          holds_same (bytes ++ m.more) place middle after (m.holds bytes place h) held base;
      few = omega (arith, m.few, base, ap length held);
      finds = rw held finds;
      may = may;
    }

-- what is held stays where nothing was fetched
pub held_same : (left left_after : Option (List ℕ)) (before after : BufferValue) (count most : ℕ)
    → FetchesInto left left_after before after count most → count ≡ 0 → after.held ≡ before.held
held_same left left_after before after count most f none =
    f.held ∙ ap (λ l. before.held ++ l) (nil_from_length f.piece (f.counted ∙ none))
    ∙ append-nil before.held
