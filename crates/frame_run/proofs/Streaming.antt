-- The frames of what has come, as the run goes on and where it stops.
use Rattle.std.proofs.Common.{◌≡◌, ℕ, ◌+◌, ◌-◌, ◌≤◌, ◌<◌, List, [], ◌∷◌, ◌++◌, length, take, drop}
use Rattle.std.proofs.Common.{sym, ap, ◌∙◌, subst, true, false, arith, inl, inr, append_assoc}
use Rattle.std.proofs.Common.{length-append, length-drop, Option, Some, None, nat_lt, ◌⊎◌}
use Rattle.std.proofs.lemmas.Bool.{lt-ltb, le-ltb}
use Rattle.std.specs.Io.KnownBytes.{Consumes}
use Rattle.std.proofs.lemmas.List.{append-nil, take_at, take_all, drop-append-le, drop-drop}
use Rattle.std.proofs.lemmas.List.{take-append-le}
use Rattle.std.proofs.Math.Seq.{take-append-add}
use Rattle.fix_fields.specs.Fields.{FieldValue}
use Rattle.fix_fields.specs.Frames.{FrameValue}
use Rattle.fix_fields.specs.Found.{Finds, IsSettled, Splits, StandsAt, frame_value, place_after}
use Rattle.fix_fields.specs.FrameBuffers.{BufferValue, IsOpen, without_front, buffer_most}
use Rattle.fix_fields.specs.Windows.{HoldsRest, moved, moved_frame}
use Rattle.fix_fields.specs.declared.frame.Frame.{Frame}
use Rattle.fix_fields.specs.declared.frame.Found.{Found}
use Rattle.fix_fields.specs.declared.frame.Found.TheVariants as found
use Rattle.fix_fields.proofs.FoundLaws.{found_stays}
use Rattle.fix_fields.proofs.FrameLaws.{frame_within}
use Rattle.fix_fields.proofs.Windows.{holds_none, holds_finds, holds_stands, holds_pass}
use Rattle.gate_ports.proofs.Pieces.{Consumes-append}
use Rattle.gate_ports.specs.declared.ports.PortFault.{PortFault}
use Rattle.gate_ports.specs.declared.ports.PortFault.TheVariants as fault
use Rattle.risk_journal.specs.declared.acts.End.{End}
use Rattle.risk_journal.specs.declared.acts.End.TheVariants as ending
use Rattle.frame_run.specs.declared.ahead.Ahead.{Ahead}
use Rattle.frame_run.specs.Ahead.{LooksAhead, FailsAhead}
use Rattle.frame_run.specs.Ends.{EndsBy, FetchesInput, IsByInput, end_by, input_most}
use Rattle.frame_run.specs.Frames.{IsSameFrame, text_of, text_in}
use Rattle.frame_run.specs.Taking.{Leads, IsUnderWay, TakesNext, TakesInput, TakesSource}
use Rattle.frame_run.specs.Taking.{SplitsTo, Streams, FetchesFrames, StopsNext, StopsReading, StopsBy}
use Rattle.frame_run.proofs.Endings.{either, open_or_settled, open_moved, by_settled}
use Rattle.frame_run.proofs.Fetches.{consumes_none}
use Rattle.frame_run.proofs.Splitting.{splits-snoc, splits-more, splits_then, place_after-snoc}

more_after : (n : ℕ) (got rest : List ℕ) → length got ≤ n
    → take n (got ++ rest) ≡ got ++ take (n - length got) rest
more_after n got rest few =
    let parts : n ≡ length got + (n - length got) = omega arith in
    ap (λ m. take m (got ++ rest)) parts ∙ take-append-add got rest (n - length got)

-- a frame has some bytes, all of them within
pub record EndsWithin (bytes : List ℕ) (f : Frame) : Type 0 where
  pub some : 0 < f.end
  pub inside : f.end ≤ length bytes

pub frame_ends_within : (bytes : List ℕ) (f : Frame) (next : Found) → next ≡ found.Frame f
    → Finds bytes 0 next → EndsWithin bytes f
frame_ends_within bytes f next is finds =
    let at = rw is at finds in
    let w = frame_within bytes 0 (frame_value f at.0) f.body_from f.body_to at.1 in
    record { some = omega (arith, w.some); inside = w.inside }

-- where nothing was fetched
pub fetches_none : (left : Option (List ℕ)) → FetchesInput left left ending.Memory
fetches_none left = record {
  taken = [];
  most = omega arith;
  consumed = consumes_none left;
  broken = λ place is. absurd cc;
}

-- the bytes of a frame in the buffer are those at its place in any input that begins with what has come
text_is : (fetched more : List ℕ) (place : ℕ) (buffer : BufferValue) (f : Frame)
    (fields : Option (List FieldValue)) → HoldsRest fetched place buffer
    → StandsAt buffer.held 0 f fields
    → text_of (fetched ++ more) (frame_value (moved_frame buffer.base f) fields)
    ≡ text_in buffer.held f
text_is fetched more place buffer f fields holds stands =
    let base : ℕ = buffer.base in
    let w = frame_within buffer.held 0 (frame_value f fields) f.body_from f.body_to stands in
    let size : length buffer.held ≡ length fetched - base =
    ap length holds.held ∙ length-drop base fetched in
    let rest : drop (base + f.start) (fetched ++ more) ≡ drop f.start buffer.held ++ more =
    drop-append-le (base + f.start) fetched more (omega (arith, holds.within, size, w.some, w.inside))
    ∙ ap (λ l. l ++ more) (sym (drop-drop f.start base fetched)
    ∙ ap (drop f.start) (sym holds.held)) in
    let count : base + f.end - (base + f.start) ≡ f.end - f.start = omega arith in
    rw (count, rest)
    (take-append-le (f.end - f.start) (drop f.start buffer.held) more
    (omega (arith, length-drop f.start buffer.held, w.inside)))

module _ {T : Type 0} (Took : Leads T) where
  -- frames that lead on over each input that begins so do where more has come
  takes_more : (start now : T) (fetched came : List ℕ) (frames : List FrameValue)
      → ((more : List ℕ) → Took (fetched ++ more) start frames now) → (more : List ℕ)
      → Took ((fetched ++ came) ++ more) start frames now
  takes_more start now fetched came frames took more =
      subst (λ l. Took l start frames now) (sym (append_assoc fetched came more))
      (took (came ++ more))

  -- and over just what has come
  takes_all : (start now : T) (fetched : List ℕ) (frames : List FrameValue)
      → ((more : List ℕ) → Took (fetched ++ more) start frames now) → Took fetched start frames now
  takes_all start now fetched frames took =
      subst (λ l. Took l start frames now) (append-nil fetched) (took [])

  -- what has come stands before what is next, and perhaps a byte came past the input
  pub record ComesTo (start now : T) (left left_after : Option (List ℕ)) (after : BufferValue)
      (next : Found) (over : List ℕ) : Type 0 where
    pub fetched : List ℕ
    pub frames : List FrameValue
    pub taken : Consumes left left_after (fetched ++ over)
    pub holds : HoldsRest fetched (place_after 0 frames) after
    pub split : SplitsTo fetched 0 frames
    pub counted : length frames ≤ place_after 0 frames
    pub took : (more : List ℕ) → Took (fetched ++ more) start frames now
    pub finds : Finds fetched (place_after 0 frames) (moved after.base next)
    pub size : length fetched ≡ after.base + length after.held

  module _ (start now : T) (left left_between left_after : Option (List ℕ)) (ended : Type 0)
      (before after : BufferValue) (ahead : Ahead)
      (s : Streams Took start now left left_between before)
      (look : LooksAhead left_between left_after ended before after ahead) where
    pub comes_to : ComesTo start now left left_after after ahead.next look.over
    comes_to =
        let fetched = s.fetched ++ look.more in
        let place = place_after 0 s.frames in
        let holds = look.holds s.fetched place s.holds in
        record {
          fetched = fetched;
          frames = s.frames;
          taken = subst (Consumes left left_after)
              (sym (append_assoc s.fetched look.more look.over))
              (Consumes-append left left_between left_after s.fetched (look.more ++ look.over)
              s.taken look.taken);
          holds = holds;
          split = splits-more s.fetched look.more 0 s.frames s.split;
          counted = s.counted;
          took = takes_more start now s.fetched look.more s.frames s.took;
          finds = holds_finds fetched place after ahead.next holds look.finds;
          size = omega (arith, holds.within, ap length holds.held, length-drop after.base fetched);
        }

    -- a frame stands next, so fewer frames were taken than an input has bytes
    pub under_way : (f : Frame) → ahead.next ≡ found.Frame f → IsUnderWay Took now
    under_way f is =
        let w = frame_ends_within after.held f ahead.next is look.finds in
        record {
          input = s.fetched ++ [];
          start = start;
          frames = s.frames;
          took = s.took [];
          few = omega (arith, w.some, w.inside, look.few, s.counted, comes_to.holds.after);
        }

    no_byte_past : (f : Frame) → ahead.next ≡ found.Frame f
        → (ahead.goes_on ≡ true) ⊎ (ahead.goes_on ≡ false) → look.over ≡ []
    no_byte_past f is (inl goes) = absurd (subst IsOpen is (look.may goes))
    no_byte_past f is (inr stops) = look.within stops

    -- the frame that stands next, as contracts see it, behind those that were taken
    pub record NextFrame (f : Frame) : Type 0 where
      pub fields : Option (List FieldValue)
      pub frame_is : (more : List ℕ) → IsSameFrame after.held f (comes_to.fetched ++ more)
          (frame_value (moved_frame after.base f) fields)
      pub split : SplitsTo comes_to.fetched 0
          (comes_to.frames ++ frame_value (moved_frame after.base f) fields ∷ [])

    pub next_frame : (f : Frame) → ahead.next ≡ found.Frame f → NextFrame f
    next_frame f is =
        let come = comes_to in
        let finds = rw is at (look.finds) in
        record {
          fields = finds.0;
          frame_is = λ more. record {
            stands = (0, finds.1, finds.2);
            text = text_is come.fetched more (place_after 0 come.frames) after f finds.0 come.holds
                finds.1;
          };
          split = splits-snoc come.fetched 0 come.frames
              (frame_value (moved_frame after.base f) finds.0) (after.base + f.body_from)
              (after.base + f.body_to) come.split
              (holds_stands come.fetched (place_after 0 come.frames) after f finds.0 come.holds
              finds.1);
        }

    -- no byte past the input was fetched before a frame
    taken_before : (f : Frame) → ahead.next ≡ found.Frame f → Consumes left left_after comes_to.fetched
    taken_before f is = subst (Consumes left left_after)
        (ap (λ o. comes_to.fetched ++ o) (no_byte_past f is (either ahead.goes_on))
        ∙ append-nil comes_to.fetched) comes_to.taken

    -- one frame more
    pub streams_on : (passed : BufferValue) (f : Frame) (window : List ℕ) (next : T)
        → ahead.next ≡ found.Frame f → window ≡ after.held → TakesNext Took Took window f now next
        → passed ≡ without_front f.end after → Streams Took start next left left_after passed
    streams_on passed f window next is held takes front =
        let come = comes_to in
        let finds = rw is at (look.finds) in
        let stands = next_frame f is in
        let inside = frame_ends_within after.held f ahead.next is look.finds in
        let one : FrameValue = frame_value (moved_frame after.base f) stands.fields in
        let ends : place_after 0 (come.frames ++ one ∷ []) ≡ one.end =
        place_after-snoc 0 come.frames one in
        let size = length-drop f.end after.held in
        rw front (record {
          fetched = come.fetched;
          frames = come.frames ++ one ∷ [];
          taken = taken_before f is;
          holds = rw ends
              (holds_pass come.fetched (place_after 0 come.frames) after f come.holds finds);
          few = omega (arith, look.few, inside.inside, size);
          split = stands.split;
          counted = omega (
            arith,
            ends,
            length-append come.frames (one ∷ []),
            come.counted,
            come.holds.after,
            inside.some,
          );
          took = λ more. takes (come.fetched ++ more) start come.frames one
              (rw held (stands.frame_is more)) (come.took more);
        })

    -- the frame was refused
    pub stops_at : (Stopped : PortFault → Leads T) (why : PortFault) (f : Frame) (window : List ℕ)
        (next : T) → ahead.next ≡ found.Frame f → window ≡ after.held
        → StopsNext Took Stopped why window f now next
        → StopsBy Took Stopped start next left left_after (end_by why)
    stops_at Stopped why f window next is held stops = by why stops
      where
        stands : NextFrame f
        stands = next_frame f is

        one : FrameValue
        one = frame_value (moved_frame after.base f) stands.fields

        of_window : IsSameFrame window f comes_to.fetched one
        of_window = rw held (rw (append-nil comes_to.fetched) at (stands.frame_is []))

        took : Took comes_to.fetched start comes_to.frames now
        took = takes_all start now comes_to.fetched comes_to.frames comes_to.took

        fetches : (frames : List FrameValue) → SplitsTo comes_to.fetched 0 frames
            → FetchesFrames left left_after frames
        fetches frames split = record {
          fetched = comes_to.fetched;
          taken = taken_before f is;
          few = omega (arith, comes_to.size, look.few);
          split = split;
        }

        by : (why : PortFault) → StopsNext Took Stopped why window f now next
            → StopsBy Took Stopped start next left left_after (end_by why)
        by fault.Failed stops = record {
          frames = comes_to.frames;
          last = one;
          fetches = fetches (comes_to.frames ++ one ∷ []) stands.split;
          stopped = stops comes_to.fetched start comes_to.frames one of_window took;
        }
        by fault.Memory (inl within) = record {
          frames = comes_to.frames ++ one ∷ [];
          fetches = fetches (comes_to.frames ++ one ∷ []) stands.split;
          stopped = within comes_to.fetched start comes_to.frames one of_window took;
        }
        by fault.Memory (inr before) = record {
          frames = comes_to.frames;
          fetches = fetches comes_to.frames comes_to.split;
          stopped = before comes_to.fetched start comes_to.frames took;
        }

    -- of what the source had left, few bytes were taken
    pub fetches_come : (end : End) → ((place : ℕ) → end ≡ ending.Broken place
        → (after.base ≤ place) × (IsOpen ahead.next → ⊥)) → FetchesInput left left_after end
    fetches_come end broken_is = record {
      taken = comes_to.fetched ++ look.over;
      most = by_goes_on (either ahead.goes_on);
      consumed = comes_to.taken;
      broken = λ place is.
          let b = broken_is place is in
          few (either ahead.goes_on) place b.0 b.1;
    }
      where
        by_goes_on : (ahead.goes_on ≡ true) ⊎ (ahead.goes_on ≡ false)
            → length (comes_to.fetched ++ look.over) ≤ input_most + 1
        by_goes_on (inl goes) = omega (
          arith,
          length-append comes_to.fetched look.over,
          (look.past goes).0,
          comes_to.size,
          look.few,
        )
        by_goes_on (inr stops) = omega (
          arith,
          length-append comes_to.fetched look.over,
          ap length (look.within stops),
          comes_to.size,
          look.few,
        )

        few : (ahead.goes_on ≡ true) ⊎ (ahead.goes_on ≡ false) → (place : ℕ)
            → after.base ≤ place → (IsOpen ahead.next → ⊥)
            → length (comes_to.fetched ++ look.over) ≤ place + buffer_most
        few (inl goes) place later settled = absurd (settled (look.may goes))
        few (inr stops) place later settled = omega (
          arith,
          length-append comes_to.fetched look.over,
          ap length (look.within stops),
          comes_to.size,
          look.most,
          later,
        )

  -- before any bytes
  pub streams_none : (start : T) (left : Option (List ℕ)) (buffer : BufferValue)
      → buffer.held ≡ [] → buffer.base ≡ 0 → ((input : List ℕ) → Took input start [] start)
      → Streams Took start start left left buffer
  streams_none start left buffer held base fresh = record {
    fetched = [];
    frames = [];
    taken = consumes_none left;
    holds = holds_none buffer held base;
    few = omega (arith, base, ap length held);
    split = tt;
    counted = omega arith;
    took = fresh;
  }

  -- where a read failed, what was fetched are the frames taken and a rest
  pub stops_reading : (start now : T) (left left_between left_after : Option (List ℕ))
      (before after : BufferValue) → Streams Took start now left left_between before
      → FailsAhead left_between left_after before after
      → StopsReading Took start now left left_after
  stops_reading start now left left_between left_after before after s fails =
      let fetched = s.fetched ++ fails.more in
      let place = place_after 0 s.frames in
      let holds = fails.holds s.fetched place s.holds in
      record {
        fetched = fetched;
        frames = s.frames;
        rest = moved after.base fails.next;
        taken = Consumes-append left left_between left_after s.fetched fails.more s.taken
            fails.taken;
        few = omega (
          arith,
          fails.few,
          holds.within,
          ap length holds.held,
          length-drop after.base fetched,
        );
        split = splits_then fetched 0 s.frames (moved after.base fails.next)
            (splits-more s.fetched fails.more 0 s.frames s.split)
            (holds_finds fetched place after fails.next holds fails.finds);
        may = open_moved after.base fails.next fails.may;
        took = s.took fails.more;
      }

  -- and few bytes were taken
  pub fetches_short : (start now : T) (left left_after : Option (List ℕ))
      → StopsReading Took start now left left_after
      → FetchesInput left left_after ending.ReadFault
  fetches_short start now left left_after stops = record {
    taken = stops.fetched;
    most = omega (arith, stops.few);
    consumed = stops.taken;
    broken = λ place is. absurd cc;
  }

  -- where no frame was taken
  pub stops_first : (Stopped : PortFault → Leads T) (start : T) (left : Option (List ℕ))
      → Stopped fault.Memory [] start [] start
      → StopsBy Took Stopped start start left left ending.Memory
  stops_first Stopped start left stopped = record {
    frames = [];
    fetches = record {
      fetched = [];
      taken = consumes_none left;
      few = omega arith;
      split = tt;
    };
    stopped = stopped;
  }

  -- what stands next is no frame, and no fault ends the run
  pub stops_by_input : (Stopped : PortFault → Leads T) (start now : T)
      (left left_after : Option (List ℕ)) (end : End) → IsByInput end
      → StopsBy Took Stopped start now left left_after end
  stops_by_input Stopped start now left left_after ending.ReadFault by = absurd by
  stops_by_input Stopped start now left left_after ending.WriteFault by = absurd by
  stops_by_input Stopped start now left left_after ending.Memory by = absurd by
  stops_by_input Stopped start now left left_after _ by = tt

  -- the frames of the input were taken, up to what ends the run
  takes_input : (start now : T) (bytes input : List ℕ) (frames : List FrameValue) (next : Found)
      (end : End) → take input_most bytes ≡ input → SplitsTo input 0 frames
      → Finds input (place_after 0 frames) next → Took input start frames now
      → EndsBy (nat_lt input_most (length bytes)) next end → TakesInput Took start now bytes end
  takes_input start now bytes input frames next end is split finds took end_is = record {
    frames = frames;
    next = next;
    split = subst (λ l. Splits l 0 frames next) (sym is)
        (splits_then input 0 frames next split finds);
    took = subst (λ l. Took l start frames now) (sym is) took;
    end_is = end_is;
  }

  -- the frames of what the source had left were taken
  pub takes_come : (start now : T) (left left_between left_after : Option (List ℕ)) (ended : Type 0)
      (before after : BufferValue) (ahead : Ahead) (end : End)
      → (look : LooksAhead left_between left_after ended before after ahead)
      → ComesTo start now left left_after after ahead.next look.over
      → EndsBy ahead.goes_on (moved after.base ahead.next) end
      → TakesSource Took start now left end
  takes_come start now None left_between left_after ended before after ahead end look come end_is =
      tt
  takes_come start now (Some bytes) left_between None ended before after ahead end look come end_is =
      absurd come.taken
  takes_come start now (Some bytes) left_between (Some rest) ended before after ahead end look come
      end_is =
      by_goes_on (either ahead.goes_on)
    where
      next : Found
      next = moved after.base ahead.next

      by_open : ahead.goes_on ≡ false → IsOpen ahead.next ⊎ IsSettled next
          → TakesInput Took start now bytes end
      by_open stops (inl may) =
          let w = look.whole stops may in
          let all : bytes ≡ come.fetched = come.taken
          ∙ ap (λ r. (come.fetched ++ look.over) ++ r) w.1
          ∙ append-nil (come.fetched ++ look.over)
          ∙ ap (λ o. come.fetched ++ o) (look.within stops) ∙ append-nil come.fetched in
          let on : nat_lt input_most (length bytes) ≡ false =
          le-ltb input_most (length bytes) (omega (arith, ap length all, come.size, look.few)) in
          takes_input start now bytes come.fetched come.frames next end
          (ap (take input_most) all
          ∙ take_all input_most come.fetched (omega (arith, come.size, look.few)))
          come.split come.finds (takes_all start now come.fetched come.frames come.took)
          (rw on (rw stops at end_is))
      by_open stops (inr settled) =
          let all : bytes ≡ come.fetched ++ rest = come.taken
          ∙ ap (λ o. (come.fetched ++ o) ++ rest) (look.within stops)
          ∙ ap (λ l. l ++ rest) (append-nil come.fetched) in
          let more = take (input_most - length come.fetched) rest in
          takes_input start now bytes (come.fetched ++ more) come.frames next end
          (ap (take input_most) all
          ∙ more_after input_most come.fetched rest (omega (arith, come.size, look.few)))
          (splits-more come.fetched more 0 come.frames come.split)
          (found_stays come.fetched more (place_after 0 come.frames) next settled come.finds)
          (come.took more)
          (by_settled ahead.goes_on (nat_lt input_most (length bytes)) next end settled end_is)

      by_goes_on : (ahead.goes_on ≡ true) ⊎ (ahead.goes_on ≡ false)
          → TakesInput Took start now bytes end
      by_goes_on (inl goes) =
          let p = look.past goes in
          let on : nat_lt input_most (length bytes) ≡ true =
          lt-ltb input_most (length bytes) (omega (
            arith,
            ap length come.taken,
            length-append (come.fetched ++ look.over) rest,
            length-append come.fetched look.over,
            p.0,
            p.1,
            come.size,
          )) in
          takes_input start now bytes come.fetched come.frames next end
          (ap (take input_most) (come.taken ∙ append_assoc come.fetched look.over rest)
          ∙ take_at come.fetched (look.over ++ rest) input_most (come.size ∙ p.1))
          come.split come.finds (takes_all start now come.fetched come.frames come.took)
          (rw on (rw goes at end_is))
      by_goes_on (inr stops) = by_open stops (open_or_settled after.base ahead.next)
