-- The steps of one session in a tree's history are its own posts and reads, each once and in its
-- order.
use Rattle.std.proofs.Common.{◌≡◌, ℕ, zero, suc, ◌+◌, ◌≤◌, ◌==◌, List, [], ◌∷◌, ◌++◌, length}
use Rattle.std.proofs.Common.{take, map, refl, ap, sym, ◌∙◌, arith, Bool, true, false, cond}
use Rattle.std.proofs.Common.{append_assoc, length-append}
use Rattle.std.specs.Prelude.{Some, slice_get}
use Rattle.std.specs.List.{enumerate_from}
use Rattle.std.proofs.lemmas.List.{append-nil}
use Rattle.std.proofs.lemmas.List.Elements.{filter-append}
use Rattle.std.proofs.Math.Seq.{take-append_seam}
use Rattle.risk_board.specs.declared.hand.Line.{Line}
use Rattle.risk_board.specs.History.{Event, posted, lines_of, own_lines, IsLegal}
use Rattle.risk_board.specs.History.Event.{Posted, Saw}
use Rattle.admit_core.specs.Admitted.{Moment, reads_at, all_reads_at, moments_from, moments}
use Rattle.admit_core.specs.Admitted.{steps_of, step_of}
use Rattle.admit_core.specs.Admitted.Moment.{Posts}
use Rattle.admit_core.proofs.OwnPlaces.{PlacesRise, places_rise, after_place, none_at_place}
use Rattle.admit_core.proofs.OwnPlaces.{reads_at-after_place, split_at_place, before_place, Fits}
use Rattle.admit_core.proofs.OwnPlaces.{posted-after_place, after_place_rises, after_place_fits}
use Rattle.admit_core.proofs.OwnReads.{steps_of-append, reads_of_session}

-- the lines of a session in front of a place stand before it
front_before : (session place : ℕ) (front rest : List Line) → length front ≤ place
    → length (lines_of session front) ≤ length (lines_of session (take place (front ++ rest)))
front_before session place [] rest inside = omega arith
front_before session zero (line ∷ front) rest inside = absurd (omega arith)
front_before session (suc place) (line ∷ front) rest inside =
    by_test (line.session == session)
    (front_before session place front rest (omega arith))
  where
    by_test : (own : Bool)
        → length (lines_of session front) ≤ length (lines_of session (take place (front ++ rest)))
        → length (cond own (line ∷ lines_of session front) (lines_of session front))
        ≤ length (cond own (line ∷ lines_of session (take place (front ++ rest)))
        (lines_of session (take place (front ++ rest))))
    by_test true le = omega arith
    by_test false le = le

module _ (whole : List ℕ → ℕ) (unit components : ℕ) (lines : List Line)
    (numbered : List (ℕ × List Event)) (session : ℕ) where
  -- These events of the session remain behind the lines before a place, where so many are its own.
  -- Their reads stand at the least place and later, where there are no others of the session.
  record Remain (least place made : ℕ) (before rest : List Line) (left : List Event) : Type 0 where
    at_place : length before ≡ place
    split : lines ≡ before ++ rest
    count : length (lines_of session before) ≡ made
    fits : Fits whole unit components lines session made left
    rises : PlacesRise least left
    posts : lines_of session rest ≡ own_lines session (made + 1) (posted left)
    agree : (at : ℕ) → least ≤ at
        → steps_of session (all_reads_at at numbered) ≡ reads_at session at left

  -- so many lines of the session stand before the place
  counted : (least place made : ℕ) (before rest : List Line) (left : List Event)
      → Remain least place made before rest left
      → before_place whole unit components lines session place ≡ made
  counted least place made before rest left remain =
      ap (λ n. length (lines_of session (take n lines))) (sym remain.at_place)
      ∙ ap (λ l. length (lines_of session (take (length before) l))) remain.split
      ∙ ap (λ l. length (lines_of session l)) (take-append_seam before rest)
      ∙ remain.count

  -- behind the reads at the place
  behind_reads : (place made : ℕ) (before rest : List Line) (left : List Event)
      → Remain place place made before rest left
      → Remain (place + 1) place made before rest (after_place place left)
  behind_reads place made before rest left remain = record {
    at_place = remain.at_place;
    split = remain.split;
    count = remain.count;
    fits = after_place_fits whole unit components lines session place made left remain.fits;
    rises = after_place_rises whole unit components lines session place made left
        (counted place place made before rest left remain) remain.rises remain.fits;
    posts = remain.posts ∙ sym (ap (own_lines session (made + 1)) (posted-after_place place left));
    agree = λ at later. remain.agree at (omega arith)
        ∙ sym (reads_at-after_place session place at left (omega arith));
  }

  -- the lines with one more
  one_more : (place : ℕ) (before : List Line) (line : Line) → length before ≡ place
      → length (before ++ line ∷ []) ≡ place + 1
  one_more place before line at_place = length-append before (line ∷ []) ∙ omega arith

  count_more : (before : List Line) (line : Line) (own : Bool) → (line.session == session) ≡ own
      → length (lines_of session (before ++ line ∷ []))
      ≡ length (lines_of session before) + length (cond own (line ∷ []) [])
  count_more before line own is =
      ap length (filter-append (λ l. l.session == session) before (line ∷ []))
      ∙ length-append (lines_of session before) (lines_of session (line ∷ []))
      ∙ ap (λ b. length (lines_of session before) + length (cond b (line ∷ []) [])) is

  -- behind a line of another session
  behind_other : (place made : ℕ) (before : List Line) (line : Line) (rest : List Line)
      (left : List Event) → (line.session == session) ≡ false
      → Remain (place + 1) place made before (line ∷ rest) left
      → Remain (place + 1) (place + 1) made (before ++ line ∷ []) rest left
  behind_other place made before line rest left other remain = record {
    at_place = one_more place before line remain.at_place;
    split = remain.split ∙ sym (append_assoc before (line ∷ []) rest);
    count = count_more before line false other ∙ omega (arith, remain.count);
    fits = remain.fits;
    rises = remain.rises;
    posts = sym (ap (λ b. cond b (line ∷ lines_of session rest) (lines_of session rest)) other)
        ∙ remain.posts;
    agree = remain.agree;
  }

  -- where the line is the session's it stands first among the lines of its posts
  own_first : (least place made : ℕ) (before : List Line) (line : Line) (rest : List Line)
      (left : List Event) → (line.session == session) ≡ true
      → Remain least place made before (line ∷ rest) left
      → line ∷ lines_of session rest ≡ own_lines session (made + 1) (posted left)
  own_first least place made before line rest left own remain =
      sym (ap (λ b. cond b (line ∷ lines_of session rest) (lines_of session rest)) own)
      ∙ remain.posts

  -- so the next event is its post
  behind_own : (place made : ℕ) (before : List Line) (line : Line) (rest : List Line)
      (value : ℕ) (left : List Event) → (line.session == session) ≡ true
      → Remain (place + 1) place made before (line ∷ rest) (Posted value ∷ left)
      → Remain (place + 1) (place + 1) (made + 1) (before ++ line ∷ []) rest left
  behind_own place made before line rest value left own remain =
      let first = own_first (place + 1) place made before line rest (Posted value ∷ left) own
      remain in record {
        at_place = one_more place before line remain.at_place;
        split = remain.split ∙ sym (append_assoc before (line ∷ []) rest);
        count = count_more before line true own ∙ omega (arith, remain.count);
        fits = remain.fits;
        rises = remain.rises;
        posts = cc;
        agree = remain.agree;
      }

  own_then : (place made : ℕ) (before : List Line) (line : Line) (rest : List Line)
      (left : List Event) → (line.session == session) ≡ true
      → Remain (place + 1) place made before (line ∷ rest) left
      → ((later : List Event)
      → Remain (place + 1) (place + 1) (made + 1) (before ++ line ∷ []) rest later
      → steps_of session (moments_from (place + 1) rest numbered) ≡ map (step_of session) later)
      → Posts line.session line.value ∷ steps_of session (moments_from (place + 1) rest numbered)
      ≡ map (step_of session) left
  own_then place made before line rest [] own remain go =
      let first = own_first (place + 1) place made before line rest [] own remain in absurd (cc)
  own_then place made before line rest (Posted value ∷ left) own remain go =
      let first = own_first (place + 1) place made before line rest (Posted value ∷ left) own
      remain in
      let is : line ≡ record { session = session; index = made + 1; value = value } = cc in
      let later = go left (behind_own place made before line rest value left own remain) in
      ap (λ (l : Line). Posts l.session l.value
      ∷ steps_of session (moments_from (place + 1) rest numbered)) is
      ∙ ap (λ s. Posts session value ∷ s) later
  own_then place made before line rest (Saw stamp at value ∷ left) own remain go =
      let front : List Line = before ++ line ∷ [] in
      let all : lines ≡ front ++ rest =
      remain.split ∙ sym (append_assoc before (line ∷ []) rest) in
      let inside : length front ≤ at =
      omega (arith, one_more place before line remain.at_place, remain.rises.0) in
      absurd (omega (
        arith,
        front_before session at front rest inside,
        ap (λ l. length (lines_of session (take at l))) all,
        remain.fits.2,
        count_more before line true own,
        remain.count,
      ))

  -- at the end no event remains behind the reads there
  none_left : (place made : ℕ) (before : List Line) (left : List Event)
      → Remain (place + 1) place made before [] left → left ≡ []
  none_left place made before [] remain = refl
  none_left place made before (Posted value ∷ left) remain = absurd (let p = remain.posts in cc)
  none_left place made before (Saw stamp at value ∷ left) remain =
      absurd (omega (
        arith,
        remain.fits.0,
        remain.rises.0,
        ap length remain.split,
        length-append before [],
        remain.at_place,
      ))

  -- the steps of the session from a place on are the events that remain
  steps_from : (place made : ℕ) (before rest : List Line) (left : List Event)
      → Remain place place made before rest left
      → steps_of session (moments_from place rest numbered) ≡ map (step_of session) left
  steps_from place made before [] left remain =
      let behind = behind_reads place made before [] left remain in
      let none = none_at_place session place (place + 1) (after_place place left) (omega arith)
      behind.rises in
      remain.agree place (omega arith)
      ∙ sym (split_at_place session place left none
      ∙ ap (λ e. reads_at session place left ++ map (step_of session) e)
      (none_left place made before (after_place place left) behind)
      ∙ append-nil (reads_at session place left))
  steps_from place made before (line ∷ rest) left remain =
      let behind = behind_reads place made before (line ∷ rest) left remain in
      let none = none_at_place session place (place + 1) (after_place place left) (omega arith)
      behind.rises in
      let more = Posts line.session line.value ∷ moments_from (place + 1) rest numbered in
      steps_of-append session (all_reads_at place numbered) more
      ∙ ap (λ s. s ++ steps_of session more) (remain.agree place (omega arith))
      ∙ ap (λ s. reads_at session place left ++ s)
      (by_test (line.session == session) refl behind
      (λ count later. steps_from (place + 1) count (before ++ line ∷ []) rest later))
      ∙ sym (split_at_place session place left none)
    where
      tail : List Moment
      tail = moments_from (place + 1) rest numbered

      by_test : (own : Bool) → (line.session == session) ≡ own
          → Remain (place + 1) place made before (line ∷ rest) (after_place place left)
          → ((count : ℕ) (later : List Event)
          → Remain (place + 1) (place + 1) count (before ++ line ∷ []) rest later
          → steps_of session tail ≡ map (step_of session) later)
          → cond own (Posts line.session line.value ∷ steps_of session tail)
          (steps_of session tail) ≡ map (step_of session) (after_place place left)
      by_test true own behind go =
          own_then place made before line rest (after_place place left) own behind (go (made + 1))
      by_test false other behind go = go made (after_place place left)
          (behind_other place made before line rest (after_place place left) other behind)

-- In a legal history the steps of a session are its own posts and reads.
pub steps_are_own : (whole : List ℕ → ℕ) (unit components : ℕ) (lines : List Line)
    (events : List (List Event)) → IsLegal whole unit components lines events
    → (session : ℕ) (own : List Event) → slice_get events session ≡ Some own
    → steps_of session (moments lines events) ≡ map (step_of session) own
steps_are_own whole unit components lines events legal session own at =
    let numbered = enumerate_from 0 events in
    steps_from whole unit components lines numbered session 0 0 [] lines own record {
      at_place = refl;
      split = refl;
      count = refl;
      fits = (legal.each session own at).reads;
      rises = places_rise 0 own (legal.each session own at).stamps
          (legal.places session own session own at at);
      posts = (legal.each session own at).each_once;
      agree = λ place later.
          reads_of_session session place 0 session events own (omega arith) at;
    }
