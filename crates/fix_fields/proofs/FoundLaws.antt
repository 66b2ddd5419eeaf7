-- One thing is found at a place, and which answers stay where bytes are added.
use Rattle.std.proofs.Common.{◌≡◌, ℕ, ◌<◌, ◌≤◌, ◌+◌, List, ◌++◌, length, drop, refl, ap, sym, ◌∙◌}
use Rattle.std.proofs.Common.{arith, subst, is_some, Bool, cond, true, false, suc}
use Rattle.std.proofs.Common.{length-drop, length-append, inl, inr, [], ◌∷◌}
use Rattle.std.proofs.lemmas.List.{drop-append-le}
use Rattle.std.specs.List.{prefix_len}
use Rattle.fix_fields.specs.Frames.{FrameValue, IsFrameAt, IsFrameText, message_place, is_line_end}
use Rattle.fix_fields.specs.Rests.{BeginsFrame, IsCutText, IsBrokenText, IsTooLongText}
use Rattle.fix_fields.specs.Found.{Finds, LeavesRest, IsSettled, IsAtEnd, frame_value}
use Rattle.fix_fields.specs.declared.frame.Frame.{Frame}
use Rattle.fix_fields.specs.declared.frame.Found.{Found}
use Rattle.fix_fields.specs.declared.frame.Found.TheVariants.{Cut, Broken, TooLong}
use Rattle.fix_fields.specs.declared.frame.Found.TheVariants as found
use Rattle.fix_fields.proofs.FrameLaws.{frame_stays, frame_within, one_frame_at, place_stays}
use Rattle.fix_fields.proofs.FrameSizes.{whole_size}
use Rattle.fix_fields.proofs.Rests.{frame_is_not_cut, frame_is_not_long, long_is_not_cut}
use Rattle.fix_fields.proofs.Rests.{frame_before, broken_stays, long_stays, cut_size}

-- the rest that is left stays where bytes are added behind it
rest_stays : (bytes more : List ℕ) (from place : ℕ) → LeavesRest bytes from place
    → LeavesRest (bytes ++ more) from place
rest_stays bytes more from place h =
    let longer = length-append bytes more in
    record {
      begins = h.begins ∙ sym (place_stays bytes more from (omega (arith, h.begins, h.some)));
      some = omega (arith, h.some);
    }

rest_text : (bytes more : List ℕ) (from place : ℕ) → LeavesRest bytes from place
    → drop place (bytes ++ more) ≡ drop place bytes ++ more
rest_text bytes more from place h =
    drop-append-le place bytes more (omega (arith, h.some))

-- a frame, a broken rest and one that is too long stay so where bytes are added at the end
pub found_stays : (bytes more : List ℕ) (from : ℕ) (f : Found) → IsSettled f → Finds bytes from f
    → Finds (bytes ++ more) from f
found_stays bytes more from (found.Frame f) settled (fields, at, sound) =
    (fields, frame_stays bytes more from (frame_value f fields) f.body_from f.body_to at, sound)
found_stays bytes more from found.End settled h = absurd settled
found_stays bytes more from (Cut place) settled h = absurd settled
found_stays bytes more from (Broken place) settled (left, is) = (
  rest_stays bytes more from place left,
  subst IsBrokenText (sym (rest_text bytes more from place left))
      (broken_stays (drop place bytes) more is),
)
found_stays bytes more from (TooLong place) settled (left, is) = (
  rest_stays bytes more from place left,
  subst IsTooLongText (sym (rest_text bytes more from place left))
      (long_stays (drop place bytes) more is),
)

-- what a frame that stands from a place on says of the rest that is left
frame_rest : (bytes : List ℕ) (from : ℕ) (frame : FrameValue) (a b : ℕ)
    → IsFrameAt bytes from frame a b → LeavesRest bytes from frame.place
frame_rest bytes from frame a b at =
    let within = frame_within bytes from frame a b at in
    record { begins = at.place; some = omega (arith, within.some, within.inside) }

frame_begins : (bytes : List ℕ) (from : ℕ) (frame : FrameValue) (a b : ℕ)
    → IsFrameAt bytes from frame a b → BeginsFrame (drop frame.place bytes)
frame_begins bytes from frame a b at = let p = at.parts in (p.0, p.1, p.2, p.3, p.4.text)

-- a rest is left at one place
one_rest : (bytes : List ℕ) (from p q : ℕ) → LeavesRest bytes from p → LeavesRest bytes from q
    → p ≡ q
one_rest bytes from p q h k = h.begins ∙ sym k.begins

-- what is said of the rest at one place, at the other
said_at : (P : List ℕ → Type 0) (bytes : List ℕ) (from p q : ℕ) → LeavesRest bytes from p
    → LeavesRest bytes from q → P (drop p bytes) → P (drop q bytes)
said_at P bytes from p q h k is = subst (λ n. P (drop n bytes)) (one_rest bytes from p q h k) is

left_is_not_end : (bytes : List ℕ) (from place : ℕ) → LeavesRest bytes from place
    → IsAtEnd bytes from → ⊥
left_is_not_end bytes from place h end = omega (arith, h.begins, h.some, end)

-- a frame that is found, as what is said of a rest
pub record IsRest (P : List ℕ → Type 0) (bytes : List ℕ) (from place : ℕ) : Type 0 where
  pub left : LeavesRest bytes from place
  pub is : P (drop place bytes)

frame_is : (bytes : List ℕ) (from : ℕ) (f : Frame) → Finds bytes from (found.Frame f)
    → IsRest BeginsFrame bytes from f.start
frame_is bytes from f (fields, at, sound) = record {
  left = frame_rest bytes from (frame_value f fields) f.body_from f.body_to at;
  is = frame_begins bytes from (frame_value f fields) f.body_from f.body_to at;
}

-- two that exclude each other aren't both left
not_both : (P Q : List ℕ → Type 0) (bytes : List ℕ) (from p q : ℕ)
    → ((rest : List ℕ) → P rest → Q rest → ⊥) → IsRest P bytes from p → IsRest Q bytes from q → ⊥
not_both P Q bytes from p q apart h k =
    apart (drop q bytes) (said_at P bytes from p q h.left k.left h.is) k.is

frame_not_broken : (rest : List ℕ) → BeginsFrame rest → IsBrokenText rest → ⊥
frame_not_broken rest frame broken = broken.no_frame frame

cut_not_broken : (rest : List ℕ) → IsCutText rest → IsBrokenText rest → ⊥
cut_not_broken rest cut broken = broken.not_cut cut

long_not_broken : (rest : List ℕ) → IsTooLongText rest → IsBrokenText rest → ⊥
long_not_broken rest long broken = broken.not_too_long long

-- two frames that are found are one
same_found : (bytes : List ℕ) (from : ℕ) (f g : Frame) → Finds bytes from (found.Frame f)
    → Finds bytes from (found.Frame g) → found.Frame f ≡ found.Frame g
same_found bytes from f g (fields, at, sound) (others, there, told) =
    let same = one_frame_at bytes from (frame_value f fields) f.body_from f.body_to
    (frame_value g others) g.body_from g.body_to at there in
    let make : FrameValue → ℕ → ℕ → Found = λ v a b. found.Frame (record {
      start = v.place;
      body_from = a;
      body_to = b;
      end = v.end;
      sound = is_some v.fields;
    }) in
    let make_sound : Bool → Frame → Found = λ s h. found.Frame (record {
      start = h.start;
      body_from = h.body_from;
      body_to = h.body_to;
      end = h.end;
      sound = s;
    }) in
    ap (λ s. make_sound s f) sound
    ∙ ap (λ v. make v f.body_from f.body_to) same.frame
    ∙ ap (λ a. make (frame_value g others) a f.body_to) same.body_from
    ∙ ap (make (frame_value g others) g.body_from) same.body_to
    ∙ ap (λ s. make_sound s g) (sym told)

rest_of : (P : List ℕ → Type 0) (bytes : List ℕ) (from place : ℕ)
    → LeavesRest bytes from place × P (drop place bytes) → IsRest P bytes from place
rest_of P bytes from place h = record { left = h.0; is = h.1 }

-- one thing is found from a place on
pub one_is_found : (bytes : List ℕ) (from : ℕ) (f g : Found) → Finds bytes from f
    → Finds bytes from g → f ≡ g
one_is_found bytes from (found.Frame f) (found.Frame g) h k = same_found bytes from f g h k
one_is_found bytes from (found.Frame f) found.End h k =
    absurd (left_is_not_end bytes from f.start (frame_is bytes from f h).left k)
one_is_found bytes from (found.Frame f) (Cut q) h k =
    absurd (not_both BeginsFrame IsCutText bytes from f.start q frame_is_not_cut
    (frame_is bytes from f h) (rest_of IsCutText bytes from q k))
one_is_found bytes from (found.Frame f) (Broken q) h k =
    absurd (not_both BeginsFrame IsBrokenText bytes from f.start q frame_not_broken
    (frame_is bytes from f h) (rest_of IsBrokenText bytes from q k))
one_is_found bytes from (found.Frame f) (TooLong q) h k =
    absurd (not_both BeginsFrame IsTooLongText bytes from f.start q frame_is_not_long
    (frame_is bytes from f h) (rest_of IsTooLongText bytes from q k))
one_is_found bytes from found.End (found.Frame g) h k =
    absurd (left_is_not_end bytes from g.start (frame_is bytes from g k).left h)
one_is_found bytes from found.End found.End h k = refl
one_is_found bytes from found.End (Cut q) h k = absurd (left_is_not_end bytes from q k.0 h)
one_is_found bytes from found.End (Broken q) h k = absurd (left_is_not_end bytes from q k.0 h)
one_is_found bytes from found.End (TooLong q) h k = absurd (left_is_not_end bytes from q k.0 h)
one_is_found bytes from (Cut p) (found.Frame g) h k =
    absurd (not_both BeginsFrame IsCutText bytes from g.start p frame_is_not_cut
    (frame_is bytes from g k) (rest_of IsCutText bytes from p h))
one_is_found bytes from (Cut p) found.End h k = absurd (left_is_not_end bytes from p h.0 k)
one_is_found bytes from (Cut p) (Cut q) h k = ap Cut (one_rest bytes from p q h.0 k.0)
one_is_found bytes from (Cut p) (Broken q) h k =
    absurd (not_both IsCutText IsBrokenText bytes from p q cut_not_broken
    (rest_of IsCutText bytes from p h) (rest_of IsBrokenText bytes from q k))
one_is_found bytes from (Cut p) (TooLong q) h k =
    absurd (not_both IsTooLongText IsCutText bytes from q p long_is_not_cut
    (rest_of IsTooLongText bytes from q k) (rest_of IsCutText bytes from p h))
one_is_found bytes from (Broken p) (found.Frame g) h k =
    absurd (not_both BeginsFrame IsBrokenText bytes from g.start p frame_not_broken
    (frame_is bytes from g k) (rest_of IsBrokenText bytes from p h))
one_is_found bytes from (Broken p) found.End h k = absurd (left_is_not_end bytes from p h.0 k)
one_is_found bytes from (Broken p) (Cut q) h k =
    absurd (not_both IsCutText IsBrokenText bytes from q p cut_not_broken
    (rest_of IsCutText bytes from q k) (rest_of IsBrokenText bytes from p h))
one_is_found bytes from (Broken p) (Broken q) h k = ap Broken (one_rest bytes from p q h.0 k.0)
one_is_found bytes from (Broken p) (TooLong q) h k =
    absurd (not_both IsTooLongText IsBrokenText bytes from q p long_not_broken
    (rest_of IsTooLongText bytes from q k) (rest_of IsBrokenText bytes from p h))
one_is_found bytes from (TooLong p) (found.Frame g) h k =
    absurd (not_both BeginsFrame IsTooLongText bytes from g.start p frame_is_not_long
    (frame_is bytes from g k) (rest_of IsTooLongText bytes from p h))
one_is_found bytes from (TooLong p) found.End h k = absurd (left_is_not_end bytes from p h.0 k)
one_is_found bytes from (TooLong p) (Cut q) h k =
    absurd (not_both IsTooLongText IsCutText bytes from p q long_is_not_cut
    (rest_of IsTooLongText bytes from p h) (rest_of IsCutText bytes from q k))
one_is_found bytes from (TooLong p) (Broken q) h k =
    absurd (not_both IsTooLongText IsBrokenText bytes from p q long_not_broken
    (rest_of IsTooLongText bytes from p h) (rest_of IsBrokenText bytes from q k))
one_is_found bytes from (TooLong p) (TooLong q) h k = ap TooLong (one_rest bytes from p q h.0 k.0)

less_if : (b : Bool) (m n len : ℕ) → (m < len → n ≡ m) → cond b (1 + m) 0 < suc len
    → cond b (1 + n) 0 ≡ cond b (1 + m) 0
less_if true m n len same h = ap (λ k. 1 + k) (same (omega arith))
less_if false m n len same h = refl

-- how far a test passes within the front of a list
prefix_in_front : (p : ℕ → Bool) (xs ys : List ℕ) → prefix_len p (xs ++ ys) < length xs
    → prefix_len p xs ≡ prefix_len p (xs ++ ys)
prefix_in_front p [] ys h = absurd (omega arith)
prefix_in_front p (x ∷ xs) ys h =
    less_if (p x) (prefix_len p (xs ++ ys)) (prefix_len p xs) (length xs)
    (prefix_in_front p xs ys) h

-- where a message begins, by what is left when the end is taken away
place_before : (bytes more : List ℕ) (from : ℕ) → message_place (bytes ++ more) from < length bytes
    → message_place bytes from ≡ message_place (bytes ++ more) from
place_before bytes more from h =
    let left = length-drop from bytes in
    let rest = drop-append-le from bytes more (omega arith) in
    let inside : prefix_len is_line_end (drop from bytes ++ more) < length (drop from bytes) =
    omega (arith, ap (prefix_len is_line_end) rest) in
    ap (λ n. from + n) (prefix_in_front is_line_end (drop from bytes) more inside
    ∙ ap (prefix_len is_line_end) (sym rest))

-- bytes that end within a frame are cut there
pub ends_in_frame : (bytes missing : List ℕ) (from : ℕ) (frame : FrameValue) (a b : ℕ)
    → IsFrameAt (bytes ++ missing) from frame a b → frame.place < length bytes
    → length bytes < frame.end → Finds bytes from (Cut frame.place)
ends_in_frame bytes missing from frame a b at some short =
    let p = at.parts in
    let h = p.4 in
    let place = frame.place in
    let rest = drop place bytes in
    let begins : place ≡ message_place bytes from = at.place
    ∙ sym (place_before bytes missing from (omega (arith, at.place))) in
    let longer : drop place (bytes ++ missing) ≡ rest ++ missing =
    drop-append-le place bytes missing (omega arith) in
    let text = subst (λ t. IsFrameText t p.0 p.1 p.2 p.3) longer h.text in
    let cut : IsCutText rest = elim (frame_before rest missing p.0 p.1 p.2 p.3 text) as
    (λ _. IsCutText rest) [
      | inl w ↦ absurd (omega (
        arith,
        whole_size rest p.0 p.1 p.2 w.0 w.1,
        length-drop place bytes,
        h.from,
        h.to,
        h.end,
      ))
      | inr w ↦ w
    ] in
    (record { begins = begins; some = some }, cut)

-- a cut rest is short
pub cut_is_short : (bytes : List ℕ) (from place : ℕ) → Finds bytes from (Cut place)
    → length bytes ≤ place + 8218
cut_is_short bytes from place (left, is) =
    let size = length-drop place bytes in omega (arith, cut_size (drop place bytes) is)
