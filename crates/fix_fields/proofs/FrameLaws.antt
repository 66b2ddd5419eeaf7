-- A frame stays one where bytes are added, stands alone at its place, and ends within the bytes.
use Rattle.std.proofs.Common.{◌≡◌, ℕ, ◌+◌, ◌<◌, ◌≤◌, List, [], ◌∷◌, ◌++◌, length, drop, refl, ap}
use Rattle.std.proofs.Common.{sym, ◌∙◌}
use Rattle.std.proofs.Common.{arith, Bool, true, false, cond, suc, Option, Some, None, subst}
use Rattle.std.proofs.Common.{append_assoc, is_some}
use Rattle.std.proofs.Common.{length-drop}
use Rattle.std.proofs.lemmas.List.{drop-append-le}
use Rattle.std.specs.List.{prefix_len}
use Rattle.fix_fields.specs.Fields.{FieldValue}
use Rattle.fix_fields.specs.Frames.{FrameValue, IsFrameAt, IsFrameText, HasFields}
use Rattle.fix_fields.specs.Frames.{head_text}
use Rattle.fix_fields.specs.Frames.{is_line_end, message_place, trailer_text}
use Rattle.fix_fields.specs.Found.{Finds, StandsAt}
use Rattle.fix_fields.specs.Places.{IsSoundIn}
use Rattle.fix_fields.specs.declared.frame.Frame.{Frame}
use Rattle.fix_fields.specs.declared.frame.Found.TheVariants as found
use Rattle.fix_fields.proofs.FieldList.{one_list}
use Rattle.fix_fields.proofs.FrameSizes.{whole_size}
use Rattle.fix_fields.proofs.OneFrame.{one_frame}

kept_if : (b : Bool) (m n len : ℕ) → (n < len → m ≡ n) → cond b (1 + n) 0 < suc len
    → cond b (1 + m) 0 ≡ cond b (1 + n) 0
kept_if true m n len same h = ap (λ k. 1 + k) (same (omega arith))
kept_if false m n len same h = refl

-- how far a test passes stays where elements are added behind one that fails it
prefix_kept : (p : ℕ → Bool) (xs ys : List ℕ) → prefix_len p xs < length xs
    → prefix_len p (xs ++ ys) ≡ prefix_len p xs
prefix_kept p [] ys h = absurd (omega arith)
prefix_kept p (x ∷ xs) ys h =
    kept_if (p x) (prefix_len p (xs ++ ys)) (prefix_len p xs) (length xs) (prefix_kept p xs ys) h

-- a text that begins with a frame does so with more bytes behind
pub text_stays : (rest d b s m more : List ℕ) → IsFrameText rest d b s m
    → IsFrameText (rest ++ more) d b s (m ++ more)
text_stays rest d b s m more h = record {
  spelled = ap (λ t. t ++ more) h.spelled
      ∙ append_assoc (head_text d ++ b ++ trailer_text s) m more;
  length_spelled = h.length_spelled;
  sum_spelled = h.sum_spelled;
  counted = h.counted;
  some = h.some;
  few = h.few;
  ended = h.ended;
}

-- a frame ends after it begins, and within the bytes
pub record IsWithin (bytes : List ℕ) (from : ℕ) (frame : FrameValue) : Type 0 where
  pub after : from ≤ frame.place
  pub some : frame.place < frame.end
  pub inside : frame.end ≤ length bytes

pub frame_within : (bytes : List ℕ) (from : ℕ) (frame : FrameValue) (a b : ℕ)
    → IsFrameAt bytes from frame a b → IsWithin bytes from frame
frame_within bytes from frame a b at =
    let p = at.parts in
    let size = whole_size (drop frame.place bytes) p.0 p.1 p.2 p.3 p.4.text in
    let left = length-drop frame.place bytes in
    record {
      after = omega (arith, at.place);
      some = omega (arith, p.4.from, p.4.to, p.4.end);
      inside = omega (arith, p.4.from, p.4.to, p.4.end);
    }

-- where a message begins stays where bytes are added behind
pub place_stays : (bytes more : List ℕ) (from : ℕ) → message_place bytes from < length bytes
    → message_place (bytes ++ more) from ≡ message_place bytes from
place_stays bytes more from h =
    let left = length-drop from bytes in
    ap (λ t. from + prefix_len is_line_end t) (drop-append-le from bytes more (omega arith))
    ∙ ap (λ n. from + n) (prefix_kept is_line_end (drop from bytes) more (omega arith))

-- a frame stays one where bytes are added at the end
pub frame_stays : (bytes more : List ℕ) (from : ℕ) (frame : FrameValue) (a b : ℕ)
    → IsFrameAt bytes from frame a b → IsFrameAt (bytes ++ more) from frame a b
frame_stays bytes more from frame a b at =
    let p = at.parts in
    let h = p.4 in
    let within = frame_within bytes from frame a b at in
    let rest : drop frame.place (bytes ++ more) ≡ drop frame.place bytes ++ more =
    drop-append-le frame.place bytes more (omega (arith, within.some, within.inside)) in
    record {
      place = at.place ∙ sym (place_stays bytes more from (omega (
        arith,
        at.place,
        within.some,
        within.inside,
      )));
      parts = (
        p.0,
        p.1,
        p.2,
        p.3 ++ more,
        record {
          text = subst (λ t. IsFrameText t p.0 p.1 p.2 (p.3 ++ more)) (sym rest)
              (text_stays (drop frame.place bytes) p.0 p.1 p.2 p.3 more h.text);
          from = h.from;
          to = h.to;
          end = h.end;
          fields = h.fields;
        },
      );
    }

-- a frame has at most one list of fields, or is not sound
pub one_fields : (before s body : List ℕ) (f g : Option (List FieldValue))
    → HasFields before s body f → HasFields before s body g → f ≡ g
one_fields before s body None None h k = refl
one_fields before s body None (Some gs) h k = absurd (h gs k)
one_fields before s body (Some fs) None h k = absurd (k fs h)
one_fields before s body (Some fs) (Some gs) h k = ap Some (one_list body fs gs h.listed k.listed)

-- the same frame, with its body at the same place
pub record IsSameAt (f : FrameValue) (a b : ℕ) (g : FrameValue) (c d : ℕ) : Type 0 where
  pub frame : f ≡ g
  pub body_from : a ≡ c
  pub body_to : b ≡ d

-- at most one frame stands at a place
pub one_frame_at : (bytes : List ℕ) (from : ℕ) (f : FrameValue) (a b : ℕ) (g : FrameValue) (c d : ℕ)
    → IsFrameAt bytes from f a b → IsFrameAt bytes from g c d → IsSameAt f a b g c d
one_frame_at bytes from f a b g c d h k =
    let p = h.parts in
    let q = k.parts in
    let place : f.place ≡ g.place = h.place ∙ sym k.place in
    let text = subst (λ n. IsFrameText (drop n bytes) p.0 p.1 p.2 p.3) place p.4.text in
    let same = one_frame (drop g.place bytes) p.0 p.1 p.2 p.3 q.0 q.1 q.2 q.3 text q.4.text in
    let digits = ap length same.digits in
    let size = ap length same.body in
    let body_from : a ≡ c = omega (arith, p.4.from, q.4.from, place, digits) in
    let body_to : b ≡ d = omega (arith, p.4.to, q.4.to, body_from, size) in
    let end : f.end ≡ g.end = omega (arith, p.4.end, q.4.end, body_to) in
    let told = subst (λ x. HasFields
    (head_text x ++ p.1) p.2 p.1 f.fields) same.digits p.4.fields in
    let told' = subst (λ x. HasFields (head_text q.0 ++ x) p.2 x f.fields) same.body told in
    let told'' = subst (λ x. HasFields (head_text q.0 ++ q.1) x q.1 f.fields) same.sum told' in
    let fields = one_fields (head_text q.0 ++ q.1) q.2 q.1 f.fields g.fields told'' q.4.fields in
    let make : ℕ → ℕ → Option (List FieldValue) → FrameValue =
    λ place end fields. record { place = place; end = end; fields = fields } in
    record {
      frame = ap (λ n. make n f.end f.fields) place ∙ ap (λ n. make g.place n f.fields) end
          ∙ ap (make g.place g.end) fields;
      body_from = body_from;
      body_to = body_to;
    }

-- a frame that is found and told to be sound has fields
pub found_sound : (bytes : List ℕ) (from : ℕ) (f : Frame) → Finds bytes from (found.Frame f)
    → f.sound ≡ true → IsSoundIn bytes f
found_sound bytes from f told sound = has_some told.0 told.1 (sym told.2 ∙ sound)
  where
    has_some : (fields : Option (List FieldValue)) → StandsAt bytes from f fields
        → is_some fields ≡ true → IsSoundIn bytes f
    has_some None at is = absurd (let bad : false ≡ true = is in cc)
    has_some (Some fields) at is = (fields, (from, at))
