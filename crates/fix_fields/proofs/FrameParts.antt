-- A frame's text is cut into its parts from the front, in one way.
use Rattle.std.proofs.Common.{◌≡◌, ℕ, ◌-◌, ◌<◌, ◌≤◌, List, [], ◌∷◌, ◌++◌, length, take, drop}
use Rattle.std.proofs.Common.{refl}
use Rattle.std.proofs.Common.{ap, sym, ◌∙◌, arith, zero, suc, Option, Some, None, codes}
use Rattle.std.proofs.Common.{slice_index}
use Rattle.std.proofs.Common.{length-append, length-take, subst}
use Rattle.std.proofs.lemmas.List.{take-append-drop}
use Rattle.std.proofs.Math.Seq.{take-append_seam}
use Rattle.std.specs.List.{last_or}
use Rattle.std.specs.Str.Parse.{digits_value}
use Rattle.fix_fields.specs.Fields.{soh}
use Rattle.fix_fields.specs.Frames.{IsFrameText, head_text}
use Rattle.fix_fields.specs.Rests.{BeginsHead}
use Rattle.fix_fields.specs.Parts.{CutsBody, CutsTrailer, CutsTail, IsBodyLength}
use Rattle.fix_fields.specs.Parts.{EndsThere}
use Rattle.fix_fields.proofs.OneFrame.{same_length}
use Rattle.fix_fields.proofs.Heads.{one_head, behind_head}

-- the last of the first bytes
last_taken : (o : Option ℕ) (text : List ℕ) (n : ℕ) → n < length text
    → last_or o (take (suc n) text) ≡ Some (slice_index text n)
last_taken o [] n h = absurd (omega arith)
last_taken o (x ∷ text) zero h = refl
last_taken o (x ∷ text) (suc n) h = last_taken (Some x) text n (omega arith)

last_of : (text : List ℕ) (n : ℕ) → 1 ≤ n → n ≤ length text
    → last_or None (take n text) ≡ Some (slice_index text (n - 1))
last_of text n some h =
    let n' : suc (n - 1) ≡ n = omega arith in
    subst (λ k. last_or None (take k text) ≡ Some (slice_index text (n - 1))) n'
    (last_taken None text (n - 1) (omega arith))

-- where a body is cut off, it ends there
pub body_ends : (text : List ℕ) (count : ℕ) (body more : List ℕ) → CutsBody text count body more
    → EndsThere text count
body_ends text count body more cut =
    let longer = ap length cut.spelled ∙ length-append body more in
    let front : take count text ≡ body = ap (λ k. take k text) (sym cut.counted)
    ∙ ap (take (length body)) cut.spelled ∙ take-append_seam body more in
    let last = last_of text count (omega (arith, cut.counted, cut.some))
    (omega (arith, cut.counted)) in
    let ended : last_or None (take count text) ≡ Some soh = ap (last_or None) front ∙ cut.ended in
    record { some = omega (arith, cut.counted, cut.some); ended = cc }

-- where a body's length ends with SOH, the body is cut off
pub body_there : (text : List ℕ) (count : ℕ) → count ≤ length text → EndsThere text count
    → CutsBody text count (take count text) (drop count text)
body_there text count inside ends =
    let size : length (take count text) ≡ count = omega (arith, length-take count text, inside) in
    record {
      spelled = sym (take-append-drop count text);
      counted = size;
      some = omega (arith, ends.some);
      ended = last_of text count ends.some inside ∙ ap Some ends.ended;
    }

-- the parts make a frame
pub parts_make : (rest d after b s m : List ℕ) (count : ℕ) → BeginsHead rest d after
    → IsBodyLength d count → CutsTail after count b s m → IsFrameText rest d b s m
parts_make rest d after b s m count head size tail = record {
  spelled = head.spelled ∙ ap (λ t. head_text d ++ t) (tail.body_is.spelled
      ∙ ap (λ t. b ++ t) tail.trailer_is.spelled) ∙ sym (behind_head d b s m);
  length_spelled = head.length_spelled;
  sum_spelled = tail.trailer_is.are_digits;
  counted = sym size.value ∙ sym tail.body_is.counted;
  some = tail.body_is.some;
  few = omega (arith, size.most, tail.body_is.counted);
  ended = tail.body_is.ended;
}

-- the head of a frame, and the frame's other parts behind a head
pub frame_head : (rest d b s m : List ℕ) → IsFrameText rest d b s m
    → BeginsHead rest d (b ++ (codes "10=" ++ (s ++ soh ∷ m)))
frame_head rest d b s m h = record {
  spelled = h.spelled ∙ behind_head d b s m;
  length_spelled = h.length_spelled;
}

pub tail_cut : (rest d b s m e after : List ℕ) (count : ℕ) → IsFrameText rest d b s m
    → BeginsHead rest e after → IsBodyLength e count → CutsTail after count b s m
tail_cut rest d b s m e after count h head size =
    let same = one_head rest d _ e after (frame_head rest d b s m h) head in
    record {
      after_body = codes "10=" ++ (s ++ soh ∷ m);
      body_is = record {
        spelled = sym same.more;
        counted = sym h.counted ∙ ap (digits_value 10) same.digits ∙ sym size.value;
        some = h.some;
        ended = h.ended;
      };
      trailer_is = record { spelled = refl; are_digits = h.sum_spelled };
    }

-- a body and a trailer are cut off one after another
pub trailer_cut : (text : List ℕ) (count : ℕ) (b y c s m : List ℕ) → CutsBody text count b y
    → CutsTail text count c s m → CutsTrailer y s m
trailer_cut text count b y c s m body tail =
    let same = same_length b c y tail.after_body (body.counted ∙ sym tail.body_is.counted)
    (sym body.spelled ∙ tail.body_is.spelled) in
    subst (λ t. CutsTrailer t s m) (sym same.1) tail.trailer_is
