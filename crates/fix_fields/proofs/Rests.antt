-- The answers on a rest exclude each other, and which of them stay where bytes are added.
use Rattle.std.proofs.Common.{◌≡◌, ℕ, ◌+◌, ◌≤◌, ◌⊎◌, inl, inr, List, [], ◌∷◌, ◌++◌, length}
use Rattle.std.proofs.Common.{ap, sym, ◌∙◌, arith, append_assoc, length-append, codes}
use Rattle.std.specs.Str.Parse.{digits_value}
use Rattle.fix_fields.specs.Fields.{soh}
use Rattle.fix_fields.specs.Frames.{body_most, head_text, trailer_text, IsFrameText}
use Rattle.fix_fields.specs.Rests.{BeginsFrame, BeginsHead}
use Rattle.fix_fields.specs.Rests.{IsCutText, IsTooLongText, IsBrokenText}
use Rattle.fix_fields.specs.Parts.{IsNoHead, IsNoFrame}
use Rattle.fix_fields.specs.declared.cut.NoFrame.{NoFrame}
use Rattle.fix_fields.specs.declared.cut.NoFrame.TheVariants.{Cut, TooLong, Broken}
use Rattle.fix_fields.proofs.Heads.{one_head, not_in_head, head_before, two_fronts}
use Rattle.fix_fields.proofs.Heads.{IsShort}
use Rattle.fix_fields.proofs.FrameParts.{frame_head}
use Rattle.fix_fields.proofs.FrameSizes.{head_size}

-- a head of a length that isn't above the most, with enough bytes behind it
pub record HasBytes (rest digits more : List ℕ) : Type 0 where
  pub head : BeginsHead rest digits more
  pub few : digits_value 10 digits ≤ body_most
  pub enough : digits_value 10 digits + 7 ≤ length more

pub enough_is_not_cut : (rest d more : List ℕ) → HasBytes rest d more → IsCutText rest → ⊥
enough_is_not_cut rest d more h (inl (e, missing, k)) = not_in_head rest d more e missing h.head k
enough_is_not_cut rest d more h (inr (e, x, k)) =
    let same = one_head rest d more e x h.head k.head in
    omega (arith, ap (digits_value 10) same.digits, ap length same.more, k.short, h.enough)

pub few_is_not_long : (rest d more : List ℕ) → BeginsHead rest d more
    → digits_value 10 d ≤ body_most → IsTooLongText rest → ⊥
few_is_not_long rest d more h few (e, x, k, many) =
    omega (arith, ap (digits_value 10) (one_head rest d more e x h k).digits, few, many)

pub long_is_not_cut : (rest : List ℕ) → IsTooLongText rest → IsCutText rest → ⊥
long_is_not_cut rest (d, more, h, many) (inl (e, missing, k)) =
    not_in_head rest d more e missing h k
long_is_not_cut rest (d, more, h, many) (inr (e, x, k)) =
    omega (arith, ap (digits_value 10) (one_head rest d more e x h k.head).digits, k.few, many)

-- a frame has its bytes
pub frame_has : (rest d b s m : List ℕ) → IsFrameText rest d b s m
    → HasBytes rest d (b ++ (codes "10=" ++ (s ++ soh ∷ m)))
frame_has rest d b s m h = record {
  head = frame_head rest d b s m h;
  few = omega (arith, h.counted, h.few);
  enough = omega (
    arith,
    h.counted,
    length-append b (codes "10=" ++ (s ++ soh ∷ m)),
    length-append (codes "10=") (s ++ soh ∷ m),
    length-append s (soh ∷ m),
    h.sum_spelled.no_fewer,
  );
}

pub frame_is_not_cut : (rest : List ℕ) → BeginsFrame rest → IsCutText rest → ⊥
frame_is_not_cut rest (d, b, s, m, h) =
    enough_is_not_cut rest d (b ++ (codes "10=" ++ (s ++ soh ∷ m))) (frame_has rest d b s m h)

pub frame_is_not_long : (rest : List ℕ) → BeginsFrame rest → IsTooLongText rest → ⊥
frame_is_not_long rest (d, b, s, m, h) =
    let has = frame_has rest d b s m h in
    few_is_not_long rest d (b ++ (codes "10=" ++ (s ++ soh ∷ m))) has.head has.few

-- where no head stands, no frame does
pub no_frame_by_head : (rest : List ℕ) (why : NoFrame) → IsNoHead rest why → IsNoFrame rest why
no_frame_by_head rest Cut h = inl h
no_frame_by_head rest TooLong h = absurd h
no_frame_by_head rest Broken h = record {
  no_frame = λ (d, b, s, m, k). h.0 d (b ++ (codes "10=" ++ (s ++ soh ∷ m))) (frame_head rest d b s m k);
  not_cut = not_cut;
  not_too_long = λ (d, more, k, many). h.0 d more k;
}
  where
    not_cut : IsCutText rest → ⊥
    not_cut (inl (d, missing, k)) = h.1 d missing k
    not_cut (inr (d, more, k)) = h.0 d more k.head

-- where a head of a length with enough bytes stands, and no frame, the rest is broken
pub broken_by_tail : (rest d more : List ℕ) → HasBytes rest d more → (BeginsFrame rest → ⊥)
    → IsBrokenText rest
broken_by_tail rest d more h no_frame = record {
  no_frame = no_frame;
  not_cut = enough_is_not_cut rest d more h;
  not_too_long = few_is_not_long rest d more h.head h.few;
}

-- the front of a text that is cut is cut
pub cut_before : (rest x : List ℕ) → IsCutText (rest ++ x) → IsCutText rest
cut_before rest x (inl (d, missing, k)) = inl (
  d,
  x ++ missing,
  record {
    spelled = sym (append_assoc rest x missing) ∙ k.spelled;
    length_spelled = k.length_spelled;
    some = omega (arith, length-append x missing, k.some);
  },
)
cut_before rest x (inr (d, more, k)) = elim (head_before rest x d more k.head) as
    (λ _. IsCutText rest) [
      | inl w ↦ inr (
        d,
        w.0,
        record {
          head = w.1;
          few = k.few;
          short = omega (arith, ap length w.2, length-append w.0 x, k.short);
        },
      )
      | inr w ↦ inl (d, w.0, w.1)
    ]

-- the front of one that is too long is too long, or cut
pub long_before : (rest x : List ℕ) → IsTooLongText (rest ++ x)
    → IsTooLongText rest ⊎ IsCutText rest
long_before rest x (d, more, k, many) = elim (head_before rest x d more k) as
    (λ _. IsTooLongText rest ⊎ IsCutText rest) [
      | inl w ↦ inl (d, w.0, w.1, many)
      | inr w ↦ inr (inl (d, w.0, w.1))
    ]

tail_size : (b s : List ℕ) → length (b ++ trailer_text s) ≡ length b + 4 + length s
tail_size b s = omega (
  arith,
  length-append b (trailer_text s),
  length-append (codes "10=" ++ s) (soh ∷ []),
  length-append (codes "10=") s,
)

-- a text that is short of a frame's end is cut
short_is_cut : (rest x d b s m k : List ℕ) → IsFrameText (rest ++ x) d b s m
    → IsShort (head_text d ++ b ++ trailer_text s) m rest x k → IsCutText rest
short_is_cut rest x d b s m k h short =
    let longer : BeginsHead (rest ++ k) d (b ++ trailer_text s) = record {
      spelled = short.front ∙ append_assoc (head_text d) b (trailer_text s);
      length_spelled = h.length_spelled;
    } in
    elim (head_before rest k d (b ++ trailer_text s) longer) as (λ _. IsCutText rest) [
      | inl w ↦ inr (
        d,
        w.0,
        record {
          head = w.1;
          few = omega (arith, h.counted, h.few);
          short = omega (
            arith,
            ap length w.2,
            length-append w.0 k,
            short.some,
            tail_size b s,
            h.counted,
            h.sum_spelled.no_more,
          );
        },
      )
      | inr w ↦ inl (d, w.0, w.1)
    ]

-- the front of a text that begins with a frame begins with the same frame, or is cut
pub frame_before : (rest x d b s m : List ℕ) → IsFrameText (rest ++ x) d b s m
    → ((k : List ℕ) × IsFrameText rest d b s k) ⊎ IsCutText rest
frame_before rest x d b s m h =
    elim (two_fronts (head_text d ++ b ++ trailer_text s) m rest x (sym h.spelled)) as
    (λ _. ((k : List ℕ) × IsFrameText rest d b s k) ⊎ IsCutText rest) [
      | inl w ↦ inl (
        w.0,
        record {
          spelled = w.1.front;
          length_spelled = h.length_spelled;
          sum_spelled = h.sum_spelled;
          counted = h.counted;
          some = h.some;
          few = h.few;
          ended = h.ended;
        },
      )
      | inr w ↦ inr (short_is_cut rest x d b s m w.0 h w.1)
    ]

pub long_stays : (rest x : List ℕ) → IsTooLongText rest → IsTooLongText (rest ++ x)
long_stays rest x (d, more, h, many) = (
  d,
  more ++ x,
  record {
    spelled = ap (λ t. t ++ x) h.spelled ∙ append_assoc (head_text d) more x;
    length_spelled = h.length_spelled;
  },
  many,
)

pub broken_stays : (rest x : List ℕ) → IsBrokenText rest → IsBrokenText (rest ++ x)
broken_stays rest x h = record {
  no_frame = no_frame;
  not_cut = λ cut. h.not_cut (cut_before rest x cut);
  not_too_long = not_too_long;
}
  where
    no_frame : BeginsFrame (rest ++ x) → ⊥
    no_frame (d, b, s, m, k) =
        elim (frame_before rest x d b s m k) as (λ _. ⊥) [
          | inl w ↦ h.no_frame (d, b, s, w.0, w.1)
          | inr w ↦ h.not_cut w
        ]

    not_too_long : IsTooLongText (rest ++ x) → ⊥
    not_too_long long =
        elim (long_before rest x long) as (λ _. ⊥) [
          | inl w ↦ h.not_too_long w
          | inr w ↦ h.not_cut w
        ]

-- a cut rest has at most 20 bytes of a head, 8,192 of a body and 6 of CheckSum (10)
pub cut_size : (rest : List ℕ) → IsCutText rest → length rest ≤ 8218
cut_size rest (inl (d, missing, h)) = omega (
  arith,
  ap length h.spelled,
  length-append rest missing,
  head_size d,
  h.length_spelled.no_more,
)
cut_size rest (inr (d, more, h)) = omega (
  arith,
  ap length h.head.spelled,
  length-append (head_text d) more,
  head_size d,
  h.head.length_spelled.no_more,
  h.few,
  h.short,
)
