-- How long a frame's parts are, and where they stand.
use Rattle.std.proofs.Common.{◌≡◌, ℕ, ◌+◌, ◌≤◌, List, [], ◌∷◌, ◌++◌, length, take, drop}
use Rattle.std.proofs.Common.{ap, sym}
use Rattle.std.proofs.Common.{◌∙◌, arith, append_assoc, length-append, length-drop, codes, ◌-◌}
use Rattle.std.proofs.lemmas.List.{drop-drop}
use Rattle.std.proofs.Math.Seq.{take-append_seam, drop-append_seam}
use Rattle.fix_fields.specs.Fields.{soh}
use Rattle.fix_fields.specs.Frames.{IsFrameText, head_text, trailer_text, begin_text, HasParts}
use Rattle.fix_fields.specs.Frames.{FrameValue}

pub head_size : (d : List ℕ) → length (head_text d) ≡ 13 + length d
head_size d = omega (arith, length-append (begin_text ++ d) (soh ∷ []), length-append begin_text d)

trailer_size : (s : List ℕ) → length (trailer_text s) ≡ 4 + length s
trailer_size s = omega (
  arith,
  length-append (codes "10=" ++ s) (soh ∷ []),
  length-append (codes "10=") s,
)

-- how long the text is, and what stands before CheckSum (10)
module _ (rest d b s m : List ℕ) (h : IsFrameText rest d b s m) where
  pub front_size : length (head_text d ++ b) ≡ 13 + length d + length b
  front_size = omega (arith, length-append (head_text d) b, head_size d)

  pub whole_size : length rest ≡ 13 + length d + length b + 7 + length m
  whole_size = omega (
    arith,
    ap length h.spelled,
    length-append (head_text d ++ b ++ trailer_text s) m,
    length-append (head_text d ++ b) (trailer_text s),
    front_size,
    trailer_size s,
    h.sum_spelled.no_fewer,
    h.sum_spelled.no_more,
  )

  pub front_is : take (13 + length d + length b) rest ≡ head_text d ++ b
  front_is = ap (λ n. take n rest) (sym front_size) ∙ ap (take (length (head_text d ++ b)))
      (h.spelled ∙ append_assoc (head_text d ++ b) (trailer_text s) m)
      ∙ take-append_seam (head_text d ++ b) (trailer_text s ++ m)

-- where the body stands in the bytes, and what it is
pub record IsBodyAt (bytes : List ℕ) (body_from body_to : ℕ) (body : List ℕ) : Type 0 where
  pub ordered : body_from ≤ body_to
  pub inside : body_to ≤ length bytes
  pub is : take (body_to - body_from) (drop body_from bytes) ≡ body

pub body_at : (bytes : List ℕ) (frame : FrameValue) (body_from body_to : ℕ) (d b s m : List ℕ)
    → HasParts bytes frame body_from body_to d b s m → IsBodyAt bytes body_from body_to b
body_at bytes frame body_from body_to d b s m h =
    let rest = drop frame.place bytes in
    let tail = trailer_text s ++ m in
    let size = whole_size rest d b s m h.text in
    let left = length-drop frame.place bytes in
    let flat : rest ≡ head_text d ++ (b ++ tail) = h.text.spelled
    ∙ append_assoc (head_text d ++ b) (trailer_text s) m ∙ append_assoc (head_text d) b tail in
    let place : body_from ≡ frame.place + length (head_text d) =
    omega (arith, h.from, head_size d) in
    let there : drop body_from bytes ≡ b ++ tail = ap (λ n. drop n bytes) place
    ∙ sym (drop-drop (length (head_text d)) frame.place bytes)
    ∙ ap (drop (length (head_text d))) flat ∙ drop-append_seam (head_text d) (b ++ tail) in
    let count : body_to - body_from ≡ length b = omega (arith, h.to) in
    record {
      ordered = omega (arith, h.to);
      inside = omega (arith, h.from, h.to);
      is = ap (λ n. take n (drop body_from bytes)) count ∙ ap (take (length b)) there
          ∙ take-append_seam b tail;
    }
