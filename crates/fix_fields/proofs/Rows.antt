-- Worked rows meet the definitions: a frame, and rests that are cut, too long and broken.
use Rattle.std.proofs.Common.{◌≡◌, ℕ, ◌<◌, List, [], ◌∷◌, ◌++◌, refl, codes, arith, drop, length, ap}
use Rattle.std.proofs.Common.{◌∙◌, sym, true, min, inl, inr, length-append, slice_index}
use Rattle.std.specs.Fmt.{digits}
use Rattle.std.specs.List.{flat_map, list_all, prefix_len}
use Rattle.std.specs.Char.{is_ascii_digit}
use Rattle.std.specs.Str.Parse.{digits_value}
use Rattle.fix_fields.specs.Fields.{FieldValue, field, field_text, soh, checksum_of}
use Rattle.fix_fields.specs.Frames.{IsFrameText, head_text, begin_text, AreDigits}
use Rattle.fix_fields.specs.Rests.{BeginsHead, BeginsFrame, IsCutText, IsTooLongText, IsBrokenText}
use Rattle.fix_fields.specs.Parts.{CutsDigits}
use Rattle.fix_fields.specs.declared.cut.NoFrame.TheVariants.{Broken}
use Rattle.fix_fields.proofs.Cuts.{finds_cut}
use Rattle.fix_fields.proofs.FrameParts.{frame_head}
use Rattle.fix_fields.proofs.FrameSizes.{whole_size}
use Rattle.fix_fields.proofs.Heads.{no_head, no_head_by_length, one_head}
use Rattle.fix_fields.proofs.Rests.{frame_before, no_frame_by_head, broken_by_tail}

abbrev fields : List FieldValue
fields =
    field 35 (codes "D") ∷ field 49 (codes "C1") ∷ field 56 (codes "GATE") ∷ field 34
    (codes "1") ∷ field 52 (codes "20240102-10:00:00")
    ∷ field 11 (codes "a1") ∷ field 1 (codes "ACC") ∷ field 55 (codes "XYZ") ∷ field 54
    (codes "1") ∷ field 38 (codes "100")
    ∷ field 40 (codes "2") ∷ field 44 (codes "10.0000") ∷ field 60 (codes "20240102-10:00:00") ∷ []

abbrev body : List ℕ
body =
    codes "35=D" ++ soh ∷ codes "49=C1" ++ soh ∷ codes "56=GATE" ++ soh ∷ codes "34=1" ++ soh
    ∷ codes "52=20240102-10:00:00" ++ soh ∷ codes "11=a1" ++ soh ∷ codes "1=ACC" ++ soh ∷ codes
    "55=XYZ" ++ soh ∷ codes "54=1" ++ soh ∷ codes "38=100" ++ soh ∷ codes "40=2" ++ soh
    ∷ codes "44=10.0000" ++ soh ∷ codes "60=20240102-10:00:00" ++ soh ∷ []

abbrev bytes : List ℕ
bytes = codes "8=FIX.4.4" ++ soh ∷ codes "9=113" ++ soh ∷ body ++ codes "10=175" ++ soh ∷ []

is_body : body ≡ flat_map field_text fields
unfolding digits
is_body = refl

text : IsFrameText (drop 0 bytes) (codes "113") body (codes "175") []
text = record {
  spelled = refl;
  length_spelled = record { each = refl; no_fewer = omega arith; no_more = omega arith };
  sum_spelled = record { each = refl; no_fewer = omega arith; no_more = omega arith };
  counted = refl;
  some = omega arith;
  few = omega arith;
  ended = refl;
}

sound_sum : checksum_of (head_text (codes "113") ++ body) ≡ 175
sound_sum = refl

-- that frame short of some bytes is cut
short : (rest missing : List ℕ) → rest ++ missing ≡ bytes → 0 < length missing → IsCutText rest
short rest missing is some =
    let longer : IsFrameText (rest ++ missing) (codes "113") body (codes "175") [] = rw is text in
    elim (frame_before rest missing (codes "113") body (codes "175") [] longer) as
    (λ _. IsCutText rest) [
      | inl w ↦ absurd (omega (
        arith,
        whole_size rest (codes "113") body (codes "175") w.0 w.1,
        ap length is,
        length-append rest missing,
      ))
      | inr w ↦ w
    ]

abbrev head : List ℕ → List ℕ
head length_digits = codes "8=FIX.4.4" ++ soh ∷ codes "9=" ++ length_digits

are_length : (d : List ℕ) → list_all is_ascii_digit d ≡ true → 0 < length d → length d < 8
    → AreDigits 1 7 d
are_length d each some few =
    record { each = each; no_fewer = omega arith; no_more = omega arith }

-- a length above the most, whatever follows
above_most : (more : List ℕ) → IsTooLongText (head (codes "8193") ++ soh ∷ more)
above_most more = (
  codes "8193",
  more,
  record {
    spelled = refl;
    length_spelled = are_length (codes "8193") refl (omega arith) (omega arith);
  },
  omega arith,
)

apart : (a b : ℕ) → a < b → a ≡ b → ⊥
apart a b less e = omega arith

-- another version, whatever follows
other_version : (more : List ℕ) → IsBrokenText (codes "8=FIX.4.2" ++ more)
other_version more = no_frame_by_head (codes "8=FIX.4.2" ++ more) Broken
    (no_head (codes "8=FIX.4.2" ++ more)
    (λ after is. apart 50 52 (omega arith) cc)
    (λ missing is. apart 50 52 (omega arith) cc))

-- a length of eight digits, whatever follows
eight_digits : (more : List ℕ) → IsBrokenText (head (codes "00000010" ++ more))
eight_digits more =
    let after = codes "00000010" ++ more in
    let no_cut : (d : List ℕ) (m : List ℕ) → CutsDigits after 1 7 d m → ⊥ = λ d m cut.
    let found = finds_cut 1 7 after d m cut.are_digits cut.spelled in
    let seven : min 7 (prefix_len is_ascii_digit after) ≡ 7 = omega arith in
    apart 1 48 (omega arith) (sym (ap (slice_index after) (sym seven) ∙ found.ended)) in
    no_frame_by_head (begin_text ++ after) Broken (no_head_by_length (begin_text ++ after) after
    refl Broken (no_cut, λ are. let few = are.no_more in omega arith))

-- a length of zero with the bytes of CheckSum behind it
no_body : (more : List ℕ) → IsBrokenText (head (codes "0") ++ soh ∷ codes "10=200" ++ soh ∷ more)
no_body more =
    let rest = head (codes "0") ++ soh ∷ codes "10=200" ++ soh ∷ more in
    let behind = codes "10=200" ++ soh ∷ more in
    let stands : BeginsHead rest (codes "0") behind = record {
      spelled = refl;
      length_spelled = are_length (codes "0") refl (omega arith) (omega arith);
    } in
    let no_frame : BeginsFrame rest → ⊥ = λ (d, b, s, m, h).
    let same = one_head rest (codes "0") behind d _ stands (frame_head rest d b s m h) in
    omega (arith, ap (digits_value 10) same.digits, h.counted, h.some) in
    broken_by_tail rest (codes "0") behind
    record { head = stands; few = omega arith; enough = omega arith } no_frame
