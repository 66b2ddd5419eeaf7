-- What a rest begins with: a frame, or why there is none. A rest is the bytes that are left from a
-- place on.
use Rattle.std.specs.Prelude.{◌≡◌, ℕ, ◌+◌, ◌≤◌, ◌<◌, ◌⊎◌, List, ◌++◌, length}
use Rattle.std.specs.Str.Parse.{digits_value}
use Rattle.fix_fields.specs.Frames.{body_most, head_text, AreDigits, IsFrameText}

-- the rest begins with a frame
abbrev pub BeginsFrame : List ℕ → Type 0
BeginsFrame rest =
    (length_digits : List ℕ) × (body : List ℕ) × (sum_digits : List ℕ) × (more : List ℕ)
    × IsFrameText rest length_digits body sum_digits more

-- the rest begins with a head whose BodyLength (9) has these digits, and goes on with `more`
pub record BeginsHead (rest length_digits more : List ℕ) : Type 0 where
  pub spelled : rest ≡ head_text length_digits ++ more
  pub length_spelled : AreDigits 1 7 length_digits

-- the rest is a head of these digits, short of the bytes that are missing
pub record EndsInHead (rest length_digits missing : List ℕ) : Type 0 where
  pub spelled : rest ++ missing ≡ head_text length_digits
  pub length_spelled : AreDigits 1 7 length_digits
  pub some : 0 < length missing

-- the rest is a head, and fewer bytes than the body and CheckSum (10) take
pub record EndsBehindHead (rest length_digits more : List ℕ) : Type 0 where
  pub head : BeginsHead rest length_digits more
  pub few : digits_value 10 length_digits ≤ body_most
  pub short : length more < digits_value 10 length_digits + 7

-- the rest ends before a frame could
abbrev pub IsCutText : List ℕ → Type 0
IsCutText rest =
    ((length_digits : List ℕ) × (missing : List ℕ) × EndsInHead rest length_digits missing)
    ⊎ ((length_digits : List ℕ) × (more : List ℕ) × EndsBehindHead rest length_digits more)

-- the most bytes of a rest that is cut: 20 of a head, 8,192 of a body and 6 of CheckSum (10)
abbrev pub cut_most : ℕ
cut_most = 8218

-- the rest begins with a head whose BodyLength (9) is above the most
abbrev pub IsTooLongText : List ℕ → Type 0
IsTooLongText rest =
    (length_digits : List ℕ) × (more : List ℕ) × BeginsHead rest length_digits more
    × (body_most < digits_value 10 length_digits)

-- every other rest
pub record IsBrokenText (rest : List ℕ) : Type 0 where
  pub no_frame : BeginsFrame rest → ⊥
  pub not_cut : IsCutText rest → ⊥
  pub not_too_long : IsTooLongText rest → ⊥
