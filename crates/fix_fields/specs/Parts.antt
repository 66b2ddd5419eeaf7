-- The parts that a frame's text is cut into, from the front.
use Rattle.std.specs.Prelude.{◌≡◌, ℕ, ◌-◌, ◌≤◌, ◌<◌, List, ◌∷◌, ◌++◌, length, codes, slice_index}
use Rattle.std.specs.Prelude.{Some, None}
use Rattle.std.specs.List.{last_or}
use Rattle.std.specs.Str.Parse.{digits_value}
use Rattle.fix_fields.specs.Fields.{soh}
use Rattle.fix_fields.specs.Frames.{AreDigits, body_most}
use Rattle.fix_fields.specs.Rests.{BeginsHead, EndsInHead, IsCutText, IsTooLongText, IsBrokenText}
use Rattle.fix_fields.specs.declared.cut.NoFrame.{NoFrame}
use Rattle.fix_fields.specs.declared.cut.NoFrame.TheVariants.{Cut, TooLong, Broken}

-- the text begins with so many digits and SOH, and goes on with `more`
pub record CutsDigits (text : List ℕ) (least most : ℕ) (digits more : List ℕ) : Type 0 where
  pub spelled : text ≡ digits ++ soh ∷ more
  pub are_digits : AreDigits least most digits

-- so many bytes stand before a SOH
pub record IsBeforeSoh (text : List ℕ) (count least : ℕ) : Type 0 where
  pub no_fewer : least ≤ count
  pub inside : count < length text
  pub ended : slice_index text count ≡ soh

-- why no digits of BodyLength (9) and SOH stand in front: none but digits are left, or other bytes
abbrev pub IsNoLength : List ℕ → NoFrame → Type 0
IsNoLength text Cut = AreDigits 0 7 text
IsNoLength text TooLong = ⊥
IsNoLength text Broken =
    ((digits : List ℕ) (more : List ℕ) → CutsDigits text 1 7 digits more → ⊥)
    × (AreDigits 0 7 text → ⊥)

-- why the rest begins with no head
abbrev pub IsNoHead : List ℕ → NoFrame → Type 0
IsNoHead rest Cut = (digits : List ℕ) × (missing : List ℕ) × EndsInHead rest digits missing
IsNoHead rest TooLong = ⊥
IsNoHead rest Broken =
    ((digits : List ℕ) (more : List ℕ) → BeginsHead rest digits more → ⊥)
    × ((digits : List ℕ) (missing : List ℕ) → EndsInHead rest digits missing → ⊥)

-- why the rest begins with no frame
abbrev pub IsNoFrame : List ℕ → NoFrame → Type 0
IsNoFrame rest Cut = IsCutText rest
IsNoFrame rest TooLong = IsTooLongText rest
IsNoFrame rest Broken = IsBrokenText rest

-- the number that these digits write is one that a body's length can be
pub record IsBodyLength (length_digits : List ℕ) (n : ℕ) : Type 0 where
  pub value : n ≡ digits_value 10 length_digits
  pub most : n ≤ body_most

-- so many bytes are some, and the last of them is SOH
pub record EndsThere (text : List ℕ) (count : ℕ) : Type 0 where
  pub some : 1 ≤ count
  pub ended : slice_index text (count - 1) ≡ soh

-- the text begins with a body of so many bytes, and goes on with `more`
pub record CutsBody (text : List ℕ) (count : ℕ) (body more : List ℕ) : Type 0 where
  pub spelled : text ≡ body ++ more
  pub counted : length body ≡ count
  pub some : 0 < length body
  pub ended : last_or None body ≡ Some soh

-- the text begins with field 10 of these three digits, and goes on with `more`
pub record CutsTrailer (text sum_digits more : List ℕ) : Type 0 where
  pub spelled : text ≡ codes "10=" ++ (sum_digits ++ soh ∷ more)
  pub are_digits : AreDigits 3 3 sum_digits

-- the text begins with a body of so many bytes and field 10, and goes on with `more`
pub record CutsTail (text : List ℕ) (count : ℕ) (body sum_digits more : List ℕ) : Type 0 where
  pub after_body : List ℕ
  pub body_is : CutsBody text count body after_body
  pub trailer_is : CutsTrailer after_body sum_digits more
