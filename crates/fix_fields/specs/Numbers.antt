-- How prices, quantities, sequence numbers and ids are spelled.
use Rattle.std.specs.Prelude.{ℕ, ◌+◌, ◌==◌, ◌||◌, ◌&&◌, List, [], ◌∷◌, ◌++◌, length, take, drop}
use Rattle.std.specs.Prelude.{Result, Ok, Err, Bool, false, not, nat_lt, nat_le, if◌then◌else◌}
use Rattle.std.specs.Prelude.{replicate}
use Rattle.std.specs.List.{list_all, before_first, after_first}
use Rattle.std.specs.Char.{is_ascii_digit}
use Rattle.std.specs.Str.Parse.{digits_value}
use Rattle.fix_fields.specs.declared.number.Spelling.{Spelling}
use Rattle.fix_fields.specs.declared.number.Spelling.TheVariants.{Form, Range}

-- the text after a minus sign, if it begins with one
abbrev pub without_minus : List ℕ → List ℕ
without_minus [] = []
without_minus (byte ∷ bytes) = if byte == 45 then bytes else byte ∷ bytes

-- a minus sign stands in front
abbrev pub begins_with_minus : List ℕ → Bool
begins_with_minus [] = false
begins_with_minus (byte ∷ bytes) = byte == 45

-- the point of a decimal
abbrev pub is_point : ℕ → Bool
is_point byte = byte == 46

-- the digits before the point of a decimal
abbrev pub whole_part : List ℕ → List ℕ
whole_part text = before_first is_point (without_minus text)

-- the digits after the point of a decimal
abbrev pub fraction_part : List ℕ → List ℕ
fraction_part text = after_first is_point (without_minus text)

-- an optional minus sign, digits, and optionally a point and digits, with a digit in all
abbrev pub is_decimal : List ℕ → Bool
is_decimal text =
    list_all is_ascii_digit (whole_part text) && list_all is_ascii_digit (fraction_part text)
    && nat_lt 0 (length (whole_part text) + length (fraction_part text))

-- a decimal in units of its place with this number, places past it cut off
abbrev pub scaled : ℕ → List ℕ → ℕ
scaled places text =
    digits_value 10 (whole_part text ++ take places (fraction_part text ++ replicate places 48))

-- a digit other than 0 stands past so many places
abbrev pub is_finer : ℕ → List ℕ → Bool
is_finer places text = not (list_all (λ byte. byte == 48) (drop places (fraction_part text)))

-- a number outside 1 to `most`
abbrev pub is_outside : ℕ → ℕ → Bool
is_outside most n = nat_lt n 1 || nat_lt most n

-- a decimal of at most 32 bytes from 1 to `most` in units of its last place
abbrev pub scaled_number : ℕ → ℕ → List ℕ → Result ℕ Spelling
scaled_number places most text =
    if not (is_decimal text) then Err Form
    else (if begins_with_minus text || nat_lt 32 (length text) || is_finer places text
    || is_outside most (scaled places text)
    then Err Range else Ok (scaled places text))

-- the largest price, 999,999.9999, in ten-thousandths of a currency unit
abbrev pub price_most : ℕ
price_most = 9999999999

-- a price in ten-thousandths of a currency unit
abbrev pub price_of : List ℕ → Result ℕ Spelling
price_of = scaled_number 4 price_most

-- the largest quantity in whole units
abbrev pub quantity_most : ℕ
quantity_most = 1000000000

-- a quantity in whole units
abbrev pub quantity_of : List ℕ → Result ℕ Spelling
quantity_of = scaled_number 0 quantity_most

-- the largest sequence number
abbrev pub sequence_most : ℕ
sequence_most = 999999999

-- a sequence number, in digits alone
abbrev pub sequence_of : List ℕ → Result ℕ Spelling
sequence_of text =
    if not (list_all is_ascii_digit text && nat_lt 0 (length text)) then Err Form
    else (if nat_lt 32 (length text) || is_outside sequence_most (digits_value 10 text)
    then Err Range else Ok (digits_value 10 text))

-- a byte of 32 to 126
abbrev pub is_printable : ℕ → Bool
is_printable byte = nat_le 32 byte && nat_le byte 126

-- 1 to 64 bytes of 32 to 126
abbrev pub id_of : List ℕ → Result (List ℕ) Spelling
id_of text =
    if not (list_all is_printable text) then Err Form
    else (if length text == 0 || nat_lt 64 (length text) then Err Range else Ok text)
