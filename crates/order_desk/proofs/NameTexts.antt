-- The bytes of a name are those of a text.
use Rattle.std.proofs.Common.{◌≡◌, ℕ, ◌<◌, List, [], ◌∷◌, suc, zero, arith, true, slice_index}
use Rattle.std.specs.Prelude.{Bool, nat_le, ◌&&◌}
use Rattle.std.specs.List.{list_all}
use Rattle.std.specs.Str.{IsUtf8}
use Rattle.std.proofs.lemmas.Bool.{and_parts}
use Rattle.std.proofs.lemmas.Str.{IsUtf8-from_ascii}
use Rattle.fix_fields.specs.IdText.{IsId}

-- a byte of a name
abbrev is_printable : ℕ → Bool
is_printable byte = nat_le 32 byte && nat_le byte 126

-- is of ASCII
is_small : (byte : ℕ) → is_printable byte ≡ true → byte < 128
is_small byte is = grind arith

are_small : (text : List ℕ) → list_all is_printable text ≡ true → (i : ℕ)
    → slice_index text i < 128
are_small [] all i = omega arith
are_small (byte ∷ text) all zero = is_small byte (and_parts (is_printable byte) _ all).0
are_small (byte ∷ text) all (suc i) = are_small text (and_parts (is_printable byte) _ all).1 i

pub name_is_text : (name : List ℕ) → IsId name → IsUtf8 name
name_is_text name is = IsUtf8-from_ascii name (are_small name is.printable)
