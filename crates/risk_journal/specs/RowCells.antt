-- The cells of a row of numbers.
use Rattle.std.specs.Prelude.{ℕ, List, [], decimal, Option, Some, None, Bool, ◌==◌}

-- a number's digits, and nothing where there is none
abbrev pub cell_text : Option ℕ → List ℕ
cell_text None = []
cell_text (Some number) = decimal number

-- a byte is the comma between cells
abbrev pub is_comma : ℕ → Bool
is_comma byte = byte == 44
