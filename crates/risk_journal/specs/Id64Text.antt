-- What a name of 1 to 64 bytes is, and how it is held in place.
use Rattle.std.specs.Prelude.{◌≡◌, ℕ, ◌≤◌, ◌-◌, ◌++◌, List, length, take, replicate}

-- 1 to 64 bytes
pub record IsId64 (text : List ℕ) : Type 0 where
  pub least : 1 ≤ length text
  pub most : length text ≤ 64

-- the text with zeros up to 64 bytes
abbrev pub padded_name : List ℕ → List ℕ
padded_name text = text ++ replicate (64 - length text) 0

-- the first bytes are the name, and zeros fill the rest
pub record HoldsName (bytes : List ℕ) (len : ℕ) : Type 0 where
  pub name : IsId64 (take len bytes)
  pub padded : bytes ≡ padded_name (take len bytes)
  pub count : length (take len bytes) ≡ len
