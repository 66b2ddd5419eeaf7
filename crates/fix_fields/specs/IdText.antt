-- What an id is, and how it is held in place.
use Rattle.std.specs.Prelude.{◌≡◌, ℕ, ◌≤◌, ◌-◌, ◌++◌, List, length, take, replicate, IsTrue}
use Rattle.std.specs.Prelude.{nat_le, ◌&&◌}
use Rattle.std.specs.List.{list_all}

-- 1 to 64 bytes of 32 to 126
pub record IsId (text : List ℕ) : Type 0 where
  pub printable : IsTrue (list_all (λ byte. nat_le 32 byte && nat_le byte 126) text)
  pub least : 1 ≤ length text
  pub most : length text ≤ 64

-- the text with zeros up to 64 bytes
abbrev pub padded_id : List ℕ → List ℕ
padded_id text = text ++ replicate (64 - length text) 0

-- the first bytes are an id, and zeros fill the rest
pub record HoldsId (bytes : List ℕ) (len : ℕ) : Type 0 where
  pub id : IsId (take len bytes)
  pub padded : bytes ≡ padded_id (take len bytes)
  pub count : length (take len bytes) ≡ len
