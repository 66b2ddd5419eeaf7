-- A word is a stamp and a value.
use Rattle.std.specs.Prelude.{◌≡◌, ℕ, ◌+◌, ◌*◌, ◌/◌, ◌%◌, ◌<◌}
use Rattle.fold_law.specs.declared.limits.TheConstants.{STAMPS, VALUES}

-- the word of a stamp and a value
abbrev pub pack_of : ℕ → ℕ → ℕ
pack_of stamp value = stamp * VALUES + value

-- the stamp of a word
abbrev pub stamp_in : ℕ → ℕ
stamp_in word = word / VALUES

-- the value of a word
abbrev pub value_in : ℕ → ℕ
value_in word = word % VALUES

-- the word is that of its stamp and its value, which are in range, and of no other pair in range
pub record IsOnePair (word : ℕ) : Type 0 where
  pub made : word ≡ pack_of (stamp_in word) (value_in word)
  pub stamp : stamp_in word < STAMPS
  pub value : value_in word < VALUES
  pub only : (stamp value : ℕ) → stamp < STAMPS → value < VALUES → word ≡ pack_of stamp value
      → (stamp ≡ stamp_in word) × (value ≡ value_in word)
