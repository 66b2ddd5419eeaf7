-- What fetches take from a source.
use Rattle.std.specs.Prelude.{◌≡◌, ℕ, ◌≤◌, List, ◌++◌, length, Option}
use Rattle.std.specs.Io.KnownBytes.{Consumes}

-- the bytes grew by what the source lost, at most so many
pub record GrowsByFetched (left left_after : Option (List ℕ)) (bytes bytes_after : List ℕ)
    (most : ℕ) : Type 0 where
  pub piece : List ℕ
  pub grown : bytes_after ≡ bytes ++ piece
  pub taken : Consumes left left_after piece
  pub no_more : length piece ≤ most
