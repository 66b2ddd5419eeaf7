-- What is fetched to see what stands next.
use Rattle.std.specs.Prelude.{◌≡◌, ℕ, ◌+◌, ◌≤◌, List, [], ◌++◌, length, Option, Bool, true, false}
use Rattle.std.specs.Io.KnownBytes.{Consumes, IsAtEnd}
use Rattle.fix_fields.specs.Found.{Finds}
use Rattle.fix_fields.specs.FrameBuffers.{BufferValue, IsOpen, buffer_most}
use Rattle.fix_fields.specs.declared.frame.Found.{Found}
use Rattle.fix_fields.specs.Windows.{HoldsRest}
use Rattle.frame_run.specs.declared.ahead.Ahead.{Ahead}
use Rattle.frame_run.specs.Ends.{input_most}

-- the buffer holds so many bytes more, which the source lost
pub record FetchesInto (left left_after : Option (List ℕ)) (before after : BufferValue)
    (count most : ℕ) : Type 0 where
  pub piece : List ℕ
  pub taken : Consumes left left_after piece
  pub held : after.held ≡ before.held ++ piece
  pub base : after.base ≡ before.base
  pub counted : length piece ≡ count
  pub few : count ≤ most

-- the source lost a byte, or it is at its end
pub record GoesOn (left left_after : Option (List ℕ)) (ended : Type 0) (on : Bool) : Type 0 where
  pub over : List ℕ
  pub taken : Consumes left left_after over
  pub one : on ≡ true → length over ≡ 1
  pub none : on ≡ false → (over ≡ []) × ended × IsAtEnd left_after

-- More bytes of the input came, and perhaps one past it, and this stands next.
pub record LooksAhead (left left_after : Option (List ℕ)) (ended : Type 0)
    (before after : BufferValue) (ahead : Ahead) : Type 0 where
  pub more : List ℕ
  pub over : List ℕ
  pub taken : Consumes left left_after (more ++ over)
  pub holds : (bytes : List ℕ) (place : ℕ) → HoldsRest bytes place before
      → HoldsRest (bytes ++ more) place after
  pub later : before.base ≤ after.base
  pub few : after.base + length after.held ≤ input_most
  pub most : length after.held ≤ buffer_most
  pub finds : Finds after.held 0 ahead.next
  -- the source goes on past the input
  pub past : ahead.goes_on ≡ true
      → (length over ≡ 1) × (after.base + length after.held ≡ input_most)
  pub within : ahead.goes_on ≡ false → over ≡ []
  pub may : ahead.goes_on ≡ true → IsOpen ahead.next
  -- or it is at its end, where more bytes might change what stands next
  pub whole : ahead.goes_on ≡ false → IsOpen ahead.next → ended × IsAtEnd left_after

-- More bytes of the input came, and a read failed before it was sure that this stands next.
pub record FailsAhead (left left_after : Option (List ℕ)) (before after : BufferValue)
    : Type 0 where
  pub more : List ℕ
  pub next : Found
  pub taken : Consumes left left_after more
  pub holds : (bytes : List ℕ) (place : ℕ) → HoldsRest bytes place before
      → HoldsRest (bytes ++ more) place after
  pub few : after.base + length after.held ≤ input_most
  pub finds : Finds after.held 0 next
  pub may : IsOpen next

-- More bytes of the input came.
pub record HasMore (left left_after : Option (List ℕ)) (before after : BufferValue) : Type 0 where
  pub more : List ℕ
  pub taken : Consumes left left_after more
  pub holds : (bytes : List ℕ) (place : ℕ) → HoldsRest bytes place before
      → HoldsRest (bytes ++ more) place after
  pub later : before.base ≤ after.base
  pub total : after.base + length after.held ≡ before.base + length before.held + length more
  pub few : after.base + length after.held ≤ input_most
