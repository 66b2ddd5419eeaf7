-- What stands from a place on, and how bytes split into frames.
use Rattle.std.specs.Prelude.{◌≡◌, ℕ, ◌≤◌, ◌<◌, List, [], ◌∷◌, length, drop, Option, is_some}
use Rattle.fix_fields.specs.Fields.{FieldValue}
use Rattle.fix_fields.specs.Frames.{FrameValue, IsFrameAt, message_place}
use Rattle.fix_fields.specs.Rests.{IsCutText, IsBrokenText, IsTooLongText}
use Rattle.fix_fields.specs.declared.frame.Frame.{Frame}
use Rattle.fix_fields.specs.declared.frame.Found.{Found}
use Rattle.fix_fields.specs.declared.frame.Found.TheVariants.{Cut, Broken, TooLong}
use Rattle.fix_fields.specs.declared.frame.Found.TheVariants as found

-- a frame as contracts see it, with these fields where it is sound
abbrev pub frame_value : Frame → Option (List FieldValue) → FrameValue
frame_value f fields = record { place = f.start; end = f.end; fields = fields }

-- this frame stands from a place on, with these fields where it is sound
abbrev pub StandsAt : List ℕ → ℕ → Frame → Option (List FieldValue) → Type 0
StandsAt bytes from f fields = IsFrameAt bytes from (frame_value f fields) f.body_from f.body_to

-- nothing but CR and LF is left
abbrev pub IsAtEnd : List ℕ → ℕ → Type 0
IsAtEnd bytes from = length bytes ≤ message_place bytes from

-- behind CR and LF a rest is left, and begins at this place
pub record LeavesRest (bytes : List ℕ) (from place : ℕ) : Type 0 where
  pub begins : place ≡ message_place bytes from
  pub some : place < length bytes

-- What is found from a place on: a frame, the end, or why the rest that is left begins with no frame.
abbrev pub Finds : List ℕ → ℕ → Found → Type 0
Finds bytes from (found.Frame f) =
    (fields : Option (List FieldValue)) × StandsAt bytes from f fields × (f.sound ≡ is_some fields)
Finds bytes from found.End = IsAtEnd bytes from
Finds bytes from (Cut place) = LeavesRest bytes from place × IsCutText (drop place bytes)
Finds bytes from (Broken place) = LeavesRest bytes from place × IsBrokenText (drop place bytes)
Finds bytes from (TooLong place) = LeavesRest bytes from place × IsTooLongText (drop place bytes)

-- an answer that no bytes behind can change
abbrev pub IsSettled : Found → Type 0
IsSettled (found.Frame f) = Unit {0}
IsSettled found.End = ⊥
IsSettled (Cut place) = ⊥
IsSettled (Broken place) = Unit {0}
IsSettled (TooLong place) = Unit {0}

-- from a place on, the bytes are these frames, and then the next thing found
abbrev pub Splits : List ℕ → ℕ → List FrameValue → Found → Type 0
Splits bytes from [] next = Finds bytes from next
Splits bytes from (frame ∷ frames) next =
    (body_from : ℕ) × (body_to : ℕ) × IsFrameAt bytes from frame body_from body_to
    × Splits bytes frame.end frames next

-- the place after the last of these frames
abbrev pub place_after : ℕ → List FrameValue → ℕ
place_after from [] = from
place_after from (frame ∷ frames) = place_after frame.end frames
