-- The frame that begins right at a place.
use Rattle.std.specs.Prelude.{◌≡◌, ℕ, List, Option, is_some}
use Rattle.fix_fields.specs.Fields.{FieldValue}
use Rattle.fix_fields.specs.Frames.{HasParts}
use Rattle.fix_fields.specs.Found.{frame_value}
use Rattle.fix_fields.specs.declared.frame.Frame.{Frame}

-- the frame begins right there, and is told to be sound exactly where it has fields
pub record StandsHere (bytes : List ℕ) (place : ℕ) (f : Frame) : Type 0 where
  pub start : f.start ≡ place
  pub fields : Option (List FieldValue)
  pub length_digits : List ℕ
  pub body : List ℕ
  pub sum_digits : List ℕ
  pub more : List ℕ
  pub parts : HasParts bytes (frame_value f fields) f.body_from f.body_to length_digits body
      sum_digits more
  pub sound : f.sound ≡ is_some fields
