-- Bytes split into frames, one frame after another.
use Rattle.std.proofs.Common.{◌≡◌, ℕ, List, [], ◌∷◌, ◌++◌, refl}
use Rattle.fix_fields.specs.Frames.{FrameValue, IsFrameAt}
use Rattle.fix_fields.specs.Found.{Splits, Finds, place_after}
use Rattle.fix_fields.specs.declared.frame.Found.{Found}
use Rattle.fix_fields.proofs.FrameLaws.{frame_stays}
use Rattle.frame_run.specs.Taking.{SplitsTo}

pub splits-snoc : (bytes : List ℕ) (from : ℕ) (frames : List FrameValue) (frame : FrameValue)
    (body_from body_to : ℕ) → SplitsTo bytes from frames
    → IsFrameAt bytes (place_after from frames) frame body_from body_to
    → SplitsTo bytes from (frames ++ frame ∷ [])
splits-snoc bytes from [] frame body_from body_to split stands = (body_from, body_to, stands, tt)
splits-snoc bytes from (x ∷ frames) frame body_from body_to split stands = (
  split.0,
  split.1,
  split.2,
  splits-snoc bytes x.end frames frame body_from body_to split.3 stands,
)

pub place_after-snoc : (from : ℕ) (frames : List FrameValue) (frame : FrameValue)
    → place_after from (frames ++ frame ∷ []) ≡ frame.end
place_after-snoc from [] frame = refl
place_after-snoc from (x ∷ frames) frame = place_after-snoc x.end frames frame

pub splits_then : (bytes : List ℕ) (from : ℕ) (frames : List FrameValue) (next : Found)
    → SplitsTo bytes from frames → Finds bytes (place_after from frames) next
    → Splits bytes from frames next
splits_then bytes from [] next split finds = finds
splits_then bytes from (x ∷ frames) next split finds =
    (split.0, split.1, split.2, splits_then bytes x.end frames next split.3 finds)

-- frames stay where bytes are added
pub splits-more : (bytes more : List ℕ) (from : ℕ) (frames : List FrameValue)
    → SplitsTo bytes from frames → SplitsTo (bytes ++ more) from frames
splits-more bytes more from [] split = tt
splits-more bytes more from (x ∷ frames) split = (
  split.0,
  split.1,
  frame_stays bytes more from x split.0 split.1 split.2,
  splits-more bytes more x.end frames split.3,
)
