use Rattle.std.proofs.Common.{◌≡◌, ap, ◌∙◌, ◌++◌, List, ℕ, length, take, length-take-le}
use Rattle.fix_fields.specs.FrameBuffers.{BufferValue}
use Rattle.frame_run.proofs.Fetches.{front_of_room}
use Rattle.frame_run.proofs.ahead.fetch_into.Goals as goal

-- what was fetched is held behind the rest
pub returns-clause-bytes : goal.returns-clause-bytes
returns-clause-bytes g c =
    let old = c.args.buffer.now in
    let room = c.fetch_front.new.room in
    let n = c.in_ok-got.got in
    let bound = c.in_ok-got.ensures.bound in
    let same : length room ≡ length old.room = c.fetch_front.auto.room ∙ ap length c.room.ensures.value in
    record {
      piece = take n room;
      taken = c.in_ok-got.ensures.bytes;
      held = ap (λ (v : BufferValue). v.held) c.took.ensures
          ∙ ap (λ (l : List ℕ). old.held ++ l) (front_of_room old.room room n bound.1 same);
      base = ap (λ (v : BufferValue). v.base) c.took.ensures;
      counted = length-take-le n room bound.1;
      few = bound.0;
    }
