-- A frame ends within the bytes that it stands in.
use Rattle.std.proofs.Common.{arith}
use Rattle.fix_fields.specs.Found.{frame_value}
use Rattle.fix_fields.proofs.FrameLaws.{frame_within}
use Rattle.cross_guard.proofs.giving.frame_text.Goals as goal

pub slice_bounds-result-end : goal.slice_bounds-result-end
slice_bounds-result-end c =
    let own = c.requires in
    let frame = c.args.frame.now in
    let within = frame_within c.args.bytes.now own.0 (frame_value frame own.1) frame.body_from frame.body_to
    own.2 in
    omega (arith, within.some, within.inside)
