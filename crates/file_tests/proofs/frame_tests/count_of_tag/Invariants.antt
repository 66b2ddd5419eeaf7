-- the count so far is that of the places so far
use Rattle.std.proofs.Common.{◌≡◌, ◌==◌}
use Rattle.std.specs.List.{count_by}
use Rattle.file_tests.proofs.frame_tests.count_of_tag.Given as goal

abbrev pub invariant-loop-field : goal.invariant-loop-field
invariant-loop-field l = l.count ≡ count_by (λ place. place.tag == l.tag) l.yielded
