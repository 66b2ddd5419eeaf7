-- No term behind the place has the id.
use Rattle.std.proofs.Common.{◌≡◌, ◌≤◌, length, false}
use Rattle.std.specs.Prelude.{drop}
use Rattle.std.specs.List.{list_any}
use Rattle.cross_guard.specs.Resting.{is_term_of}
use Rattle.cross_guard.proofs.resting.last_term.Given as goal

abbrev pub invariant-loop-place : goal.invariant-loop-place
invariant-loop-place l = record {
  within : l.place ≤ length l.terms;
  none : list_any (is_term_of l.id) (drop l.place l.terms) ≡ false;
}

abbrev pub decreases-loop-place : goal.decreases-loop-place
decreases-loop-place l = l.place
