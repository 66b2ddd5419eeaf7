-- A term has the id, and the terms from the first such one on are what they were.
use Rattle.std.proofs.Common.{◌≡◌, length, true}
use Rattle.std.specs.List.{list_any}
use Rattle.cross_guard.specs.Resting.{is_term_of, terms_from}
use Rattle.cross_guard.proofs.resting.drop_before.Given as goal

abbrev pub invariant-loop-id : goal.invariant-loop-id
invariant-loop-id l = record {
  some : list_any (is_term_of l.id) l.terms.items ≡ true;
  same : terms_from l.id l.terms.items ≡ terms_from l.id l.initial.terms.items;
}

abbrev pub decreases-loop-id : goal.decreases-loop-id
decreases-loop-id l = length l.terms.items
