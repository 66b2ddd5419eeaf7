-- the sources so far stand behind those that came back, and there is room for the rest
use Rattle.std.proofs.Common.{◌≡◌, ◌+◌, ◌≤◌, ◌++◌, length, vec_len, vec_capacity}
use Rattle.journal_check.proofs.session_acts.with_rest.Given as goal

abbrev pub invariant-loop-source : goal.invariant-loop-source
invariant-loop-source g l = record {
  items : l.sources.items ≡ l.initial.sources.items ++ l.yielded;
  room : vec_len l.sources + length l.source-iterator.rest.items ≤ vec_capacity l.sources;
}
