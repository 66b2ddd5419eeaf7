-- the hand is the same, and this is what was last posted
use Rattle.std.proofs.Common.{◌≡◌, ◌<◌}
use Rattle.cross_guard.specs.Guarding.{last_call}
use Rattle.cross_guard.specs.Halves.{cross_cap}
use Rattle.cross_guard.proofs.tests.does_all.Given as goal

abbrev pub invariant-loop-name : goal.invariant-loop-name
invariant-loop-name g l = record {
  tree : 0 < (g.H.Hand.meaning l.hand).trees;
  cap : (g.H.Hand.meaning l.hand).cap ≡ cross_cap;
  last : l.last ≡ last_call 0 (g.H.Hand.meaning l.hand).calls;
  origin : g.H.Hand.SameOrigin l.fn.hand l.hand;
}
