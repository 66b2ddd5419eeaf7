use Rattle.std.proofs.Common.{arith, add-one}
use Rattle.screen_kit.proofs.Retired.{none_before_next, none_has_name, loses_first, without_first-at, without_first-none}
use Rattle.screen_kit.proofs.set.retire.Goals as goal

pub returns-then-has_name-clause-dropped : goal.returns-then-has_name-clause-dropped
returns-then-has_name-clause-dropped g c =
    rw (c.remove-dropped.ensures.items, ← c.loop-i.invariant.same)
    (loses_first g.S.Screen.meaning
    c.args.name.now c.loop-i.screens.items c.loop-i.i c.index.result.now
    (omega arith) c.index.ensures (c.has_name.ensures.0 c.if-has_name.true)
    c.loop-i.invariant.before)

pub returns-then-has_name-clause-after : goal.returns-then-has_name-clause-after
returns-then-has_name-clause-after g c =
    rw (c.remove-dropped.ensures.items, ← c.loop-i.invariant.same)
    (without_first-at g.S.Screen.meaning
    c.args.name.now c.loop-i.screens.items c.loop-i.i c.index.result.now
    (omega arith) c.index.ensures (c.has_name.ensures.0 c.if-has_name.true)
    c.loop-i.invariant.before)

pub loop-i-preserved : goal.loop-i-preserved
loop-i-preserved g c = record {
  len = c.loop-i.invariant.len;
  same = c.loop-i.invariant.same;
  before = rw add-one
      (none_before_next g.S.Screen.meaning
      c.args.name.now c.loop-i.screens.items c.loop-i.i c.index.result.now
      (omega arith) c.index.ensures
      (λ named. let held = c.has_name.ensures.1 named in cc (held, c.if-has_name.false))
      c.loop-i.invariant.before);
}

pub returns-clause-found : goal.returns-clause-found
returns-clause-found g c = rw (← c.loop-i.invariant.same) (
  (λ no. cc no),
  (λ found. absurd (none_has_name
      g.S.Screen.meaning
      c.args.name.now c.loop-i.screens.items c.loop-i.i (omega arith)
      c.loop-i.invariant.before found)),
)

pub returns-clause-after : goal.returns-clause-after
returns-clause-after g c = rw (← c.loop-i.invariant.same)
    (without_first-none g.S.Screen.meaning
    c.args.name.now c.loop-i.screens.items c.loop-i.i (omega arith)
    c.loop-i.invariant.before)
