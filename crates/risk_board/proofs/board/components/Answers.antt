use Rattle.std.proofs.Common.{refl, ◌∙◌, sym, arith}
use Rattle.risk_board.proofs.Doublings.{components_are_few, doubled_once, doubled_never}
use Rattle.risk_board.proofs.board.components.Goals as goal

pub loop-power-init : goal.loop-power-init
loop-power-init c = record { some = omega arith; left = (c.args.sessions, refl, omega arith) }

pub loop-power-preserved : goal.loop-power-preserved
loop-power-preserved c =
    let left = c.loop-power.invariant.left in
    let once = doubled_once left.0 c.loop-power.power c.args.sessions
    c.loop-power-test.true c.loop-power.invariant.some left.2 in
    record { some = omega arith; left = (once.0, once.1 ∙ left.1, once.2) }

pub returns-clause-value : goal.returns-clause-value
returns-clause-value c =
    let left = c.loop-power.invariant.left in
    sym (doubled_never left.0 c.loop-power.power c.args.sessions c.loop-power-test.false) ∙ left.1

-- the most sessions are a power of two, and so no fewer than the components
pub returns-clause-most : goal.returns-clause-most
returns-clause-most c =
    let left = c.loop-power.invariant.left in
    let value = doubled_never left.0 c.loop-power.power c.args.sessions c.loop-power-test.false in
    omega (arith, value, left.1, components_are_few c.args.sessions c.requires)
