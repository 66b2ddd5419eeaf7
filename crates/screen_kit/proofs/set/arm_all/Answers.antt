use Rattle.std.proofs.Common.{◌∙◌, arith, refl, sym}
use Rattle.screen_kit.proofs.Armed.{same_screens, arms_next, same_next}
use Rattle.screen_kit.proofs.set.arm_all.Goals as goal

pub loop-i-init : goal.loop-i-init
loop-i-init g c = record {
  len = sym c.len-i-end.ensures;
  armed_so_far = refl;
  same = same_screens _;
}

pub returns-in_err-arm-clause-same : goal.returns-in_err-arm-clause-same
returns-in_err-arm-clause-same g c =
    same_next g.S.Screen.meaning
    _ c.loop-i.screens.items c.loop-i.i c.index_mut.result.now _
    (omega arith) c.index_mut.ensures.value c.arm.ensures.same c.loop-i.invariant.same

pub loop-i-preserved : goal.loop-i-preserved
loop-i-preserved g c = record {
  len = c.loop-i.invariant.len;
  armed_so_far = c.loop-i.invariant.armed_so_far
      ∙ arms_next g.S.Screen.meaning
      c.args.terms.now c.loop-i.screens.items c.loop-i.i c.index_mut.result.now _
      (omega arith) c.index_mut.ensures.value c.in_ok-arm.ensures.ok;
  same = same_next g.S.Screen.meaning
      _ c.loop-i.screens.items c.loop-i.i c.index_mut.result.now _
      (omega arith) c.index_mut.ensures.value c.arm.ensures.same c.loop-i.invariant.same;
}
