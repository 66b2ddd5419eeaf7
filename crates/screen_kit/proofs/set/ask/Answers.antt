use Rattle.std.proofs.Common.{◌∙◌, sym, arith}
use Rattle.screen_kit.proofs.Asked.{stops_code, stops_after, passes_code, passes_after}
use Rattle.screen_kit.proofs.set.ask.Goals as goal

pub returns-then-code-ne0-clause-code : goal.returns-then-code-ne0-clause-code
returns-then-code-ne0-clause-code g c =
    c.judge-code.ensures.code ∙ sym (c.loop-i.invariant.code
    ∙ stops_code g.S.Screen.meaning
    c.args.order.now c.loop-i.screens.items c.loop-i.i c.index_mut.result.now
    (omega arith) c.index_mut.ensures.value
    (λ is. c.if-code-ne0.true (c.judge-code.ensures.code ∙ is)))

pub returns-then-code-ne0-clause-after : goal.returns-then-code-ne0-clause-after
returns-then-code-ne0-clause-after g c =
    stops_after g.S.Screen.meaning
    c.args.order.now c.loop-i.screens.items c.loop-i.i c.index_mut.result.now _
    (omega arith) c.index_mut.ensures.value
    (λ is. c.if-code-ne0.true (c.judge-code.ensures.code ∙ is))
    c.judge-code.ensures.next
    ∙ sym c.loop-i.invariant.after

pub loop-i-preserved : goal.loop-i-preserved
loop-i-preserved g c = record {
  len = c.loop-i.invariant.len;
  code = c.loop-i.invariant.code
      ∙ passes_code g.S.Screen.meaning
      c.args.order.now c.loop-i.screens.items c.loop-i.i c.index_mut.result.now _
      (omega arith) c.index_mut.ensures.value
      (sym c.judge-code.ensures.code ∙ c.if-code-ne0.false);
  after = c.loop-i.invariant.after
      ∙ passes_after g.S.Screen.meaning
      c.args.order.now c.loop-i.screens.items c.loop-i.i c.index_mut.result.now _
      (omega arith) c.index_mut.ensures.value
      (sym c.judge-code.ensures.code ∙ c.if-code-ne0.false)
      c.judge-code.ensures.next;
}
