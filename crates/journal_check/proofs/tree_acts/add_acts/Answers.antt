-- one act more is told
use Rattle.std.proofs.Common.{◌∙◌, map, sym, arith}
use Rattle.journal_check.specs.Buckets.{tree_value}
use Rattle.journal_check.proofs.Filled.{told_more, told_to_end}
use Rattle.journal_check.proofs.tree_acts.add_acts.Goals as goal

pub loop-act-preserved : goal.loop-act-preserved
loop-act-preserved c = record {
  row = omega (arith, c.loop-act.invariant.row);
  told = told_more c.args.session c.loop-act.row (map tree_value c.loop-act.trees)
      (map tree_value c.add_act.new.trees) c.args.acts.now c.loop-act.act-index _ c.loop-act-test.true
      c.in_ok-add_act.ensures
      ∙ c.loop-act.invariant.told;
}

pub returns : goal.returns
returns c =
    sym (told_to_end c.args.session c.loop-act.row (map tree_value c.loop-act.trees) c.args.acts.now
    c.loop-act.act-index c.loop-act-test.false)
    ∙ c.loop-act.invariant.told
