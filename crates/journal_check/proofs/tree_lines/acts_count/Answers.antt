-- one session more is counted
use Rattle.std.proofs.Common.{◌∙◌, ap, length, arith}
use Rattle.journal_check.proofs.Counts.{count_next, count_own, count_end}
use Rattle.journal_check.proofs.Kept.{kept, kept_count, kept_own}
use Rattle.journal_check.proofs.tree_lines.acts_count.Goals as goal

pub overflow_cast-count : goal.overflow_cast-count
overflow_cast-count c =
    let at = kept_own c.args.acts.now c.loop-own.own-index c.own-item.result c.loop-own-test.true c.own-item.is in
    let ok = c.own-item.result.ok in
    omega (arith, c.requires, c.len.ensures, ap length at, count_own (kept c.args.acts.now) c.loop-own.own-index)

pub overflow_add-count : goal.overflow_add-count
overflow_add-count c =
    let at = kept_own c.args.acts.now c.loop-own.own-index c.own-item.result c.loop-own-test.true c.own-item.is in
    let ok = c.own-item.result.ok in
    let sum = c.loop-own.invariant in
    omega (arith, c.requires, sum, c.len.ensures, ap length at, count_own (kept c.args.acts.now) c.loop-own.own-index)

pub loop-own-preserved : goal.loop-own-preserved
loop-own-preserved c =
    let at = kept_own c.args.acts.now c.loop-own.own-index c.own-item.result c.loop-own-test.true c.own-item.is in
    let ok = c.own-item.result.ok in
    let sum = c.loop-own.invariant in
    omega (arith, sum, c.len.ensures, ap length at, count_next (kept c.args.acts.now) c.loop-own.own-index)

pub returns : goal.returns
returns c =
    c.loop-own.invariant
    ∙ count_end (kept c.args.acts.now) c.loop-own.own-index
    (omega (arith, c.loop-own-test.false, kept_count c.args.acts.now))
