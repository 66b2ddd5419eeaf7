-- One read more.
use Rattle.std.proofs.Common.{get_or, ap, ◌∙◌, arith}
use Rattle.tree_check.specs.declared.read_at.ReadAt.{ReadAt}
use Rattle.tree_check.specs.Buckets.{with_read}
use Rattle.tree_check.proofs.Bucketed.{none_at, read_more, all_at}
use Rattle.tree_check.proofs.buckets.by_place.Goals as goal

pub loop-read-init : goal.loop-read-init
loop-read-init c = c.in_ok-all.ensures ∙ none_at c.args.reads.now c.args.places

pub loop-read-preserved : goal.loop-read-preserved
loop-read-preserved c =
    let none : ReadAt = record { session = 0; place = 0; value = 0 } in
    c.in_ok-add_read.ensures
    ∙ ap (λ lists. with_read lists (get_or c.args.reads.now c.loop-read.read-index none))
    c.loop-read.invariant
    ∙ read_more c.args.reads.now c.loop-read.read-index none c.args.places (omega arith)

pub returns : goal.returns
returns c =
    c.loop-read.invariant ∙ all_at c.args.reads.now c.loop-read.read-index c.args.places (omega arith)
