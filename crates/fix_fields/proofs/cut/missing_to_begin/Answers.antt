use Rattle.std.proofs.lemmas.Bool.Decides.{Decides-eqb}
use Rattle.std.proofs.lemmas.Slice.Eq.{strip_prefix_is}
use Rattle.fix_fields.specs.Frames.{begin_text}
use Rattle.fix_fields.proofs.Heads.{missing_if, not_missing_if}
use Rattle.fix_fields.proofs.cut.missing_to_begin.Goals as goal

pub returns-clause-some : goal.returns-clause-some
returns-clause-some c = missing_if c.args.rest.now c.strip_prefix.result
    (strip_prefix_is Decides-eqb begin_text c.args.rest.now c.strip_prefix.result
    c.strip_prefix.ensures.cases)

pub returns-clause-none : goal.returns-clause-none
returns-clause-none c = not_missing_if c.args.rest.now c.strip_prefix.result
    (strip_prefix_is Decides-eqb begin_text c.args.rest.now c.strip_prefix.result
    c.strip_prefix.ensures.cases)
