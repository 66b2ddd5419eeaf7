use Rattle.std.proofs.Common.{◌≡◌, ◌∙◌, sym, subst, map, arith, slice_index_or}
use Rattle.std.proofs.lemmas.Bool.{true≢false}
use Rattle.std.proofs.lemmas.Option.{get_or_from_slice_get, slice_get-get_or}
use Rattle.journal_check.specs.ReadRows.{ReadRow, FitsLines}
use Rattle.journal_check.specs.Tables.{FitTo}
use Rattle.journal_check.proofs.LineWalk.{all_before_more}
use Rattle.journal_check.proofs.right_reads.first_unfit.Goals as goal

pub returns-then-not-fits-clause-unfit : goal.returns-then-not-fits-clause-unfit
returns-then-not-fits-clause-unfit c = λ less whole unit components lines values places read at fit.
    let i = c.loop-index.index in
    let none : ReadRow = record { row = 0; session = 0; made = 0; least = 0; stamp = 0; place = 0; value = 0 } in
    let is : read ≡ slice_index_or c.args.reads.now i none = sym (get_or_from_slice_get c.args.reads.now i read none at) in
    let yes = (c.fits.ensures whole unit components lines values places).1 (subst (FitsLines whole unit components lines) is fit) in
    true≢false (sym yes ∙ c.if-not-fits.true)

pub loop-index-preserved : goal.loop-index-preserved
loop-index-preserved c = λ whole unit components lines values places.
    let i = c.loop-index.index in
    let none : ReadRow = record { row = 0; session = 0; made = 0; least = 0; stamp = 0; place = 0; value = 0 } in
    all_before_more (λ index read. FitsLines whole unit components lines read) c.args.reads.now i
    (slice_index_or c.args.reads.now i none) (c.loop-index.invariant whole unit components lines values places)
    (slice_get-get_or c.args.reads.now i none (omega (arith, c.loop-index-test.true, c.requires.end)))
    ((c.fits.ensures whole unit components lines values places).0 c.if-not-fits.false)

pub returns-clause-before : goal.returns-clause-before
returns-clause-before c =
    let is : c.loop-index.index ≡ c.args.end = omega (arith, c.loop-index-test.false, c.loop-index.auto.index-end) in
    subst (FitTo c.args.values.now (map (λ own. own.items) c.args.places.now) c.args.reads.now) is c.loop-index.invariant
