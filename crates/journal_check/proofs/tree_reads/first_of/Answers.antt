-- the row of the first read that isn't right
use Rattle.std.proofs.Common.{◌<◌, List, ℕ, subst, ap, length, map}
use Rattle.std.specs.Prelude.{IfSome}
use Rattle.std.proofs.lemmas.Option.{get_or_from_slice_get}
use Rattle.risk_board.specs.declared.hand.Line.{Line}
use Rattle.journal_check.specs.Firsts.{IsFirstWrong}
use Rattle.journal_check.specs.ReadRows.{ReadRow, IsRightRow}
use Rattle.journal_check.specs.Tables.{AreValues, AreAllPlaces}
use Rattle.journal_check.proofs.tree_reads.first_of.Goals as goal

pub bounds-reads-index : goal.bounds-reads-index
bounds-reads-index c =
    subst (λ o. IfSome o (λ index. index < length c.args.reads.now)) c.in-Some.is c.in_ok-index.ensures.inside

pub returns-in-Some : goal.returns-in-Some
returns-in-Some c = λ whole unit components lines values places.
    let reads = c.args.reads.now in
    let first : IsFirstWrong (IsRightRow whole unit components lines reads) reads c.in-Some.index =
    subst (λ o. IfSome o (λ index. (whole : List ℕ → ℕ) (unit components : ℕ) (lines : List Line)
    → AreValues whole unit components lines (length lines) c.args.values.now
    → AreAllPlaces lines (length lines) (map (λ own. own.items) c.args.places.now)
    → IsFirstWrong (IsRightRow whole unit components lines reads) reads index))
    c.in-Some.is c.in_ok-index.ensures.found whole unit components lines values places in
    record {
      index = c.in-Some.index;
      first = first;
      row_is = ap (λ (r : ReadRow). r.row)
          (get_or_from_slice_get reads c.in-Some.index first.item _ first.at);
    }

pub returns-in-None : goal.returns-in-None
returns-in-None c = λ whole unit components lines values places.
    c.in_ok-index.ensures.none c.in-None.is whole unit components lines values places
