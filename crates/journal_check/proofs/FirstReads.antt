-- The first read that isn't right, by itself or with those before it.
use Rattle.std.proofs.Common.{◌≡◌, ℕ, ◌<◌, ◌≤◌, List, length, take, arith, ⊎_elim, subst, sym, get_or}
use Rattle.std.proofs.lemmas.List.{take_all}
use Rattle.std.proofs.lemmas.Option.{slice_get-get_or}
use Rattle.risk_board.specs.declared.hand.Line.{Line}
use Rattle.journal_check.specs.Firsts.{AllBefore, IsFirstWrong}
use Rattle.journal_check.specs.ReadRows.{ReadRow, IsRightRow, AreRightRows}
use Rattle.journal_check.specs.Agreement.{AllAgree, IsFirstDisagreement}
use Rattle.journal_check.specs.Tables.{AreValues, AreAllPlaces, FitTo, IsUnfit}
use Rattle.journal_check.proofs.AgreeAt.{agrees_at, agree_more}
use Rattle.journal_check.proofs.Cases.{le_or_lt}

module _ (values : List ℕ) (places : List (List ℕ)) (reads : List ReadRow)
    (whole : List ℕ → ℕ) (unit components : ℕ) (lines : List Line)
    (of_values : AreValues whole unit components lines (length lines) values)
    (of_places : AreAllPlaces lines (length lines) places) where
  right_before : (index end : ℕ) → index ≤ end → end ≤ length reads → AllAgree (take end reads)
      → FitTo values places reads index
      → AllBefore (IsRightRow whole unit components lines reads) reads index
  right_before index end le fits agree fit i read less at = record {
    fits = fit whole unit components lines of_values of_places i read less at;
    agrees = agrees_at reads end fits agree i read (omega (arith, less, le)) at;
  }

  unfit_first : (index end : ℕ) → index < end → end ≤ length reads → AllAgree (take end reads)
      → FitTo values places reads index → IsUnfit values places reads index
      → IsFirstWrong (IsRightRow whole unit components lines reads) reads index
  unfit_first index end less fits agree fit unfit =
      let none : ReadRow = record { row = 0; session = 0; made = 0; least = 0; stamp = 0; place = 0; value = 0 } in
      let at = slice_get-get_or reads index none (omega (arith, less, fits)) in
      record {
        item = get_or reads index none;
        at = at;
        wrong = λ right. unfit whole unit components lines of_values of_places (get_or reads index none) at right.fits;
        before = right_before index end (omega (arith, less)) fits agree fit;
      }

  pub wrong_where_apart : (index apart : ℕ) → index ≤ apart → IsFirstDisagreement reads apart
      → FitTo values places reads index → (index < apart → IsUnfit values places reads index)
      → IsFirstWrong (IsRightRow whole unit components lines reads) reads index
  wrong_where_apart index apart le first fit unfit = ⊎_elim
      (λ (all : apart ≤ index).
      let none : ReadRow = record { row = 0; session = 0; made = 0; least = 0; stamp = 0; place = 0; value = 0 } in
      let is : index ≡ apart = omega (arith, le, all) in
      let at = slice_get-get_or reads apart none first.inside in
      subst (IsFirstWrong (IsRightRow whole unit components lines reads) reads) (sym is) (record {
        item = get_or reads apart none;
        at = at;
        wrong = λ right. first.wrong (agree_more reads apart (get_or reads apart none) at first.before right.agrees);
        before = right_before apart apart (omega arith) (omega (arith, first.inside)) first.before
            (subst (FitTo values places reads) is fit);
      }))
      (λ (less : index < apart).
      unfit_first index apart less (omega (arith, first.inside)) first.before fit (unfit less))
      (le_or_lt apart index)

  pub wrong_where_agreed : (index : ℕ) → index < length reads → AllAgree reads
      → FitTo values places reads index → IsUnfit values places reads index
      → IsFirstWrong (IsRightRow whole unit components lines reads) reads index
  wrong_where_agreed index less agree fit unfit =
      unfit_first index (length reads) less (omega arith)
      (subst AllAgree (sym (take_all (length reads) reads (omega arith))) agree) fit unfit

  pub right_where_agreed : (index : ℕ) → length reads ≤ index → index ≤ length reads → AllAgree reads
      → FitTo values places reads index → AreRightRows whole unit components lines reads
  right_where_agreed index all most agree fit =
      let is : index ≡ length reads = omega (arith, all, most) in
      right_before (length reads) (length reads) (omega arith) (omega arith)
      (subst AllAgree (sym (take_all (length reads) reads (omega arith))) agree)
      (subst (FitTo values places reads) is fit)
