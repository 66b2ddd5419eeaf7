-- A journal is lawful or has one first fault, and not both.
use Rattle.std.proofs.Common.{◌≡◌, ◌≢◌, ℕ, ◌<◌, ◌≤◌, ◌==◌, List, length, cond, ◌∙◌, sym, ap, subst, arith}
use Rattle.std.proofs.Common.{⊎_elim, refl}
use Rattle.risk_board.specs.declared.hand.Line.{Line}
use Rattle.risk_journal.proofs.OneReading.{one_journal, one_fault, not_both}
use Rattle.risk_journal.specs.JournalGrammar.{IsFirstFault as IsFirstBadRow}
use Rattle.risk_journal.specs.declared.acts.Act.{Act}
use Rattle.journal_check.specs.Faults.{Case, Kind, kind_number, IsTextFault, IsFault, IsRead, IsFirstKind}
use Rattle.journal_check.specs.Faults.{IsJournalFault, IsFirstFault, IsLawful}
use Rattle.journal_check.specs.Faults.Kind.{Text, Count, EndedEarly, Tree, Acts, Lines, Reads}
use Rattle.journal_check.specs.Firsts.{IsFirstRow}
use Rattle.journal_check.specs.LineFaults.{IsWrongLine, LacksOnly, IsLineFault}
use Rattle.journal_check.specs.declared.judging.TheConstants.{JOURNAL_MOST}
use Rattle.journal_check.proofs.Cases.{same_or, le_or_lt}

-- the kind with a number
abbrev kind_of : ℕ → Kind
kind_of number =
    cond (number == 1) Text (cond (number == 2) Count (cond (number == 3) EndedEarly
    (cond (number == 4) Tree (cond (number == 5) Acts (cond (number == 6) Lines Reads)))))

kind_back : (one : Kind) → kind_of (kind_number one) ≡ one
kind_back Text = refl
kind_back Count = refl
kind_back EndedEarly = refl
kind_back Tree = refl
kind_back Acts = refl
kind_back Lines = refl
kind_back Reads = refl

one_kind : (one other : Kind) → kind_number one ≡ kind_number other → one ≡ other
one_kind one other same = sym (kind_back one) ∙ ap kind_of same ∙ kind_back other

-- what is wrong first is wrong first in one row
one_row : (IsWrong : ℕ → Type 0) (row at : ℕ) → IsFirstRow IsWrong row → IsFirstRow IsWrong at
    → row ≡ at
one_row IsWrong row at first other = ⊎_elim
    (λ (same : row ≡ at). same)
    (λ (apart : row ≢ at). ⊎_elim
    (λ (low : row ≤ at). absurd (other.before row (omega (arith, low, apart)) first.wrong))
    (λ (high : at < row). absurd (first.before at high other.wrong))
    (le_or_lt row at))
    (same_or row at)

one_line_row : (acts : List (List Act)) (lines : List (List Line)) (row at : ℕ)
    → IsLineFault acts lines row → IsLineFault acts lines at → row ≡ at
one_line_row acts lines row at first other = ⊎_elim
    (λ (one : IsFirstRow (IsWrongLine acts lines) row). ⊎_elim
    (λ (two : IsFirstRow (IsWrongLine acts lines) at). one_row (IsWrongLine acts lines) row at one two)
    (λ (two : LacksOnly acts lines at). absurd (two.right row one.wrong))
    other)
    (λ (one : LacksOnly acts lines row). ⊎_elim
    (λ (two : IsFirstRow (IsWrongLine acts lines) at). absurd (one.right at two.wrong))
    (λ (two : LacksOnly acts lines at). one.row_is ∙ sym two.row_is)
    other)
    first

module _ (case : Case) (acts : List (List Act)) (lines : List (List Line)) where
  -- a kind has one row
  fault_row : (kind : Kind) (row at : ℕ) → IsFault case acts lines kind row
      → IsFault case acts lines kind at → row ≡ at
  fault_row Text row at one other = absurd one
  fault_row Count row at one other = one.1 ∙ sym other.1
  fault_row EndedEarly row at one other = one_row _ row at one other
  fault_row Tree row at one other = one_row _ row at one other
  fault_row Acts row at one other = one_row _ row at one other
  fault_row Lines row at one other = one_line_row acts lines row at one other
  fault_row Reads row at one other = one_row _ row at one other

  same_kind : (kind row other at : ℕ) → IsFirstKind case acts lines kind row
      → IsFirstKind case acts lines other at → (kind ≡ other) × (row ≡ at)
  same_kind kind row other at first then = ⊎_elim
      (λ (same : kind_number first.of_kind ≡ kind_number then.of_kind). (
        first.kind_is ∙ same ∙ sym then.kind_is,
        fault_row then.of_kind row at
            (subst (λ (k : Kind). IsFault case acts lines k row)
            (one_kind first.of_kind then.of_kind same) first.fault)
            then.fault,
      ))
      (λ (apart : kind_number first.of_kind ≢ kind_number then.of_kind). ⊎_elim
      (λ (low : kind_number first.of_kind ≤ kind_number then.of_kind).
      absurd (then.before first.of_kind row (omega (arith, low, apart)) first.fault))
      (λ (high : kind_number then.of_kind < kind_number first.of_kind).
      absurd (first.before then.of_kind at high then.fault))
      (le_or_lt (kind_number first.of_kind) (kind_number then.of_kind)))
      (same_or (kind_number first.of_kind) (kind_number then.of_kind))

-- a text that is read has no fault of its own
read_or_fault : (text : List ℕ) (acts : List (List Act)) (lines : List (List Line)) (row : ℕ)
    → IsRead text acts lines → ¬ IsTextFault text row
read_or_fault text acts lines row read fault = ⊎_elim
    (λ (long : (JOURNAL_MOST < length text) × (row ≡ 0)).
    let most = long.0 in omega (arith, most, read.few))
    (λ (bad : (length text ≤ JOURNAL_MOST) × IsFirstBadRow text row).
    not_both text acts lines row read.journal bad.1)
    fault

one_text_row : (text : List ℕ) (row at : ℕ) → IsTextFault text row → IsTextFault text at → row ≡ at
one_text_row text row at one other = ⊎_elim
    (λ (long : (JOURNAL_MOST < length text) × (row ≡ 0)). ⊎_elim
    (λ (also : (JOURNAL_MOST < length text) × (at ≡ 0)). long.1 ∙ sym also.1)
    (λ (bad : (length text ≤ JOURNAL_MOST) × IsFirstBadRow text at).
    let most = long.0 in let few = bad.0 in absurd (omega (arith, most, few)))
    other)
    (λ (bad : (length text ≤ JOURNAL_MOST) × IsFirstBadRow text row). ⊎_elim
    (λ (also : (JOURNAL_MOST < length text) × (at ≡ 0)).
    let most = also.0 in let few = bad.0 in absurd (omega (arith, most, few)))
    (λ (worse : (length text ≤ JOURNAL_MOST) × IsFirstBadRow text at).
    one_fault text row at bad.1 worse.1)
    other)
    one

-- two readings of a text are one
same_reading : (case : Case) (acts did : List (List Act)) (lines other : List (List Line))
    (kind row : ℕ) → IsRead case.text acts lines → IsRead case.text did other
    → IsFirstKind case did other kind row → IsFirstKind case acts lines kind row
same_reading case acts did lines other kind row read again first =
    let same = one_journal case.text did other acts lines again.journal read.journal in
    subst (λ (a : List (List Act)). IsFirstKind case a lines kind row) same.0
    (subst (λ (l : List (List Line)). IsFirstKind case did l kind row) same.1 first)

pub lawful_or_not : (case : Case) (kind row : ℕ) → IsLawful case → ¬ IsFirstFault case kind row
lawful_or_not case kind row lawful fault = ⊎_elim
    (λ (bad : (kind ≡ kind_number Text) × IsTextFault case.text row).
    read_or_fault case.text lawful.acts lawful.lines row lawful.read bad.1)
    (λ (journal : IsJournalFault case kind row).
    let first = same_reading case lawful.acts journal.acts lawful.lines journal.lines kind row
    lawful.read journal.read journal.first in
    lawful.none first.of_kind row first.fault)
    fault

pub one_first_fault : (case : Case) (kind row other at : ℕ) → IsFirstFault case kind row
    → IsFirstFault case other at → (kind ≡ other) × (row ≡ at)
one_first_fault case kind row other at one two = ⊎_elim
    (λ (bad : (kind ≡ kind_number Text) × IsTextFault case.text row). ⊎_elim
    (λ (worse : (other ≡ kind_number Text) × IsTextFault case.text at).
    (bad.0 ∙ sym worse.0, one_text_row case.text row at bad.1 worse.1))
    (λ (journal : IsJournalFault case other at).
    absurd (read_or_fault case.text journal.acts journal.lines row journal.read bad.1))
    two)
    (λ (journal : IsJournalFault case kind row). ⊎_elim
    (λ (bad : (other ≡ kind_number Text) × IsTextFault case.text at).
    absurd (read_or_fault case.text journal.acts journal.lines at journal.read bad.1))
    (λ (again : IsJournalFault case other at).
    same_kind case journal.acts journal.lines kind row other at journal.first
    (same_reading case journal.acts again.acts journal.lines again.lines other at journal.read
    again.read again.first))
    two)
    one
