-- The reads of all trees, tree by tree.
use Rattle.std.proofs.Common.{◌≡◌, ◌≢◌, ℕ, ◌+◌, ◌<◌, ◌≤◌, List, length, ap, sym, subst, arith, ⊎_elim, min, ◌∙◌, eqb, eq-eqb}
use Rattle.std.proofs.lemmas.Bool.{ne_eqb}
use Rattle.std.specs.Prelude.{slice_get, Option, Some, None, IfSome}
use Rattle.std.proofs.lemmas.Option.{slice_get_within}
use Rattle.risk_board.specs.declared.hand.Line.{Line}
use Rattle.risk_board.specs.History.{components_of}
use Rattle.risk_journal.specs.declared.acts.Act.{Act}
use Rattle.journal_check.specs.Firsts.{IsFirstRow}
use Rattle.journal_check.specs.LineFaults.{EndsBefore}
use Rattle.journal_check.specs.ReadFaults.{IsRightRead, AreRightReads, IsWrongRead}
use Rattle.journal_check.specs.ReadFaults.{IsFoundRead, IsFirstSoFar}
use Rattle.journal_check.specs.ReadRows.{ReadRow, tree_reads}
use Rattle.journal_check.specs.Tables.{least_of}
use Rattle.journal_check.specs.Trees.{tree_lines, fold_in}
use Rattle.journal_check.proofs.Cases.{same_or, le_or_lt}
use Rattle.journal_check.proofs.ReadsRise.{earlier_row}

-- what was found of some lines and reads is found of the same
pub found_read_as : (whole other : List ℕ → ℕ) (components more : ℕ) (lines theirs : List Line)
    (reads also : List ReadRow) (found : Option ℕ) → whole ≡ other → components ≡ more
    → lines ≡ theirs → reads ≡ also → IsFoundRead whole 0 components lines reads found
    → IsFoundRead other 0 more theirs also found
found_read_as whole other components more lines theirs reads also found one two three four is =
    subst (λ (w : List ℕ → ℕ). IsFoundRead w 0 more theirs also found) one
    (subst (λ (n : ℕ). IsFoundRead whole 0 n theirs also found) two
    (subst (λ (l : List Line). IsFoundRead whole 0 components l also found) three
    (subst (λ (r : List ReadRow). IsFoundRead whole 0 components lines r found) four is)))

-- the last tree is the one before the end
pub last_test : (tree last count : ℕ) → count ≡ last + 1
    → eqb (tree + 1) count ≡ eqb tree last
last_test tree last count is = ⊎_elim
    (λ (same : tree ≡ last).
    eq-eqb (tree + 1) count (omega (arith, same, is)) ∙ sym (eq-eqb tree last same))
    (λ (apart : tree ≢ last).
    ne_eqb (tree + 1) count (λ same. apart (omega (arith, same, is))) ∙ sym (ne_eqb tree last apart))
    (same_or tree last)

module _ (last : ℕ) (acts : List (List Act)) (lines : List (List Line)) where
  -- what was found in one tree
  abbrev IsFoundIn : ℕ → Option ℕ → Type 0
  IsFoundIn tree own =
      IsFoundRead (fold_in last tree) 0 (components_of (length acts)) (tree_lines tree lines)
      (tree_reads tree acts) own

  -- the reads of a tree in rows before this one are right
  abbrev AreRightTo : ℕ → ℕ → Type 0
  AreRightTo tree row =
      (index : ℕ) (read : ReadRow) → slice_get (tree_reads tree acts) index ≡ Some read
      → read.row < row → IsRightRead last acts lines tree index read

  own_wrong : (tree row : ℕ) → IsFoundIn tree (Some row) → IsWrongRead last acts lines row
  own_wrong tree row own = record {
    tree = tree;
    index = own.index;
    read = own.first.item;
    at = own.first.at;
    row_is = own.row_is;
    wrong = own.first.wrong;
  }

  own_right : (tree row low : ℕ) → low ≤ row → IsFoundIn tree (Some row) → AreRightTo tree low
  own_right tree row low le own index read at less =
      own.first.before index read
      (earlier_row tree acts own.index index own.first.item read own.first.at at
      (omega (arith, less, le, own.row_is))) at

  all_right : (tree row : ℕ) → AreRightReads last acts lines tree → AreRightTo tree row
  all_right tree row right index read at less =
      right index read (slice_get_within (tree_reads tree acts) index read at) at

  with_next : (count row : ℕ) → ((tree : ℕ) → tree < count → AreRightTo tree row)
      → AreRightTo count row → (tree index : ℕ) (read : ReadRow) → tree < count + 1
      → slice_get (tree_reads tree acts) index ≡ Some read → read.row < row
      → IsRightRead last acts lines tree index read
  with_next count row before here tree index read less at sooner = ⊎_elim
      (λ (same : tree ≡ count).
      subst (λ (t : ℕ). AreRightTo t row) (sym same) here index read at sooner)
      (λ (apart : tree ≢ count). before tree (omega (arith, less, apart)) index read at sooner)
      (same_or tree count)

  pub so_far_more : (count : ℕ) (first own : Option ℕ) → IsFirstSoFar last acts lines count first
      → IsFoundIn count own → IsFirstSoFar last acts lines (count + 1) (least_of first own)
  so_far_more count None None before here = λ tree less. ⊎_elim
      (λ (same : tree ≡ count). subst (AreRightReads last acts lines) (sym same) here)
      (λ (apart : tree ≢ count). before tree (omega (arith, less, apart)))
      (same_or tree count)
  so_far_more count None (Some row) before here = (
    own_wrong count row here,
    with_next count row (λ tree less. all_right tree row (before tree less))
        (own_right count row row (omega arith) here),
  )
  so_far_more count (Some row) None before here = (
    before.0,
    with_next count row (λ tree less index read at sooner. before.1 tree index read less at sooner)
        (all_right count row here),
  )
  so_far_more count (Some row) (Some next) before here = ⊎_elim
      (λ (le : row ≤ next).
      let is : row ≡ min row next = omega (arith, le) in
      subst (λ (r : ℕ). IsFirstSoFar last acts lines (count + 1) (Some r)) is (
        before.0,
        with_next count row (λ tree less index read at sooner. before.1 tree index read less at sooner)
            (own_right count next row le here),
      ))
      (λ (lt : next < row).
      let is : next ≡ min row next = omega (arith, lt) in
      subst (λ (r : ℕ). IsFirstSoFar last acts lines (count + 1) (Some r)) is (
        own_wrong count next here,
        with_next count next
            (λ tree less index read at sooner. before.1 tree index read less at (omega (arith, sooner, lt)))
            (own_right count next next (omega arith) here),
      ))
      (le_or_lt row next)

  none_past : (count tree index : ℕ) (read : ReadRow) → EndsBefore count acts lines → count ≤ tree
      → slice_get (tree_reads tree acts) index ≡ Some read → ⊥
  none_past count tree index read ends past at =
      absurd (omega (
        arith,
        slice_get_within (tree_reads tree acts) index read at,
        ap length (ends.reads_none tree past),
      ))

  pub found_first : (count row : ℕ) → IsFirstSoFar last acts lines count (Some row)
      → EndsBefore count acts lines → IsFirstRow (IsWrongRead last acts lines) row
  found_first count row so_far ends = record {
    wrong = so_far.0;
    before = λ earlier less other. ⊎_elim
        (λ (past : count ≤ other.tree).
        none_past count other.tree other.index other.read ends past other.at)
        (λ (lt : other.tree < count).
        other.wrong (so_far.1 other.tree other.index other.read lt other.at
        (omega (arith, less, other.row_is))))
        (le_or_lt count other.tree);
  }

  pub found_none : (count : ℕ) → IsFirstSoFar last acts lines count None
      → EndsBefore count acts lines → (tree : ℕ) → AreRightReads last acts lines tree
  found_none count so_far ends tree index read less at = ⊎_elim
      (λ (past : count ≤ tree). absurd (none_past count tree index read ends past at))
      (λ (lt : tree < count). so_far tree lt index read less at)
      (le_or_lt count tree)

  pub found_if : (count : ℕ) (first : Option ℕ) → IsFirstSoFar last acts lines count first
      → EndsBefore count acts lines → IfSome first (IsFirstRow (IsWrongRead last acts lines))
  found_if count None so_far ends = tt
  found_if count (Some row) so_far ends = found_first count row so_far ends
