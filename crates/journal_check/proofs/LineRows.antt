-- The lines of all trees in order of row.
use Rattle.std.proofs.Common.{◌≡◌, ◌≢◌, ℕ, ◌+◌, ◌<◌, ◌≤◌, List, length, take, ap, sym, subst, arith}
use Rattle.std.proofs.Common.{⊎_elim}
use Rattle.std.specs.Prelude.{slice_get, Some}
use Rattle.std.proofs.lemmas.Option.{slice_get_within}
use Rattle.risk_board.specs.declared.hand.Line.{Line}
use Rattle.risk_journal.specs.declared.acts.Act.{Act}
use Rattle.journal_check.specs.Firsts.{IsFirstRow, IsFirstWrong}
use Rattle.journal_check.specs.LineFaults.{IsWrongLine, SomeLacksLine, LacksOnly}
use Rattle.journal_check.specs.declared.tree_lines.LinesFound.{LinesFound}
use Rattle.journal_check.specs.LineFaults.{IsFoundOf, AreRightTrees, EndsBefore}
use Rattle.journal_check.specs.RightLines.{IsRightLine, AreRightLines, HaveAllLines}
use Rattle.journal_check.specs.RowNumbers.{count_all}
use Rattle.journal_check.specs.Trees.{tree_posts, tree_lines}
use Rattle.journal_check.proofs.Cases.{same_or, le_or_lt}
use Rattle.journal_check.proofs.Counts.{count_later}

-- what was found of some posts and lines is found of the same
pub found_as : (posts other : List (List ℕ)) (own more : List Line) (found : LinesFound)
    → posts ≡ other → own ≡ more → IsFoundOf posts own found → IsFoundOf other more found
found_as posts other own more found same also is =
    subst (λ (p : List (List ℕ)). IsFoundOf p more found) same
    (subst (λ (l : List Line). IsFoundOf posts l found) also is)

module _ (acts : List (List Act)) (lines : List (List Line)) where
  -- the lines of the trees below a number are right
  abbrev pub AreRightBefore : ℕ → Type 0
  AreRightBefore count =
      (tree : ℕ) → tree < count → AreRightLines (tree_posts tree acts) (tree_lines tree lines)

  -- and each of their posts has one
  abbrev pub HaveAllBefore : ℕ → Type 0
  HaveAllBefore count =
      (tree : ℕ) → tree < count → HaveAllLines (tree_posts tree acts) (tree_lines tree lines)

  pub right_more : (count : ℕ) → AreRightBefore count
      → AreRightLines (tree_posts count acts) (tree_lines count lines) → AreRightBefore (count + 1)
  right_more count before here tree less = ⊎_elim
      (λ (same : tree ≡ count).
      subst (λ (t : ℕ). AreRightLines (tree_posts t acts) (tree_lines t lines)) (sym same) here)
      (λ (apart : tree ≢ count). before tree (omega (arith, less, apart)))
      (same_or tree count)

  pub all_more : (count : ℕ) → HaveAllBefore count
      → HaveAllLines (tree_posts count acts) (tree_lines count lines) → HaveAllBefore (count + 1)
  all_more count before here tree less = ⊎_elim
      (λ (same : tree ≡ count).
      subst (λ (t : ℕ). HaveAllLines (tree_posts t acts) (tree_lines t lines)) (sym same) here)
      (λ (apart : tree ≢ count). before tree (omega (arith, less, apart)))
      (same_or tree count)

  -- the first wrong line of the first tree that has one stands in the first such row
  pub first_line_of_all : (tree place row : ℕ) → AreRightBefore tree
      → IsFirstWrong (IsRightLine (tree_posts tree acts) (tree_lines tree lines)) (tree_lines tree lines) place
      → row ≡ 2 + count_all acts + count_all (take tree lines) + place
      → IsFirstRow (IsWrongLine acts lines) row
  first_line_of_all tree place row before first row_is = record {
    wrong = record {
      tree = tree;
      place = place;
      line = first.item;
      has = record { at = first.at; row_is = row_is };
      wrong = first.wrong;
    };
    before = λ earlier less other.
        let has = other.has in
        let inside : other.place < length (tree_lines other.tree lines) =
        slice_get_within (tree_lines other.tree lines) other.place other.line has.at in
        let here : place < length (tree_lines tree lines) =
        slice_get_within (tree_lines tree lines) place first.item first.at in
        ⊎_elim
        (λ (same : other.tree ≡ tree).
        let count : count_all (take other.tree lines) ≡ count_all (take tree lines) =
        ap (λ t. count_all (take t lines)) same in
        let sooner : other.place < place = omega (arith, less, row_is, has.row_is, count) in
        other.wrong
        (subst (λ (t : ℕ). IsRightLine (tree_posts t acts) (tree_lines t lines) other.place other.line)
        (sym same)
        (first.before other.place other.line sooner
        (subst (λ (t : ℕ). slice_get (tree_lines t lines) other.place ≡ Some other.line) same has.at))))
        (λ (apart : other.tree ≢ tree). ⊎_elim
        (λ (low : other.tree ≤ tree).
        other.wrong (before other.tree (omega (arith, low, apart)) other.place other.line inside has.at))
        (λ (high : tree < other.tree).
        absurd (omega (arith, count_later lines tree other.tree high, less, row_is, has.row_is, here)))
        (le_or_lt other.tree tree))
        (same_or other.tree tree);
  }

  pub none_wrong : (count : ℕ) → AreRightBefore count → EndsBefore count acts lines
      → (row : ℕ) → ¬ IsWrongLine acts lines row
  none_wrong count right ends row wrong =
      let inside = slice_get_within (tree_lines wrong.tree lines) wrong.place wrong.line wrong.has.at in
      ⊎_elim
      (λ (past : count ≤ wrong.tree).
      absurd (omega (arith, inside, ap length (ends.lines_none wrong.tree past))))
      (λ (less : wrong.tree < count).
      wrong.wrong (right wrong.tree less wrong.place wrong.line inside wrong.has.at))
      (le_or_lt count wrong.tree)

  pub lacks_only : (count : ℕ) → AreRightBefore count → EndsBefore count acts lines
      → SomeLacksLine acts lines → (row : ℕ) → row ≡ 0 → LacksOnly acts lines row
  lacks_only count right ends lacks row zero_is =
      record { right = none_wrong count right ends; lacks = lacks; row_is = zero_is }

  pub right_trees : (count : ℕ) → AreRightBefore count → HaveAllBefore count
      → EndsBefore count acts lines → AreRightTrees acts lines
  right_trees count right all ends tree = ⊎_elim
      (λ (past : count ≤ tree). record {
        right = λ index line less at.
            absurd (omega (arith, less, ap length (ends.lines_none tree past)));
        all = λ session. let none = ap length (ends.posts_none tree session past) in omega (arith, none);
      })
      (λ (less : tree < count). record { right = right tree less; all = all tree less })
      (le_or_lt count tree)
