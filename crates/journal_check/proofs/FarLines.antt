-- The first row that is of a tree above the last.
use Rattle.std.proofs.Common.{◌≡◌, ◌≢◌, ℕ, ◌+◌, ◌<◌, ◌≤◌, List, [], length, take, ap, arith}
use Rattle.std.proofs.Common.{⊎_elim, inl, inr, get_or}
use Rattle.std.specs.Prelude.{slice_get, Some}
use Rattle.std.proofs.lemmas.Option.{slice_get_within, slice_get-get_or, get_or_from_slice_get}
use Rattle.risk_board.specs.declared.hand.Line.{Line}
use Rattle.risk_journal.specs.declared.acts.Act.{Act}
use Rattle.journal_check.specs.FarRows.{IsFarAct, IsFarLine, IsFarRow}
use Rattle.journal_check.specs.Firsts.{IsFirstRow}
use Rattle.journal_check.specs.RowNumbers.{count_all}
use Rattle.journal_check.specs.Trees.{tree_lines}
use Rattle.journal_check.proofs.Cases.{same_or, le_or_lt}
use Rattle.journal_check.proofs.Counts.{count_later, count_own, stands_in}

module _ (last : ℕ) (acts : List (List Act)) (lines : List (List Line)) where
  -- no line of the trees below a number is of one above the last
  abbrev pub NoneFar : ℕ → Type 0
  NoneFar count =
      (tree place : ℕ) (line : Line) → tree < count
      → slice_get (tree_lines tree lines) place ≡ Some line → ¬ (last < tree)

  pub first_far : (tree row : ℕ) → NoneFar tree → last < tree → 0 < length (tree_lines tree lines)
      → row ≡ 2 + count_all acts + count_all (take tree lines)
      → IsFirstRow (IsFarLine last acts lines) row
  first_far tree row before far some row_is =
      let none : Line = record { session = 0; index = 0; value = 0 } in
      record {
        wrong = record {
          tree = tree;
          place = 0;
          line = get_or (tree_lines tree lines) 0 none;
          has = record {
            at = slice_get-get_or (tree_lines tree lines) 0 none some;
            row_is = omega (arith, row_is);
          };
          far = far;
        };
        before = λ earlier less other. ⊎_elim
            (λ (same : other.tree ≡ tree).
            let count : count_all (take other.tree lines) ≡ count_all (take tree lines) =
            ap (λ t. count_all (take t lines)) same in
            absurd (omega (arith, less, row_is, other.has.row_is, count)))
            (λ (apart : other.tree ≢ tree). ⊎_elim
            (λ (low : other.tree ≤ tree).
            before other.tree other.place other.line (omega (arith, low, apart)) other.has.at other.far)
            (λ (high : tree < other.tree).
            absurd (omega (arith, count_later lines tree other.tree high, less, row_is, other.has.row_is)))
            (le_or_lt other.tree tree))
            (same_or other.tree tree);
      }

  pub none_far : (count : ℕ) → length lines ≤ count → NoneFar count
      → (row : ℕ) → ¬ IsFarLine last acts lines row
  none_far count all none row wrong =
      let at = stands_in lines wrong.tree wrong.place wrong.line wrong.has.at in
      none wrong.tree wrong.place wrong.line
      (omega (arith, all, slice_get_within lines wrong.tree (get_or lines wrong.tree []) at)) wrong.has.at
      wrong.far

  -- acts stand before lines
  pub act_is_first : (row : ℕ) → IsFirstRow (IsFarAct last acts) row
      → IsFirstRow (IsFarRow last acts lines) row
  act_is_first row first = record {
    wrong = inl first.wrong;
    before = λ earlier less either. ⊎_elim
        (λ (act : IsFarAct last acts earlier). first.before earlier less act)
        (λ (line : IsFarLine last acts lines earlier).
        let has = first.wrong.has in
        let inside : has.index < length has.own = slice_get_within has.own has.index first.wrong.act has.at in
        let long : length (get_or acts has.session []) ≡ length has.own =
        ap length (get_or_from_slice_get acts has.session has.own [] has.of_session) in
        absurd (omega (arith, less, has.row_is, line.has.row_is, inside, long, count_own acts has.session)))
        either;
  }

  pub line_is_first : (row : ℕ) → ((other : ℕ) → ¬ IsFarAct last acts other)
      → IsFirstRow (IsFarLine last acts lines) row → IsFirstRow (IsFarRow last acts lines) row
  line_is_first row none first = record {
    wrong = inr first.wrong;
    before = λ earlier less either. ⊎_elim
        (λ (act : IsFarAct last acts earlier). none earlier act)
        (λ (line : IsFarLine last acts lines earlier). first.before earlier less line)
        either;
  }

  pub none_at_all_far : ((row : ℕ) → ¬ IsFarAct last acts row)
      → ((row : ℕ) → ¬ IsFarLine last acts lines row) → (row : ℕ) → ¬ IsFarRow last acts lines row
  none_at_all_far no_act no_line row either = ⊎_elim
      (λ (act : IsFarAct last acts row). no_act row act)
      (λ (line : IsFarLine last acts lines row). no_line row line)
      either
