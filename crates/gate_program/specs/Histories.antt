-- The lines of a run's trees, which are with the acts of its sessions one legal history each.
use Rattle.std.specs.Prelude.{◌≡◌, ℕ, ◌+◌, ◌<◌, List, length, map, max, slice_get, Some}
use Rattle.fold_law.specs.Sum.{sum_of}
use Rattle.fold_law.specs.Whole.{whole_of}
use Rattle.limit_table.specs.declared.limits.Limits.{Limits}
use Rattle.risk_board.specs.declared.hand.Line.{Line}
use Rattle.risk_board.specs.History.{IsLegal, components_of}
use Rattle.risk_journal.specs.declared.acts.Act.{Act}
use Rattle.risk_journal.specs.ActLists.{events_of}
use Rattle.limit_table.specs.Trees.{tree_count, fold_of}
use Rattle.gate_program.specs.Totals.{HaveTotals}

-- the lines of so many trees of sums and of one halt tree are with the acts one legal history each,
-- and have totals
pub record AreHistories (trees : ℕ) (acts : List (List Act)) (lines : List (List Line)) : Type 0
  where
    pub count : length lines ≡ trees + 1
    pub sums : (tree : ℕ) (own : List Line) → tree < trees → slice_get lines tree ≡ Some own
        → IsLegal (whole_of sum_of 0) 0 (components_of (length acts)) own (map (events_of tree) acts)
    pub halt : (own : List Line) → slice_get lines trees ≡ Some own
        → IsLegal (whole_of max 0) 0 (components_of (length acts)) own (map (events_of trees) acts)
    pub totals : HaveTotals (length acts) lines

-- in each tree of the limits the lines are with the acts one legal history
pub record AreLegalLines (limits : Limits) (acts : List (List Act)) (lines : List (List Line))
    : Type 0 where
  pub count : length lines ≡ tree_count limits
  pub legal : (tree : ℕ) (own : List Line) → slice_get lines tree ≡ Some own
      → IsLegal (fold_of limits tree) 0 (components_of (length acts)) own (map (events_of tree) acts)
