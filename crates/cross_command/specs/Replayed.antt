-- The lines of a filter's trees, which are with the acts of its sessions one legal history each.
use Rattle.std.specs.Prelude.{◌≡◌, ℕ, List, length, map, slice_get, Some}
use Rattle.fold_law.specs.Whole.{whole_of}
use Rattle.risk_board.specs.declared.hand.Line.{Line}
use Rattle.risk_board.specs.History.{IsLegal, components_of}
use Rattle.risk_journal.specs.declared.acts.Act.{Act}
use Rattle.risk_journal.specs.ActLists.{events_of}
use Rattle.cross_guard.specs.Halves.{cross_join}
use Rattle.cross_guard.specs.Told.{Placing}
use Rattle.cross_command.specs.Finish.{all_with_places}

-- the acts got the places of their reads, and the lines of so many trees are with them one legal
-- history each
pub record AreHistories (trees : ℕ) (acts placed : List (List Act)) (lines : List (List Line))
    : Type 0 where
  pub place : Placing
  pub placed_are : placed ≡ all_with_places place acts
  pub count : length lines ≡ trees
  pub legal : (tree : ℕ) (own : List Line) → slice_get lines tree ≡ Some own
      → IsLegal (whole_of cross_join 0) 0 (components_of (length placed)) own
      (map (events_of tree) placed)
