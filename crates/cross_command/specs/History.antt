-- The histories of the symbols' trees.
use Rattle.std.specs.Prelude.{◌≡◌, ℕ, List, length, map, Some, slice_get}
use Rattle.fold_law.specs.Whole.{whole_of}
use Rattle.limit_table.specs.declared.limits.Limits.{Limits}
use Rattle.risk_board.specs.declared.hand.Line.{Line}
use Rattle.risk_board.specs.History.{IsLegal, components_of}
use Rattle.risk_journal.specs.declared.acts.Act.{Act}
use Rattle.risk_journal.specs.ActLists.{events_of}
use Rattle.cross_guard.specs.Halves.{cross_join}
use Rattle.cross_guard.specs.Laws.{NeverCross}
use Rattle.cross_guard.specs.Standings.{AdmitsOwn, StaysClear}
use Rattle.cross_guard.specs.Told.{cross_trees}

-- In each tree the lines are with the acts one legal history.
pub record AreLegalLines (limits : Limits) (acts : List (List Act)) (lines : List (List Line))
    : Type 0 where
  pub count : length lines ≡ cross_trees limits
  pub legal : (tree : ℕ) (own : List Line) → slice_get lines tree ≡ Some own
      → IsLegal (whole_of cross_join 0) 0 (components_of (length acts)) own
      (map (events_of tree) acts)

-- Each symbol's tree has one legal history, and so has the one tree where there is no symbol. At
-- each place of it what the sessions have admitted is clear: its highest buy is below its lowest
-- sell, and so any buy's price that one session has admitted is below any sell's that the same or
-- another one has. What is admitted is what the sessions' own acts admit.
pub record IsHistory (limits : Limits) (acts : List (List Act)) (lines : List (List Line)) : Type 0
  where
    pub trees : length lines ≡ cross_trees limits
    pub legal : (tree : ℕ) (own : List Line) → slice_get lines tree ≡ Some own
        → IsLegal (whole_of cross_join 0) 0 (components_of (length acts)) own
        (map (events_of tree) acts)
    pub clear : (tree : ℕ) (own : List Line) → slice_get lines tree ≡ Some own
        → StaysClear (length acts) own (map (events_of tree) acts)
    pub apart : (tree : ℕ) (own : List Line) → slice_get lines tree ≡ Some own
        → NeverCross own (map (events_of tree) acts)
    pub admits : (tree : ℕ) (own : List Line) → slice_get lines tree ≡ Some own
        → AdmitsOwn own (map (events_of tree) acts)
