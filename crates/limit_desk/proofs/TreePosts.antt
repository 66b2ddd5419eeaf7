-- In each tree an officer posts the values of its rows.
use Rattle.std.proofs.Common.{◌≡◌, ℕ, ◌+◌, ◌==◌, List, [], ◌∷◌, ◌++◌, sym, ap, ◌∙◌, fold, map}
use Rattle.std.proofs.Common.{Bool, true, false, cond}
use Rattle.std.specs.List.{filter}
use Rattle.std.proofs.lemmas.List.{append-nil, append_assoc}
use Rattle.limit_table.specs.Trees.{LimitsValue, halt_tree}
use Rattle.risk_board.specs.History.{Event}
use Rattle.risk_board.specs.History.Event.{Posted}
use Rattle.risk_journal.specs.declared.acts.Act.{Act}
use Rattle.risk_journal.specs.declared.acts.Act.TheVariants.{Ended, Post}
use Rattle.risk_journal.specs.declared.acts.End.{End}
use Rattle.risk_journal.specs.ActLists.{events_of, posts_in}
use Rattle.admit_core.proofs.Standings.{events_of-append}
use Rattle.limit_desk.specs.declared.officer.OfficerRow.{OfficerRow}
use Rattle.limit_desk.specs.Posted.{PostsTheirRows, all_posted, values_in}
use Rattle.limit_desk.specs.Posting.{posts_of, tree_number, with_row}

module _ (count number : ℕ) where
  -- a row's post, if it is in the tree, and then those of the others
  in_front : (here : Bool) (before : List Event) (row : OfficerRow) (rows : List OfficerRow)
      → (before ++ cond here (Posted row.value ∷ []) []) ++ all_posted (map (λ r. r.value) rows)
      ≡ before ++ all_posted (map (λ r. r.value) (cond here (row ∷ rows) rows))
  in_front true before row rows =
      append_assoc before (Posted row.value ∷ []) (all_posted (map (λ r. r.value) rows))
  in_front false before row rows =
      ap (λ es. es ++ all_posted (map (λ r. r.value) rows)) (append-nil before)

  after_acts : (acts : List Act) (rows : List OfficerRow)
      → events_of number (fold (with_row count) acts rows)
      ≡ events_of number acts ++ all_posted (values_in count number rows)
  after_acts acts [] = sym (append-nil (events_of number acts))
  after_acts acts (row ∷ rows) =
      let tree = tree_number count row.tree in
      after_acts (with_row count acts row) rows
      ∙ ap (λ es. es ++ all_posted (values_in count number rows))
      (events_of-append number acts (Post tree (posts_in tree acts + 1) row.value ∷ []))
      ∙ in_front (tree == number) (events_of number acts) row
      (filter (λ r. tree_number count r.tree == number) rows)

pub posts_their_rows : (limits : LimitsValue) (rows : List OfficerRow) (end : End)
    → PostsTheirRows limits rows end
posts_their_rows limits rows end number =
    events_of-append number (posts_of (halt_tree limits) rows) (Ended end ∷ [])
    ∙ append-nil (events_of number (posts_of (halt_tree limits) rows))
    ∙ after_acts (halt_tree limits) number [] rows
