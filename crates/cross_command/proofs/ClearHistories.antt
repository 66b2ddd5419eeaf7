-- What is admitted in the histories of a filter's trees.
use Rattle.std.proofs.Common.{ℕ, List, length, map, subst}
use Rattle.std.proofs.lemmas.List.{length-map}
use Rattle.fold_law.specs.Whole.{whole_of}
use Rattle.limit_table.specs.declared.limits.Limits.{Limits}
use Rattle.risk_board.specs.declared.hand.Line.{Line}
use Rattle.risk_board.specs.History.{Event, IsLegal, components_of}
use Rattle.risk_journal.specs.declared.acts.Act.{Act}
use Rattle.risk_journal.specs.ActLists.{events_of}
use Rattle.cross_guard.specs.Halves.{cross_join}
use Rattle.cross_guard.specs.Laws.{NeverCross}
use Rattle.cross_guard.specs.Standings.{AdmitsOwn, StaysClear}
use Rattle.cross_command.specs.History.{AreLegalLines, IsHistory}

-- What is admitted in a legal history stays clear, and so no two admitted orders cross. In any
-- legal history it is what the sessions' own events admit.
pub record ClearLaws : Type 0 where
  pub clear : (components : ℕ) (lines : List Line) (events : List (List Event))
      → IsLegal (whole_of cross_join 0) 0 components lines events
      → StaysClear (length events) lines events
  pub apart : (components : ℕ) (lines : List Line) (events : List (List Event))
      → IsLegal (whole_of cross_join 0) 0 components lines events → NeverCross lines events
  pub own : (whole : List ℕ → ℕ) (unit components : ℕ) (lines : List Line)
      (events : List (List Event)) → IsLegal whole unit components lines events
      → AdmitsOwn lines events

-- the history of a filter is that of its acts
pub is_history : (limits : Limits) (acts : List (List Act)) (lines : List (List Line))
    → AreLegalLines limits acts lines → ClearLaws → IsHistory limits acts lines
is_history limits acts lines own laws = record {
  trees = own.count;
  legal = own.legal;
  clear = λ tree line is.
      subst (λ (n : ℕ). StaysClear n line (map (events_of tree) acts))
      (length-map acts (events_of tree))
      (laws.clear (components_of (length acts)) line (map (events_of tree) acts)
      (own.legal tree line is));
  apart = λ tree line is.
      laws.apart (components_of (length acts)) line (map (events_of tree) acts)
      (own.legal tree line is);
  admits = λ tree line is.
      laws.own (whole_of cross_join 0) 0 (components_of (length acts)) line
      (map (events_of tree) acts) (own.legal tree line is);
}
