-- The lines of the forests' trees and the acts of the sessions are one legal history in each tree of
-- the limits.
use Rattle.std.proofs.Common.{◌≡◌, ℕ, ◌<◌, ◌==◌, List, length, map, max}
use Rattle.std.proofs.Common.{Bool, true, false, cond}
use Rattle.std.proofs.lemmas.Bool.{cases_lt}
use Rattle.std.proofs.lemmas.Bool.Decides.{nat_tests}
use Rattle.std.proofs.Common.{sym, ap, subst, ◌∙◌, inl, inr, arith, length-append}
use Rattle.std.proofs.lemmas.Option.{slice_get_within, slice_get_past}
use Rattle.std.proofs.lemmas.List.{length-map}
use Rattle.std.specs.Prelude.{Option, Some, None, IfSome, slice_get}
use Rattle.fold_law.specs.Sum.{sum_of}
use Rattle.fold_law.specs.Whole.{whole_of}
use Rattle.limit_table.specs.declared.limits.Limits.{Limits}
use Rattle.risk_board.specs.declared.hand.Line.{Line}
use Rattle.risk_board.specs.History.{IsLegal, Event, components_of}
use Rattle.risk_journal.specs.declared.acts.Act.{Act}
use Rattle.risk_journal.specs.ActLists.{events_of}
use Rattle.limit_table.specs.Trees.{fold_of, limit_of, halt_tree, tree_limits, account_limits}
use Rattle.limit_table.specs.Trees.{symbol_limits}
use Rattle.session_engine.specs.Admitted.{AdmitsOwn, StaysWithin}
use Rattle.gate_program.specs.Histories.{AreHistories, AreLegalLines}
use Rattle.gate_program.specs.Run.{IsHistory}

isnt_halt : (limits : Limits) (tree : ℕ) → tree < halt_tree limits
    → (tree == halt_tree limits) ≡ false
isnt_halt limits tree below = grind (arith, nat_tests)

is_itself : (n : ℕ) → (n == n) ≡ true
is_itself n = grind (arith, nat_tests)

-- the halt tree is one of the largest
pub fold_halt : (limits : Limits) → fold_of limits (halt_tree limits) ≡ whole_of max 0
fold_halt limits =
    ap (λ (halts : Bool). cond halts (whole_of max 0) (whole_of sum_of 0))
    (is_itself (halt_tree limits))

-- and has no limit
pub no_halt_limit : (limits : Limits) → limit_of limits (halt_tree limits) ≡ None
no_halt_limit limits = slice_get_past (tree_limits limits) (halt_tree limits)
    (omega (
      arith,
      length-append (account_limits limits.accounts) (symbol_limits limits.symbols),
      length-map limits.accounts (λ row. row.limit),
      length-map limits.symbols (λ row. row.limit),
    ))

-- a tree below the halt tree is one of sums
pub fold_below : (limits : Limits) (tree : ℕ) → tree < halt_tree limits
    → fold_of limits tree ≡ whole_of sum_of 0
fold_below limits tree below =
    ap (λ (halts : Bool). cond halts (whole_of max 0) (whole_of sum_of 0))
    (isnt_halt limits tree below)

-- the histories of so many trees of sums and of one halt tree are those of the limits' trees
pub are_legal_lines : (limits : Limits) (acts : List (List Act)) (lines : List (List Line))
    → AreHistories (halt_tree limits) acts lines → AreLegalLines limits acts lines
are_legal_lines limits acts lines own = record {
  count = own.count ∙ omega arith;
  legal = λ tree lines_of is.
      let inside : tree < length lines = slice_get_within lines tree lines_of is in
      elim (cases_lt tree (halt_tree limits)) [
        | inl below ↦ subst
            (λ (whole : List ℕ → ℕ). IsLegal whole 0 (components_of (length acts)) lines_of
            (map (events_of tree) acts))
            (sym (fold_below limits tree below)) (own.sums tree lines_of below is)
        | inr above ↦ at_halt tree lines_of (omega (arith, inside, above, own.count)) is
      ];
}
  where
    at_halt : (tree : ℕ) (lines_of : List Line) → tree ≡ halt_tree limits
        → slice_get lines tree ≡ Some lines_of
        → IsLegal (fold_of limits tree) 0 (components_of (length acts)) lines_of
        (map (events_of tree) acts)
    at_halt tree lines_of same is =
        subst (λ (n : ℕ). IsLegal (fold_of limits n) 0 (components_of (length acts)) lines_of
        (map (events_of n) acts)) (sym same)
        (subst (λ (whole : List ℕ → ℕ). IsLegal whole 0 (components_of (length acts)) lines_of
        (map (events_of (halt_tree limits)) acts)) (sym (fold_halt limits))
        (own.halt lines_of (subst (λ (n : ℕ). slice_get lines n ≡ Some lines_of) same is)))

-- What is admitted in a legal history of sums stays within any limit. In any legal history it is
-- what the sessions' own events admit.
pub record AdmissionLaws : Type 0 where
  pub stays : (limit components : ℕ) (lines : List Line) (events : List (List Event))
      → IsLegal (whole_of sum_of 0) 0 components lines events
      → StaysWithin limit (length events) lines events
  pub own : (whole : List ℕ → ℕ) (unit limit components : ℕ) (lines : List Line)
      (events : List (List Event)) → IsLegal whole unit components lines events
      → AdmitsOwn limit lines events

within_any : AdmissionLaws → (limit : Option ℕ) (count : ℕ) (own : List Line)
    (events : List (List Event)) → length events ≡ count
    → IsLegal (whole_of sum_of 0) 0 (components_of (length events)) own events
    → IfSome limit (λ l. StaysWithin l count own events)
within_any laws None count own events many legal = tt
within_any laws (Some limit) count own events many legal =
    subst (λ (n : ℕ). StaysWithin limit n own events) many (laws.stays limit _ own events legal)

own_any : AdmissionLaws → (whole : List ℕ → ℕ) (limit : Option ℕ) (components : ℕ)
    (own : List Line) (events : List (List Event)) → IsLegal whole 0 components own events
    → IfSome limit (λ l. AdmitsOwn l own events)
own_any laws whole None components own events legal = tt
own_any laws whole (Some limit) components own events legal =
    laws.own whole 0 limit components own events legal

module _ (limits : Limits) (acts : List (List Act)) (lines : List (List Line))
    (own : AreLegalLines limits acts lines) where
  many : (tree : ℕ) → length (map (events_of tree) acts) ≡ length acts
  many tree = length-map acts (events_of tree)

  below_within : AdmissionLaws → (tree : ℕ) (line : List Line) → slice_get lines tree ≡ Some line
      → tree < halt_tree limits
      → IfSome (limit_of limits tree)
      (λ limit. StaysWithin limit (length acts) line (map (events_of tree) acts))
  below_within laws tree line is below =
      within_any laws (limit_of limits tree) (length acts) line (map (events_of tree) acts)
      (many tree)
      (subst (λ (n : ℕ). IsLegal (whole_of sum_of 0) 0 (components_of n) line
      (map (events_of tree) acts)) (sym (many tree))
      (subst (λ (whole : List ℕ → ℕ). IsLegal whole 0 (components_of (length acts)) line
      (map (events_of tree) acts)) (fold_below limits tree below) (own.legal tree line is)))

  halt_within : (tree : ℕ) (line : List Line) → tree ≡ halt_tree limits
      → IfSome (limit_of limits tree)
      (λ limit. StaysWithin limit (length acts) line (map (events_of tree) acts))
  halt_within tree line same =
      subst (λ (limit : Option ℕ). IfSome limit
      (λ l. StaysWithin l (length acts) line (map (events_of tree) acts)))
      (sym (ap (limit_of limits) same ∙ no_halt_limit limits)) tt

  -- the history of a run is that of its acts
  pub is_history : AdmissionLaws → IsHistory limits acts lines
  is_history laws = record {
    trees = own.count;
    legal = own.legal;
    within = λ tree line is.
        let inside : tree < length lines = slice_get_within lines tree line is in
        elim (cases_lt tree (halt_tree limits)) [
          | inl below ↦ below_within laws tree line is below
          | inr above ↦ halt_within tree line (omega (arith, inside, above, own.count))
        ];
    admits = λ tree line is. own_any laws (fold_of limits tree) (limit_of limits tree)
        (components_of (length acts)) line (map (events_of tree) acts) (own.legal tree line is);
  }
