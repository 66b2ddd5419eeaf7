-- What is found right is worth what a yes promises.
use Rattle.std.proofs.Common.{◌≡◌, ℕ, ◌<◌, List, length, ◌∙◌, sym, ap, subst, arith, cond, max}
use Rattle.std.specs.Prelude.{Option, Some, None, IfSome, refl}
use Rattle.std.proofs.lemmas.Bool.{ne_eqb}
use Rattle.std.proofs.lemmas.List.{length-map}
use Rattle.std.proofs.lemmas.Option.{slice_get_within}
use Rattle.fold_law.specs.Sum.{sum_of}
use Rattle.fold_law.specs.Whole.{whole_of}
use Rattle.limit_table.specs.Trees.{LimitsValue, halt_tree, fold_of, limit_of, tree_limits, account_limits}
use Rattle.limit_table.specs.Trees.{symbol_limits}
use Rattle.admit_core.specs.Admitted.{StaysWithin}
use Rattle.admit_core.proofs.Within.{legal_stays_within}
use Rattle.std.proofs.Common.{length-append}
use Rattle.risk_board.specs.declared.hand.Line.{Line}
use Rattle.risk_board.specs.History.{IsLegal, components_of}
use Rattle.risk_board.proofs.Doublings.{sessions_have_components}
use Rattle.risk_journal.specs.ActLists.{events_of}
use Rattle.risk_journal.specs.declared.acts.Act.{Act}
use Rattle.screen_kit.specs.Screens.{ScreenValue}
use Rattle.journal_check.specs.Answers.{AreTold}
use Rattle.journal_check.specs.Faults.{case_of, told}
use Rattle.journal_check.specs.RowFaults.{HasNoRowFault}
use Rattle.journal_check.specs.Sessions.{AreAlike}
use Rattle.journal_check.specs.TreeFaults.{AreRightAll}
use Rattle.journal_check.specs.Trees.{tree_events, tree_lines}
use Rattle.journal_check.specs.Worth.{AreWorth}
use Rattle.journal_check.proofs.LegalTree.{legal_tree}
use Rattle.journal_check.proofs.SessionRows.{alike_right}

-- a tree with a limit is a tree of sums
sums_with_limit : (limits : LimitsValue) (tree limit : ℕ) → limit_of limits tree ≡ Some limit
    → fold_of limits tree ≡ whole_of sum_of 0
sums_with_limit limits tree limit is =
    let below : tree < halt_tree limits = omega (
      arith,
      slice_get_within (tree_limits limits) tree limit is,
      length-append (account_limits limits.accounts) (symbol_limits limits.symbols),
      length-map limits.accounts (λ row. row.limit),
      length-map limits.symbols (λ row. row.limit),
    ) in
    ap (λ b. cond b (whole_of max 0) (whole_of sum_of 0))
    (ne_eqb tree (halt_tree limits) (λ same. absurd (omega (arith, below, same))))

if_some : {X : Type 0} (o : Option X) (P : X → Type 0) → ((x : X) → o ≡ Some x → P x) → IfSome o P
if_some None P each = tt
if_some (Some x) P each = each x refl

module _ (limits : LimitsValue) (text : List ℕ) (left : List (Option (List ℕ)))
    (screens : List (List ScreenValue)) (acts : List (List Act)) (lines : List (List Line))
    (rows : HasNoRowFault (length left) (halt_tree limits) acts lines)
    (right : AreRightAll (halt_tree limits) acts lines) where
  legal : (tree : ℕ) → IsLegal (fold_of limits tree) 0 (components_of (length acts))
      (tree_lines tree lines) (tree_events tree acts)
  legal tree =
      legal_tree (record {
        lines = (right.right tree).right;
        all = (right.right tree).all;
        reads = right.reads tree;
      })
      (sessions_have_components (length acts))

  within : (tree limit : ℕ) → limit_of limits tree ≡ Some limit
      → StaysWithin limit (length acts) (tree_lines tree lines) (tree_events tree acts)
  within tree limit is =
      subst (λ (n : ℕ). StaysWithin limit n (tree_lines tree lines) (tree_events tree acts))
      (length-map acts (events_of tree))
      (legal_stays_within limit (components_of (length acts)) (tree_lines tree lines)
      (tree_events tree acts)
      (subst (λ (whole : List ℕ → ℕ). IsLegal whole 0 (components_of (length acts))
      (tree_lines tree lines) (tree_events tree acts)) (sums_with_limit limits tree limit is)
      (legal tree)))

  pub worth_of : AreTold left → AreAlike limits left screens acts (length acts)
      → AreWorth (case_of limits text left screens) acts lines
  worth_of are_told alike = record {
    sessions = rows.count ∙ sym (length-map left told);
    legal = legal;
    within = λ tree. if_some (limit_of limits tree)
        (λ limit. StaysWithin limit (length acts) (tree_lines tree lines) (tree_events tree acts))
        (within tree);
    each = λ session own at. alike_right limits text left screens acts are_told rows.count session own at
        (alike session own (slice_get_within acts session own at) at);
  }
