-- The trees of a journal, one more at a time.
use Rattle.std.proofs.Common.{◌≡◌, ℕ, ◌<◌, List, [], ◌∷◌, ◌++◌, length, sym, ap, subst}
use Rattle.std.proofs.Common.{◌∙◌, inl, inr, get_or}
use Rattle.std.specs.Prelude.{Some, slice_get}
use Rattle.limit_table.specs.declared.limits.Limits.{Limits}
use Rattle.risk_board.specs.declared.hand.Line.{Line}
use Rattle.risk_journal.specs.declared.acts.Act.{Act}
use Rattle.trail_replay.proofs.PreparedTables.{get_or-list_below}
use Rattle.trail_replay.specs.Reads.{list_below}
use Rattle.tree_check.specs.declared.agreeing.ToldTree.{ToldTree}
use Rattle.gate_program.specs.Agreeing.{AreTold, IsTold}
use Rattle.gate_files.proofs.Lists.{pushed_at}
use Rattle.std.proofs.lemmas.Option.{get_or_from_slice_get}

-- one tree more is told
pub one_told : (limits : Limits) (acts : List (List Act)) (lines : List (List Line))
    (trees later : List ToldTree) (tree : ℕ) (own : ToldTree) → length trees ≡ tree
    → AreTold limits acts lines trees → IsTold limits acts lines tree own
    → later ≡ trees ++ own ∷ [] → AreTold limits acts lines later
one_told limits acts lines trees later tree own many so_far one is =
    subst (λ (all : List ToldTree). AreTold limits acts lines all) (sym is)
    (λ place told at. elim (pushed_at trees own place told at) [
      | inl here ↦ so_far place told here
      | inr last ↦ subst (λ (t : ToldTree). IsTold limits acts lines place t) last.1
          (subst (λ (n : ℕ). IsTold limits acts lines n own) (sym (last.0 ∙ many)) one)
    ])

-- what stands at a place of a list that is worked out below a number
pub below_at : {A : Type 0} (f : ℕ → A) (count : ℕ) (all : List A) (place : ℕ) (x : A)
    → all ≡ list_below f count → place < count → slice_get all place ≡ Some x → x ≡ f place
below_at {A} f count all place x are below at =
    sym (get_or_from_slice_get all place x x at)
    ∙ ap (λ (l : List A). get_or l place x) are
    ∙ get_or-list_below f count place x below
