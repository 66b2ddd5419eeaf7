-- What a comparison with a run says of the acts that were compared.
use Rattle.std.proofs.Common.{◌≡◌, ℕ, ◌<◌, List, [], ◌∷◌, length, length-append}
use Rattle.std.proofs.Common.{ap, ◌∙◌, subst, arith}
use Rattle.std.specs.Prelude.{Option, Some, None, IfSome, All}
use Rattle.frame_run.specs.Ends.{IsByInput}
use Rattle.limit_table.specs.Trees.{LimitsValue, halt_tree}
use Rattle.risk_journal.specs.ActLists.{calls_below, calls_at}
use Rattle.risk_journal.specs.JournalGrammar.{HasEnded}
use Rattle.risk_journal.specs.declared.acts.Act.{Act}
use Rattle.risk_journal.specs.declared.acts.Act.TheVariants.{Ended}
use Rattle.risk_journal.specs.declared.acts.End.{End}
use Rattle.risk_journal.specs.declared.acts.End.TheVariants as ending
use Rattle.screen_kit.specs.Screens.{ScreenValue}
use Rattle.fold_law.specs.declared.limits.TheConstants.{LEAF}
use Rattle.journal_check.specs.declared.replay.Likeness.{Likeness}
use Rattle.journal_check.specs.declared.replay.Likeness.TheVariants as likeness
use Rattle.journal_check.specs.Replays.{AreScripted, CallsByScripts, DifferBy, IsComparedBy}
use Rattle.journal_check.specs.SameActs.{AreSame, IsInTrees}
use Rattle.journal_check.specs.Script.{ScriptValue, answers_in}
use Rattle.journal_check.specs.PostBounds.{PostsAtMost}
use Rattle.journal_check.specs.SessionActs.{IsOwnSession, DiffersAt}
use Rattle.journal_check.proofs.SameSession.{differs_inside, differs_too, same_too}
use Rattle.journal_check.proofs.ScriptedReads.{scripts_see_alike, capped_alike, there_is}
use Rattle.journal_check.proofs.ScriptedReads.{elsewhere_is}

-- a session that ended has an act
pub some_act : (acts : List Act) → HasEnded acts → 0 < length acts
some_act acts ended =
    omega (arith, ap length ended.last, length-append ended.earlier (Ended ended.end ∷ []))

-- an index at which they differ is one of theirs
pub differ_within : (acts told : List Act) (index : ℕ) → HasEnded told → DifferBy acts told index
    → index < length told
differ_within acts told index ended differ =
    omega (arith, differ.index_is, some_act told ended)

-- the scripts of hands that were made for these acts
pub calls_answered : (limits : LimitsValue) (acts told : List Act) (sum halt : ScriptValue)
    → AreScripted limits told sum halt → All (IsInTrees (halt_tree limits)) told
    → CallsByScripts (halt_tree limits) sum.script halt.script acts
    → CallsByScripts (halt_tree limits) (answers_in (calls_below (halt_tree limits) told))
    (answers_in (calls_at (halt_tree limits) told)) acts
calls_answered limits acts told sum halt scripted all calls =
    subst (λ script. CallsByScripts (halt_tree limits) script
    (answers_in (calls_at (halt_tree limits) told)) acts)
    (scripted.sum_script ∙ elsewhere_is (halt_tree limits) told all)
    (subst (λ script. CallsByScripts (halt_tree limits) sum.script script acts)
    (scripted.halt_script ∙ there_is (halt_tree limits) told) calls)

module _ (limits : LimitsValue) (screens : List ScreenValue) (acts told : List Act) where
  alike_over : (left : Option (List ℕ)) → AreSame acts told
      → IfSome left (λ bytes. IsOwnSession limits screens bytes acts)
      → IfSome left (λ bytes. IsOwnSession limits screens bytes told)
  alike_over None same own = tt
  alike_over (Some bytes) same own = same_too limits screens bytes acts told own same

  pub alike_follows : (left : Option (List ℕ)) (end : End) (answer : Likeness)
      → IsComparedBy end acts told answer
      → (IsByInput end → IfSome left (λ bytes. IsOwnSession limits screens bytes acts))
      → answer ≡ likeness.Alike → IfSome left (λ bytes. IsOwnSession limits screens bytes told)
  alike_follows left end answer compared follows is =
      let both = subst (IsComparedBy end acts told) is compared in
      alike_over left both.1 (follows both.0)

  pub capped_follows : (end : End) (answer : Likeness) → IsComparedBy end acts told answer
      → All (IsInTrees (halt_tree limits)) told
      → CallsByScripts (halt_tree limits) (answers_in (calls_below (halt_tree limits) told))
      (answers_in (calls_at (halt_tree limits) told)) acts
      → answer ≡ likeness.Alike → All (PostsAtMost LEAF) told
  capped_follows end answer compared all calls is =
      let both = subst (IsComparedBy end acts told) is compared in
      capped_alike LEAF (halt_tree limits) acts told both.1 all calls.sum_capped calls.halt_capped

  apart_over : (left : Option (List ℕ)) (index : ℕ) → HasEnded told
      → All (IsInTrees (halt_tree limits)) told
      → CallsByScripts (halt_tree limits) (answers_in (calls_below (halt_tree limits) told))
      (answers_in (calls_at (halt_tree limits) told)) acts
      → DifferBy acts told index
      → IfSome left (λ bytes. IsOwnSession limits screens bytes acts)
      → IfSome left (λ bytes. DiffersAt limits screens bytes told index)
  apart_over None index ended all calls differ own = tt
  apart_over (Some bytes) index ended all calls differ own =
      let inside = differs_inside limits screens bytes acts told own differ.first ended
      differ.differ in
      let index_is : differ.first ≡ index = omega (arith, inside, differ.index_is) in
      subst (DiffersAt limits screens bytes told) index_is
      (differs_too limits screens bytes acts told own differ.first ended
      (scripts_see_alike (halt_tree limits) acts told calls all) differ.differ)

  pub apart_follows : (left : Option (List ℕ)) (end : End) (answer : Likeness) (index : ℕ)
      → IsComparedBy end acts told answer → HasEnded told
      → All (IsInTrees (halt_tree limits)) told
      → CallsByScripts (halt_tree limits) (answers_in (calls_below (halt_tree limits) told))
      (answers_in (calls_at (halt_tree limits) told)) acts
      → (IsByInput end → IfSome left (λ bytes. IsOwnSession limits screens bytes acts))
      → answer ≡ likeness.Apart index
      → IfSome left (λ bytes. DiffersAt limits screens bytes told index)
  apart_follows left end answer index compared ended all calls follows is =
      let both = subst (IsComparedBy end acts told) is compared in
      apart_over left index ended all calls both.1 (follows both.0)

  pub inside_follows : (end : End) (answer : Likeness) (index : ℕ)
      → IsComparedBy end acts told answer → HasEnded told → answer ≡ likeness.Apart index
      → index < length told
  inside_follows end answer index compared ended is =
      differ_within acts told index ended (subst (IsComparedBy end acts told) is compared).1

  pub fault_follows : (end : End) (answer : Likeness) → IsComparedBy end acts told answer
      → answer ≡ likeness.ReadFault → end ≡ ending.ReadFault
  fault_follows end answer compared is = subst (IsComparedBy end acts told) is compared
