-- What comes back when the next session was compared.
use Rattle.std.proofs.Common.{◌≡◌, ℕ, ◌+◌, List, [], ◌∷◌, ◌++◌, length, drop, ap, sym, subst, ◌∙◌, arith}
use Rattle.std.proofs.Common.{length-append, get_or, map}
use Rattle.std.specs.Prelude.{slice_get, Option, Some, None}
use Rattle.std.proofs.lemmas.List.{get_or-map}
use Rattle.std.proofs.lemmas.Option.{slice_get_within, get_or_from_slice_get}
use Rattle.limit_table.specs.Trees.{LimitsValue}
use Rattle.risk_journal.specs.declared.acts.Act.{Act}
use Rattle.screen_kit.specs.Screens.{ScreenValue}
use Rattle.journal_check.specs.Answers.{AreBack, RoseAt}
use Rattle.journal_check.specs.TakingNext.{TakesNext, Waiting}
use Rattle.journal_check.specs.declared.replay.Likeness.{Likeness}
use Rattle.journal_check.specs.declared.replay.Likeness.TheVariants.{ReadFault}
use Rattle.journal_check.proofs.Sources.{AreBackSoFar, first_left, back_more, all_back, last_back}

module _ {S : Type 0} {left : S → Option (List ℕ)} {faults : S → ℕ} {name : S → Option (List ℕ)}
    {limits : LimitsValue} {acts : List Act} {before now : Waiting S} {likeness : Likeness}
    (next : TakesNext left faults name limits acts before now likeness) (sources : List S)
    (sets : List (List ScreenValue)) (session : ℕ)
    (count : length before.back ≡ session) (rest : before.rest ≡ drop session sources)
    (screens : before.screens ≡ drop session sets)
    (so_far : AreBackSoFar faults name sources before.back) where
  pub source_at : slice_get sources session ≡ Some next.one
  source_at = (first_left sources now.rest session next.one (sym rest ∙ next.rest_is)).0

  pub rest_left : now.rest ≡ drop (session + 1) sources
  rest_left = (first_left sources now.rest session next.one (sym rest ∙ next.rest_is)).1

  pub set_is : get_or sets session [] ≡ next.set
  set_is =
      get_or_from_slice_get sets session next.set []
      (first_left sets now.screens session next.set (sym screens ∙ next.screens_is)).0

  pub sets_left : now.screens ≡ drop (session + 1) sets
  sets_left =
      (first_left sets now.screens session next.set (sym screens ∙ next.screens_is)).1

  pub left_is : get_or (map left sources) session None ≡ left next.one
  left_is =
      get_or-map left sources session next.one None (slice_get_within sources session next.one source_at)
      ∙ ap left (get_or_from_slice_get sources session next.one next.one source_at)

  at_count : slice_get sources (length before.back) ≡ Some next.one
  at_count = subst (λ (n : ℕ). slice_get sources n ≡ Some next.one) (sym count) source_at

  pub more_count : length now.back ≡ session + 1
  more_count = omega (arith, count, ap length next.back_is, length-append before.back (next.other ∷ []))

  pub more_back : AreBackSoFar faults name sources now.back
  more_back =
      subst (AreBackSoFar faults name sources) (sym next.back_is)
      (back_more faults name sources before.back next.one next.other at_count so_far next.is_back)

  -- all sources are back with those that wait
  pub next_all_back : (all : List S) → all ≡ now.back ++ now.rest
      → AreBack faults name sources all
  next_all_back all is =
      let less = slice_get_within sources session next.one source_at in
      subst (AreBack faults name sources) (sym (is ∙ ap (λ r. now.back ++ r) rest_left))
      (all_back faults name sources now.back (session + 1) more_count (omega (arith, less)) more_back)

  -- and the source that failed is among them
  pub next_rose : likeness ≡ ReadFault → (all : List S) → all ≡ now.back ++ now.rest
      → RoseAt faults sources all session
  next_rose failed all is =
      subst (λ (at : ℕ). RoseAt faults sources all at) count
      (subst (λ (l : List S). RoseAt faults sources l (length before.back))
      (sym (is ∙ ap (λ b. b ++ now.rest) next.back_is))
      (last_back faults name sources before.back now.rest next.one next.other at_count
      (next.rose failed)))
