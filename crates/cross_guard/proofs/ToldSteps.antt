-- A call on the hand, told as the next act, keeps the acts in step with it.
use Rattle.std.proofs.Common.{◌≡◌, ℕ, ◌+◌, ◌-◌, ◌<◌, ◌≤◌, ◌==◌, List, length, [], ◌∷◌, ◌++◌, refl, sym, ap, ◌∙◌}
use Rattle.std.proofs.Common.{arith, subst, cond, fold, Bool, true, false}
use Rattle.std.specs.Prelude.{nat_lt, slice_set}
use Rattle.std.specs.List.{slice_index_or}
use Rattle.std.proofs.lemmas.Bool.{eqb-true}
use Rattle.std.proofs.lemmas.List.{append-nil, length-set}
use Rattle.risk_board.specs.Calls.{post_count}
use Rattle.risk_board.specs.Hands.{HandValue, with_call}
use Rattle.risk_board.specs.declared.hand.Call.TheVariants as call
use Rattle.risk_board.specs.declared.hand.Seen.{Seen}
use Rattle.risk_journal.specs.declared.acts.Act.{Act}
use Rattle.risk_journal.specs.declared.acts.Act.TheVariants.{Post, Read}
use Rattle.risk_journal.specs.ActLists.{posts_in, latest, last_post, calls_of}
use Rattle.admit_core.specs.Tapes.{IsNoCall}
use Rattle.admit_core.proofs.ActLemmas.{last_post-append}
use Rattle.admit_core.proofs.Noted.{quiet_last}
use Rattle.cross_guard.proofs.Writes.{set_at, cond_within}
use Rattle.cross_guard.specs.Guarding.{CanGuard, is_spent, last_call, with_calls}
use Rattle.cross_guard.specs.Halves.{cross_cap, cross_join}
use Rattle.cross_guard.specs.HalvesLaws.{halves-le, lower-join, upper-join}
use Rattle.cross_guard.specs.Told.{InStep}
use Rattle.cross_guard.proofs.Capped.{join_capped}
use Rattle.cross_guard.proofs.CallsTold.{calls_of-append, post_count-of, last_call-of}

-- an act that is no call tells none
quiet_calls : (note : Act) → IsNoCall note → calls_of (note ∷ []) ≡ []
quiet_calls (Post tree index value) none = absurd none
quiet_calls (Read tree stamp place value) none = absurd none
quiet_calls note none = refl

module _ (hand : HandValue) (quota : ℕ) (acts : List Act) (lasts : List ℕ)
    (step : InStep hand quota acts lasts) where
  pub count_same : (tree : ℕ) → post_count tree hand.calls ≡ posts_in tree acts
  count_same tree = ap (post_count tree) step.calls ∙ post_count-of tree acts

  pub last_same : (tree : ℕ) → last_call tree hand.calls ≡ last_post tree acts
  last_same tree = ap (last_call tree) step.calls ∙ last_call-of tree acts

  -- the posts that the hand has left tell those that the acts have
  pub left_same : (tree : ℕ) → hand.quota - post_count tree hand.calls ≡ quota - posts_in tree acts
  left_same tree = rw (step.quota_is, count_same tree) refl

  -- where the acts leave a post, so does the hand
  pub left_is_left : (tree : ℕ) → posts_in tree acts < quota → post_count tree hand.calls < hand.quota
  left_is_left tree left = omega (arith, step.quota_is, count_same tree, left)

  -- and the posts that are left tell how many were made
  pub made_is : (tree : ℕ) → posts_in tree acts ≤ quota → (left : ℕ)
      → left ≡ hand.quota - post_count tree hand.calls → quota - left ≡ posts_in tree acts
  made_is tree some left is = omega (arith, is ∙ left_same tree, some)

  -- the acts tell whether too few posts are left
  pub spent_same : (tree : ℕ) → is_spent hand tree ≡ nat_lt quota (posts_in tree acts + 2)
  spent_same tree = rw (step.quota_is, count_same tree) refl

  -- an order's value can be put to the guard
  pub can_guard : (tree old new value : ℕ) → tree < length lasts → value ≤ cross_cap
      → 3 ≤ hand.spare → old ≡ slice_index_or lasts tree 0 → new ≡ cross_join old value
      → CanGuard hand tree old new
  can_guard tree old new value inside most spare is joined =
      let low : old ≤ cross_cap = omega (arith, is, step.capped tree) in
      record {
        in_range = omega (arith, inside, step.trees);
        last = is ∙ step.lasts_are tree inside ∙ sym (last_same tree);
        rises = rw joined (halves-le old (cross_join old value)
            (omega (arith, upper-join old value)) (omega (arith, lower-join old value)));
        capped = omega (arith, joined, join_capped old value low most, step.cap);
        spare = spare;
      }

  -- more acts, which tell the calls that were made, and what is kept after them
  pub next : (more : List Act) (after : HandValue) (lasts_after : List ℕ) → after.trees ≡ hand.trees
      → after.quota ≡ hand.quota → after.cap ≡ hand.cap
      → after.calls ≡ hand.calls ++ calls_of more → length lasts_after ≡ length lasts
      → ((tree : ℕ) → tree < length lasts → slice_index_or lasts_after tree 0
      ≡ fold (latest tree) (slice_index_or lasts tree 0) more)
      → ((tree : ℕ) → slice_index_or lasts_after tree 0 ≤ cross_cap)
      → InStep after quota (acts ++ more) lasts_after
  next more after lasts_after trees quota_is cap calls same kept capped = record {
    trees = trees ∙ step.trees ∙ sym same;
    quota_is = quota_is ∙ step.quota_is;
    cap = cap ∙ step.cap;
    calls = calls ∙ ap (λ cs. cs ++ calls_of more) step.calls ∙ sym (calls_of-append acts more);
    lasts_are = λ tree inside.
        let within : tree < length lasts = omega (arith, inside, same) in
        kept tree within
        ∙ ap (λ n. fold (latest tree) n more) (step.lasts_are tree within)
        ∙ sym (last_post-append tree acts more);
    capped = capped;
  }

  pub posted : (tree index value : ℕ) → tree < length lasts → value ≤ cross_cap
      → InStep (with_call (call.Post tree value) hand) quota (acts ++ Post tree index value ∷ [])
      (slice_set lasts tree value)
  posted tree index value inside most =
      next (Post tree index value ∷ []) (with_call (call.Post tree value) hand)
      (slice_set lasts tree value) refl refl refl refl (length-set lasts tree value)
      (λ t below. set_at lasts tree t value inside)
      (λ t. subst (λ n. n ≤ cross_cap) (sym (set_at lasts tree t value inside))
      (cond_within (tree == t) value _ cross_cap most (step.capped t)))

  pub told : (note : Act) → IsNoCall note → InStep hand quota (acts ++ note ∷ []) lasts
  told note none =
      next (note ∷ []) hand lasts refl refl refl
      (sym (append-nil hand.calls) ∙ ap (λ cs. hand.calls ++ cs) (sym (quiet_calls note none))) refl
      (λ t below. sym (quiet_last t (slice_index_or lasts t 0) note none)) step.capped

  -- a guard that called nothing
  pub unasked : InStep (with_calls [] hand) quota acts lasts
  unasked =
      subst (λ a. InStep (with_calls [] hand) quota a lasts) (append-nil acts)
      (next [] (with_calls [] hand) lasts refl refl refl refl refl (λ t below. refl) step.capped)

  -- one that posted a value and read the root
  pub asked : (tree index value : ℕ) (root : Seen) → tree < length lasts → value ≤ cross_cap
      → InStep (with_calls (call.Post tree value ∷ call.Read tree root.stamp root.value ∷ []) hand)
      quota (acts ++ Post tree index value ∷ Read tree root.stamp 0 root.value ∷ [])
      (slice_set lasts tree value)
  asked tree index value root inside most =
      next (Post tree index value ∷ Read tree root.stamp 0 root.value ∷ [])
      (with_calls (call.Post tree value ∷ call.Read tree root.stamp root.value ∷ []) hand)
      (slice_set lasts tree value) refl refl refl refl (length-set lasts tree value)
      (λ t below. set_at lasts tree t value inside)
      (λ t. subst (λ n. n ≤ cross_cap) (sym (set_at lasts tree t value inside))
      (cond_within (tree == t) value _ cross_cap most (step.capped t)))

  -- and one that posted what stood before again
  pub asked_back : (tree index again value old : ℕ) (root : Seen) → tree < length lasts
      → old ≡ slice_index_or lasts tree 0
      → InStep (with_calls (call.Post tree value ∷ call.Read tree root.stamp root.value
      ∷ call.Post tree old ∷ []) hand) quota
      (acts ++ Post tree index value ∷ Read tree root.stamp 0 root.value ∷ Post tree again old ∷ [])
      lasts
  asked_back tree index again value old root inside is =
      next (Post tree index value ∷ Read tree root.stamp 0 root.value ∷ Post tree again old ∷ [])
      (with_calls (call.Post tree value ∷ call.Read tree root.stamp root.value
      ∷ call.Post tree old ∷ []) hand)
      lasts refl refl refl refl refl (λ t below. back t) step.capped
    where
      back : (t : ℕ) → slice_index_or lasts t 0
          ≡ cond (tree == t) old (cond (tree == t) value (slice_index_or lasts t 0))
      back t = by_test (tree == t) refl
        where
          by_test : (test : Bool) → (tree == t) ≡ test → slice_index_or lasts t 0
              ≡ cond test old (cond test value (slice_index_or lasts t 0))
          by_test true same =
              ap (λ n. slice_index_or lasts n 0) (sym (eqb-true tree t same)) ∙ sym is
          by_test false other = refl
