-- A post on one of an officer's hands, told as the next act, keeps the hands in step.
use Rattle.std.proofs.Common.{◌≡◌, ℕ, ◌+◌, ◌-◌, ◌<◌, ◌≤◌, List, length, [], ◌∷◌, ◌++◌, refl}
use Rattle.std.proofs.Common.{sym, ap, ◌∙◌, arith, cond, true, false}
use Rattle.std.specs.Prelude.{nat_lt}
use Rattle.std.proofs.lemmas.Bool.{eq-eqb, ne_eqb}
use Rattle.std.proofs.lemmas.Bool.Decides.{nat_tests}
use Rattle.std.proofs.lemmas.List.{append-nil}
use Rattle.std.proofs.lemmas.List.Sums.{count_by-le-length}
use Rattle.risk_board.specs.Calls.{post_count}
use Rattle.risk_board.specs.Hands.{HandValue, with_call}
use Rattle.risk_board.specs.declared.hand.Call.{Call}
use Rattle.risk_board.specs.declared.hand.Call.TheVariants as call
use Rattle.risk_journal.specs.declared.acts.Act.{Act}
use Rattle.risk_journal.specs.declared.acts.Act.TheVariants.{Post}
use Rattle.risk_journal.specs.ActLists.{posts_in, is_post_act_in, calls_at}
use Rattle.admit_core.proofs.CallLemmas.{calls_at-append, post_count-at}
use Rattle.limit_desk.specs.Hands.{InStep, IsPostHand}
use Rattle.limit_desk.specs.Officers.{rows_most}
use Rattle.limit_desk.specs.Trees.{limit_tree, limit_calls}
use Rattle.limit_desk.proofs.LimitCalls.{calls_from-append, post_count-from}

module _ (halt desk : HandValue) (count : ℕ) (acts : List Act) (step : InStep halt desk count acts)
  where
    halt_posts : post_count 0 halt.calls ≡ posts_in count acts
    halt_posts = ap (post_count 0) step.halt_calls ∙ post_count-at count acts

    desk_posts : (tree : ℕ) → post_count tree desk.calls ≡ posts_in (limit_tree count tree) acts
    desk_posts tree = ap (post_count tree) step.desk_calls ∙ post_count-from (count + 1) tree acts

    few_posts : (tree : ℕ) → posts_in tree acts ≤ length acts
    few_posts tree = count_by-le-length (is_post_act_in tree) acts

    -- while there are fewer acts than rows at most, the hands have a post left in each tree
    pub level_left : length acts < rows_most → post_count 0 halt.calls < halt.quota
    level_left few = omega (arith, halt_posts, few_posts count, few, step.halt_hand.quota)

    pub limit_left : length acts < rows_most → (tree : ℕ) → post_count tree desk.calls < desk.quota
    limit_left few tree =
        omega (arith, desk_posts tree, few_posts (limit_tree count tree), few, step.desk_hand.quota)

    -- and the posts that are left tell the index of the next
    pub level_index : length acts < rows_most → (left : ℕ)
        → left ≡ halt.quota - post_count 0 halt.calls
        → rows_most - left + 1 ≡ posts_in count acts + 1
    level_index few left is =
        omega (arith, is, halt_posts, few_posts count, few, step.halt_hand.quota)

    pub limit_index : length acts < rows_most → (tree left : ℕ)
        → left ≡ desk.quota - post_count tree desk.calls
        → rows_most - left + 1 ≡ posts_in (limit_tree count tree) acts + 1
    limit_index few tree left is = omega (
      arith,
      is,
      desk_posts tree,
      few_posts (limit_tree count tree),
      few,
      step.desk_hand.quota,
    )

    same_hand : (trees most : ℕ) (hand : HandValue) (one : Call) → IsPostHand trees most hand
        → IsPostHand trees most (with_call one hand)
    same_hand trees most hand one is =
        record { trees = is.trees; quota = is.quota; cap = is.cap }

    pub level_posted : (index value : ℕ)
        → InStep (with_call (call.Post 0 value) halt) desk count (acts ++ Post count index value ∷ [])
    level_posted index value =
        let told = Post count index value ∷ [] in record {
          few = step.few;
          halt_hand = same_hand _ _ halt (call.Post 0 value) step.halt_hand;
          desk_hand = step.desk_hand;
          halt_calls = ap (λ calls. calls ++ call.Post 0 value ∷ []) step.halt_calls
              ∙ ap (λ here. calls_at count acts ++ cond here (call.Post 0 value ∷ []) [])
              (sym (eq-eqb count count refl))
              ∙ sym (calls_at-append count acts told);
          desk_calls = step.desk_calls ∙ sym (append-nil (limit_calls count acts))
              ∙ ap (λ below. limit_calls count acts
              ++ cond below [] (call.Post (count - (count + 1)) value ∷ []))
              (sym (level_is_below count))
              ∙ sym (calls_from-append (count + 1) acts told);
        }
      where
        level_is_below : (count : ℕ) → nat_lt count (count + 1) ≡ true
        level_is_below count = grind (arith, nat_tests)

    pub limit_posted : (tree index value : ℕ)
        → InStep halt (with_call (call.Post tree value) desk) count
        (acts ++ Post (limit_tree count tree) index value ∷ [])
    limit_posted tree index value =
        let told = Post (limit_tree count tree) index value ∷ [] in record {
          few = step.few;
          halt_hand = step.halt_hand;
          desk_hand = same_hand _ _ desk (call.Post tree value) step.desk_hand;
          halt_calls = step.halt_calls ∙ sym (append-nil (calls_at count acts))
              ∙ ap (λ here. calls_at count acts ++ cond here (call.Post 0 value ∷ []) [])
              (sym (ne_eqb (limit_tree count tree) count (λ e. absurd (omega (arith, e)))))
              ∙ sym (calls_at-append count acts told);
          desk_calls = ap (λ calls. calls ++ call.Post tree value ∷ []) step.desk_calls
              ∙ ap (λ t. limit_calls count acts ++ call.Post t value ∷ []) (behind_at count tree)
              ∙ ap (λ below. limit_calls count acts
              ++ cond below [] (call.Post (limit_tree count tree - (count + 1)) value ∷ []))
              (sym (limit_is_behind count tree))
              ∙ sym (calls_from-append (count + 1) acts told);
        }
      where
        behind_at : (count tree : ℕ) → tree ≡ limit_tree count tree - (count + 1)
        behind_at count tree = omega arith

        limit_is_behind : (count tree : ℕ) → nat_lt (limit_tree count tree) (count + 1) ≡ false
        limit_is_behind count tree = grind (arith, nat_tests)
