-- A read of the root, a split and a join keep the value part.
use Rattle.std.proofs.Common.{◌≡◌, ℕ, zero, suc, ◌+◌, ◌-◌, ◌^◌, ◌<◌, List, [], ◌∷◌, ◌++◌, set, None, refl, sym, ap, ◌∙◌, subst, ⊎_elim, arith}
use mathlib.Core.Option.{some}
use lib.ListN.{get_elem?}
use Rattle.std.specs.Prelude.{◌==◌}
use Rattle.atomic_table.proofs.Lists.{at_snoc}
use Rattle.stamp_word.specs.Word.{stamp_in, value_in}
use Rattle.node_rule.specs.declared.view.View.{View}
use Rattle.node_rule.specs.declared.view.View.TheVariants.{Keeper, Session, Spent}
use Rattle.risk_board.specs.declared.hand.Call.{Call}
use Rattle.risk_board.specs.declared.hand.Call.TheVariants.{Read}
use Rattle.node_rule.specs.declared.view.Track.{Track}
use Rattle.node_rule.specs.declared.view.Plan.{Plan}
use Rattle.node_rule.specs.Views.{called, new_track}
use Rattle.node_rule.specs.Sums.{Each, over, when, nth, seen_in, post_of}
use Rattle.node_rule.specs.Fronts.{IsDeep, word_at, leaf_value, value_of, value_at}
use Rattle.node_rule.specs.StampPart.{IsStamped}
use Rattle.node_rule.specs.ValuePart.{IsCallValued, IsViewValued, IsValued}
use Rattle.node_rule.proofs.Quiet.{each-set}
use Rattle.node_rule.proofs.Won.{each-append}
use Rattle.node_rule.proofs.CallLists.{posted-read}
use Rattle.node_rule.proofs.QuietValues.{keeps_values}
use Rattle.node_rule.proofs.Dealing.{nothing, dealt, left, right, over-dealt, taken, over-taken, at_other}

module _ (plan : Plan) (unit cap : ℕ) (join : ℕ → ℕ → ℕ) (words : List ℕ) (views : List View) where
  abbrev value : ℕ → ℕ → ℕ → ℕ → ℕ
  value = value_at plan.levels unit join views

  root_valued : IsValued plan unit cap join words views → (tree : ℕ) → tree < plan.trees
      → value_in (word_at plan.levels words tree 1) ≡ value tree plan.levels 1
      (stamp_in (word_at plan.levels words tree 1))
  root_valued h tree tree_in = h.nodes tree 0 plan.levels 1 tree_in (omega arith)
      (record { low = omega arith; high = omega arith })

  pub read_valued : (seat levels : ℕ) (track : Track) (tree word : ℕ)
      → IsValued plan unit cap join words views
      → get_elem? views seat ≡ some (Session levels track None) → tree < plan.trees
      → word ≡ word_at plan.levels words tree 1
      → IsValued plan unit cap join words (set views seat
      (Session levels (called track (Read tree (stamp_in word) (value_in word))) None))
  read_valued seat levels track tree word h at tree_in now =
      let read : Call = Read tree (stamp_in word) (value_in word) in
      keeps_values plan unit cap join words views seat (Session levels track None)
      (Session levels (called track read) None) at
      (record {
        seen = λ t child stamp. refl;
        posts =
            λ number t index. ap (λ (l : List ℕ). when (track.number == number) (nth l index) + 0)
            (sym (posted-read t track.calls tree (stamp_in word) (value_in word)));
      })
      h
      (record {
        loaded = tt;
        calls = (
          each-append (IsCallValued plan cap value) track.calls read
              (h.each seat (Session levels track None) at).calls.0
              (subst (λ (w : ℕ). value_in w ≡ value tree plan.levels 1 (stamp_in w)) (sym now)
              (root_valued h tree tree_in)),
          tt,
        );
      })

  -- views from which every sum comes out the same
  module _ (views' : List View) (seen : (tree child stamp : ℕ)
      → over (seen_in tree child stamp) views' ≡ over (seen_in tree child stamp) views)
      (posts : (number tree index : ℕ) → over (post_of number tree index) views' ≡ over
      (post_of number tree index) views) where
    leaf-path : (tree node stamp : ℕ)
        → leaf_value plan.levels unit views' tree node stamp
        ≡ leaf_value plan.levels unit views tree node stamp
    leaf-path tree node zero = refl
    leaf-path tree node (suc k) = posts (node - 2 ^ plan.levels) tree (suc k)

    value-path : value_at plan.levels unit join views' ≡ value
    value-path = λ k tree height node stamp. value_of join (λ n s. leaf-path tree n s k)
        (λ child s. seen tree child s k) height node stamp

    pub revalued : IsValued plan unit cap join words views
        → ((j : ℕ) (u : View) → get_elem? views' j ≡ some u → IsViewValued plan cap value u)
        → IsValued plan unit cap join words views'
    revalued h each = let back = sym value-path in record {
      nodes = subst (λ (f : ℕ → ℕ → ℕ → ℕ → ℕ). (tree depth height node : ℕ) → tree < plan.trees
          → depth + height ≡ plan.levels → IsDeep depth node
          → value_in (word_at plan.levels words tree node) ≡ f tree height node
          (stamp_in (word_at plan.levels words tree node))) back h.nodes;
      each = subst (λ (f : ℕ → ℕ → ℕ → ℕ → ℕ). (j : ℕ) (u : View) → get_elem? views' j ≡ some u
          → IsViewValued plan cap f u) back each;
    }

  pub splits_valued : (seat levels given : ℕ) (joined : List Track) → IsStamped plan words views
      → IsValued plan unit cap join words views
      → get_elem? views seat ≡ some (Keeper levels given joined) → given < plan.sessions
      → IsValued plan unit cap join words (dealt plan words views seat levels given joined)
  splits_valued seat levels given joined s h at room =
      revalued (dealt plan words views seat levels given joined)
      (λ tree child stamp. over-dealt plan words views seat levels given joined s at room
      (seen_in tree child stamp) ∙ (let same : over (seen_in tree child stamp) views +
      (0 + 0) ≡ over (seen_in tree child stamp) views = omega arith in same))
      (λ number tree index. over-dealt plan words views seat levels given joined s at room
      (post_of number tree index)
      ∙ (ap (λ (n : ℕ). over (post_of number tree index) views + (n + 0))
      (none number tree index) ∙ (let same : over (post_of number tree index) views +
      (0 + 0) ≡ over (post_of number tree index) views = omega arith in same)))
      h
      (λ j u e. ⊎_elim
      (λ (old : get_elem? (set views seat (left plan words views seat levels given joined)) j
      ≡ some u). each-set (IsViewValued plan cap value) views seat
      (left plan words views seat levels given joined) h.each
      (record { loaded = tt; calls = (h.each seat (Keeper levels given joined) at).calls }) j u
      old)
      (λ (new : right plan words views seat levels given joined ≡ u). subst
      (IsViewValued plan cap value) new (record { loaded = tt; calls = (tt, tt) }))
      (at_snoc (set views seat (left plan words views seat levels given joined))
      (right plan words views seat levels given joined) u j e))
    where
      no_post : (index : ℕ) → nth [] index ≡ 0
      no_post zero = refl
      no_post (suc k) = refl

      none : (number tree index : ℕ) → post_of number tree index (new_track given) ≡ 0
      none number tree index = ap (when (given == number)) (no_post index)
          ∙ nothing (given == number)

  pub joins_valued : (seat other levels other_levels given : ℕ) (joined : List Track)
      (track : Track) → IsStamped plan words views → IsValued plan unit cap join words views
      → get_elem? views seat ≡ some (Keeper levels given joined) → (other ≡ seat → ⊥)
      → get_elem? (set views seat (Keeper levels given (joined ++ track ∷ []))) other ≡ some
      (Session other_levels track None)
      → IsValued plan unit cap join words
      (taken plan words views seat other levels other_levels given joined track)
  joins_valued seat other levels other_levels given joined track s h at apart there =
      let there' = at_other plan words views seat other levels other_levels given joined track s at
      apart there in
      revalued (taken plan words views seat other levels other_levels given joined track)
      (λ tree child stamp. over-taken plan words views seat other levels other_levels given joined
      track s at apart there (seen_in tree child stamp))
      (λ number tree index. over-taken plan words views seat other levels other_levels given joined
      track s at apart there (post_of number tree index))
      h
      (each-set (IsViewValued plan cap value)
      (set views seat (Keeper levels given (joined ++ track ∷ []))) other Spent
      (each-set (IsViewValued plan cap value) views seat
      (Keeper levels given (joined ++ track ∷ [])) h.each
      (record {
        loaded = tt;
        calls = each-append
            (λ (t : Track). Each (IsCallValued plan cap value) t.calls) joined track
            (h.each seat (Keeper levels given joined) at).calls
            (h.each other (Session other_levels track None) there').calls.0;
      }))
      (record { loaded = tt; calls = tt }))
