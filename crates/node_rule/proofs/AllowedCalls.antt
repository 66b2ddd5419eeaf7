-- The store of a post, the read of a root, a split and a join are allowed.
use Rattle.std.proofs.Common.{◌≡◌, ℕ, suc, ◌*◌, ◌^◌, ◌<◌, ◌≤◌, Bool, List, [], ◌∷◌, ◌++◌, set, None, refl, sym, subst, arith}
use mathlib.Core.Option.{some, none}
use lib.ListN.{get_elem?}
use Rattle.std.specs.Prelude.{slice_set}
use Rattle.std.proofs.lemmas.Nat.{div-mul-add}
use Rattle.atomic_table.specs.Table.{State, step, keeps, Allows, Splits, Joins}
use Rattle.stamp_word.specs.Word.{stamp_in, value_in}
use Rattle.stamp_word.specs.Places.{place_of, leaf_of}
use Rattle.fold_law.specs.Laws.{FoldLaws}
use Rattle.node_rule.specs.declared.view.View.{View}
use Rattle.node_rule.specs.declared.view.View.TheVariants.{Keeper, Session, Spent}
use Rattle.risk_board.specs.declared.hand.Call.TheVariants.{Post, Read}
use Rattle.node_rule.specs.declared.view.Track.{Track}
use Rattle.node_rule.specs.declared.view.Plan.{Plan}
use Rattle.node_rule.specs.Views.{started, called}
use Rattle.node_rule.specs.Sums.{posts_in}
use Rattle.node_rule.specs.Fronts.{word_at}
use Rattle.node_rule.specs.ValuePart.{IsKept}
use Rattle.node_rule.specs.Steps.{Mine, IsLatest, tree_of, after_store, after_read, keeper_after_split, session_after_split, keeper_after_join, Stores, Reads}
use Rattle.node_rule.proofs.Allowed.{loads}
use Rattle.node_rule.proofs.Children.{in_levels}
use Rattle.node_rule.proofs.Stored.{stored}
use Rattle.node_rule.proofs.StoredValues.{stored_valued}
use Rattle.node_rule.proofs.Reading.{read}
use Rattle.node_rule.proofs.Dealing.{splits, joins}
use Rattle.node_rule.proofs.DealtValues.{read_valued, splits_valued, joins_valued}

-- the tree of a place
pub tree_of-place : (levels tree node : ℕ) → node < 2 * 2 ^ levels
    → tree_of levels (place_of levels tree node) ≡ tree
tree_of-place levels tree node node_in = div-mul-add tree (2 * 2 ^ levels) node node_in

module _ (plan : Plan) (unit cap : ℕ) (join : ℕ → ℕ → ℕ) (le : ℕ → ℕ → Bool)
    (under : ℕ → ℕ → Type 0) (laws : FoldLaws unit cap join le under) (slots id : ℕ) where
  abbrev kept : State (Unit {0}) View → Type 0
  kept s = IsKept plan unit cap join s.words s.views

  -- the view after a store, as the proof names it
  stored_view : (levels : ℕ) (track : Track) (tree value word : ℕ) → levels ≡ plan.levels
      → track.number < 2 ^ plan.levels → stamp_in word ≡ suc (posts_in tree track)
      → value_in word ≡ value
      → Session levels (called track (Post tree value))
      (started plan.levels tree (leaf_of plan.levels track.number) (suc (posts_in tree track)))
      ≡ after_store (place_of plan.levels tree (leaf_of plan.levels track.number)) word
      (Session levels track None)
  stored_view levels track tree value word e inside stamp_is value_is =
      let same : tree_of levels (place_of plan.levels tree (leaf_of plan.levels track.number))
      ≡ tree = subst (λ (n : ℕ). tree_of n
      (place_of plan.levels tree (leaf_of plan.levels track.number)) ≡ tree) (sym e)
      (tree_of-place plan.levels tree (leaf_of plan.levels track.number) (omega arith)) in
      λ i. Session levels (called track (Post (sym same i) (sym value_is i)))
      (started (sym e i) (sym same i) (leaf_of (sym e i) track.number) (sym stamp_is i))

  pub allows_store : (me : Mine) (levels : ℕ) (track : Track) (tree value word : ℕ)
      → me.0 ≡ Session levels track None → tree < plan.trees → posts_in tree track < plan.quota
      → value ≤ cap → stamp_in word ≡ suc (posts_in tree track) → value_in word ≡ value
      → Allows kept slots id me (place_of plan.levels tree (leaf_of plan.levels track.number))
      (λ _. word) (λ _. Stores
      (step slots (place_of plan.levels tree (leaf_of plan.levels track.number)) word 0 none) me
      word)
  allows_store me levels track tree value word e tree_in room small stamp_is value_is s h _ at _ =
      let place : ℕ = place_of plan.levels tree (leaf_of plan.levels track.number) in
      let at' = subst (λ (u : View). get_elem? s.views id ≡ some u) e at in
      let is = h.stamps.each id (Session levels track None) at' in
      let same = stored_view levels track tree value word is.0
      (in_levels is.1.past.number h.stamps.planned.sessions) stamp_is value_is in
      let due : IsKept plan unit cap join (slice_set s.words place word)
      (set s.views id (Session levels (called track (Post tree value))
      (started plan.levels tree (leaf_of plan.levels track.number)
      (suc (posts_in tree track))))) = record {
        stamps = stored plan s.words s.views id levels track tree value word h.stamps at' tree_in
            room stamp_is;
        values = stored_valued plan unit cap join s.words s.views id levels track tree value word
            h.stamps at' tree_in room stamp_is h.values small value_is;
      } in (
        after_store place word me.0,
        keeps,
        tt,
        subst (λ (u : View). IsKept plan unit cap join (slice_set s.words place word)
            (set s.views id (after_store place word u))) (sym e)
            (subst (λ (u : View). IsKept plan unit cap join (slice_set s.words place word)
            (set s.views id u)) same due),
        refl,
      )

  pub allows_read : (me : Mine) (levels : ℕ) (track : Track) (tree : ℕ)
      → me.0 ≡ Session levels track None → tree < plan.trees → 1 < 2 * 2 ^ plan.levels
      → Allows kept slots id me (place_of plan.levels tree 1) (λ n. n)
      (Reads (step slots (place_of plan.levels tree 1) 0 0 none) me)
  allows_read me levels track tree e tree_in root_in =
      loads plan unit cap join le under laws slots id me (Session levels track None)
      (place_of plan.levels tree 1) (λ found. after_read (place_of plan.levels tree 1) found)
      (λ found. IsLatest me.0 (place_of plan.levels tree 1) (stamp_in found)) e
      (λ words views k at'. let word : ℕ = word_at plan.levels words tree 1 in
      let is = k.stamps.each id (Session levels track None) at' in
      let same : tree ≡ tree_of levels (place_of plan.levels tree 1) =
      sym (subst (λ (l : ℕ). tree_of l (place_of plan.levels tree 1) ≡ tree) (sym is.0)
      (tree_of-place plan.levels tree 1 root_in)) in
      let latest : (j s v : ℕ) → get_elem? track.calls j ≡ some (Read tree s v)
      → s ≤ stamp_in word = λ j s v found. (is.1.past.calls j (Read tree s v) found).reached in (
        subst (λ (t : ℕ). IsKept plan unit cap join words
            (set views id (Session levels (called track
            (Read t (stamp_in word) (value_in word))) None))) same (record {
              stamps = read plan words views id levels track tree (stamp_in word)
                  (value_in word) k.stamps at' tree_in refl;
              values = read_valued plan unit cap join words views id levels track tree word k.values at'
                  tree_in refl;
            }),
        subst (λ (u : View). IsLatest u (place_of plan.levels tree 1) (stamp_in word)) (sym e)
            (subst (λ (t : ℕ). (j s v : ℕ) → get_elem? track.calls j ≡ some (Read t s v)
            → s ≤ stamp_in word) same latest),
      ))

  pub allows_split : (v : View) (levels given : ℕ) (joined : List Track)
      → v ≡ Keeper levels given joined → given < plan.sessions
      → Splits kept id v (keeper_after_split v) (session_after_split v)
  allows_split v levels given joined e room s h at =
      let at' = subst (λ (u : View). get_elem? s.views id ≡ some u) e at in
      subst (λ (u : View). IsKept plan unit cap join s.words
      (set s.views id (keeper_after_split u) ++ session_after_split u ∷ [])) (sym e) (record {
        stamps = splits plan s.words s.views id levels given joined h.stamps at' room;
        values = splits_valued plan unit cap join s.words s.views id levels given joined h.stamps
            h.values at' room;
      })

  pub allows_join : (v w : View) (other levels given other_levels : ℕ) (joined : List Track)
      (track : Track) → v ≡ Keeper levels given joined → w ≡ Session other_levels track None
      → Joins kept id v other w (keeper_after_join v w) Spent
  allows_join v w other levels given other_levels joined track e d s h at apart there =
      let both : keeper_after_join v w ≡ Keeper levels given (joined ++ track ∷ []) =
      λ i. keeper_after_join (e i) (d i) in
      let at' = subst (λ (u : View). get_elem? s.views id ≡ some u) e at in
      let there' : get_elem? (set s.views id (Keeper levels given (joined ++ track ∷ []))) other
      ≡ some (Session other_levels track None) =
      subst (λ (z : View × View). get_elem? (set s.views id z.0) other ≡ some z.1)
      (λ i. (both i, d i)) there in
      subst (λ (u : View). IsKept plan unit cap join s.words (set (set s.views id u) other Spent))
      (sym both) (record {
        stamps = joins plan s.words s.views id other levels other_levels given joined track h.stamps
            at' apart there';
        values = joins_valued plan unit cap join s.words s.views id other levels other_levels given
            joined track h.stamps h.values at' apart there';
      })
