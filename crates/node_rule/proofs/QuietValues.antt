-- The value part at a step that changes no word.
use Rattle.std.proofs.Common.{◌≡◌, ℕ, zero, suc, ◌+◌, ◌-◌, ◌*◌, ◌/◌, ◌^◌, ◌<◌, ◌≤◌, Bool, true, false, List, set, Option, Some, None, refl, sym, ap, ◌∙◌, subst, arith}
use mathlib.Core.Option.{some}
use lib.ListN.{get_elem?}
use Rattle.std.specs.Prelude.{IfSome, ◌==◌}
use Rattle.stamp_word.specs.Word.{stamp_in, value_in}
use Rattle.node_rule.specs.declared.view.View.{View}
use Rattle.node_rule.specs.declared.view.View.TheVariants.{Session}
use Rattle.node_rule.specs.declared.view.Stage.{Stage}
use Rattle.node_rule.specs.declared.view.Stage.TheVariants.{Fresh, First, Lost, Second}
use Rattle.node_rule.specs.declared.view.Track.{Track}
use Rattle.node_rule.specs.declared.view.Try.{Try}
use Rattle.node_rule.specs.declared.view.Ascent.{Ascent}
use Rattle.node_rule.specs.declared.view.Plan.{Plan}
use Rattle.node_rule.specs.Views.{tracks_of, try_of, staged, try_at, with_left, with_right, risen, pick, moved}
use Rattle.node_rule.specs.Sums.{total, seen_in, post_of}
use Rattle.node_rule.specs.Fronts.{board_of, IsDeep, word_at, leaf_value, value_of, value_at}
use Rattle.node_rule.specs.StampPart.{IsAscent, IsStamped}
use Rattle.node_rule.specs.ValuePart.{HasValues, IsViewValued, IsValued}
use Rattle.node_rule.proofs.SumLemmas.{total-same}
use Rattle.node_rule.proofs.Quiet.{each-set}
use Rattle.node_rule.proofs.Values.{child-deep, ascent-deep}

-- Views from which every value comes out the same
pub record SameValues (v w : View) : Type 0 where
  pub seen : (tree child stamp : ℕ) → total (seen_in tree child stamp) (tracks_of v) ≡ total
      (seen_in tree child stamp) (tracks_of w)
  pub posts : (number tree index : ℕ) → total (post_of number tree index) (tracks_of v) ≡ total
      (post_of number tree index) (tracks_of w)

module _ (plan : Plan) (unit cap : ℕ) (join : ℕ → ℕ → ℕ) (words : List ℕ) (views : List View)
    (seat : ℕ) (v w : View) (at : get_elem? views seat ≡ some v) where
  abbrev value : ℕ → ℕ → ℕ → ℕ → ℕ
  value = value_at plan.levels unit join views

  leaf-same : SameValues v w → (tree node stamp : ℕ)
      → leaf_value plan.levels unit (set views seat w) tree node stamp
      ≡ leaf_value plan.levels unit views tree node stamp
  leaf-same same tree node zero = refl
  leaf-same same tree node (suc k) = total-same
      (λ (u : View). total (post_of (node - 2 ^ plan.levels) tree (suc k))
      (tracks_of u)) views seat v w at (same.posts (node - 2 ^ plan.levels) tree (suc k))

  pub value-same : SameValues v w → value_at plan.levels unit join (set views seat w) ≡ value
  value-same same = λ k tree height node stamp. value_of join (λ n s. leaf-same same tree n s k)
      (λ child s. total-same (λ (u : View). total (seen_in tree child s)
      (tracks_of u)) views seat v w at (same.seen tree child s) k) height node stamp

  pub keeps_values : SameValues v w → IsValued plan unit cap join words views
      → IsViewValued plan cap value w → IsValued plan unit cap join words (set views seat w)
  keeps_values same h mine = let back = sym (value-same same) in record {
    nodes = subst (λ (f : ℕ → ℕ → ℕ → ℕ → ℕ). (tree depth height node : ℕ) → tree < plan.trees
        → depth + height ≡ plan.levels → IsDeep depth node
        → value_in (word_at plan.levels words tree node) ≡ f tree height node
        (stamp_in (word_at plan.levels words tree node))) back h.nodes;
    each = subst (λ (f : ℕ → ℕ → ℕ → ℕ → ℕ). (j : ℕ) (u : View)
        → get_elem? (set views seat w) j ≡ some u → IsViewValued plan cap f u) back
        (each-set (IsViewValued plan cap value) views seat w h.each mine);
  }

module _ (plan : Plan) (unit cap : ℕ) (join : ℕ → ℕ → ℕ) (words : List ℕ) (views : List View)
    (seat levels : ℕ) (track : Track) (x : Ascent) where
  abbrev value' : ℕ → ℕ → ℕ → ℕ → ℕ
  value' = value_at plan.levels unit join views

  abbrev seated : Stage → Type 0
  seated stage = get_elem? views seat ≡ some (Session levels track (Some (staged x stage)))

  abbrev valued : Option Ascent → Type 0
  valued ascent = IsValued plan unit cap join words (set views seat (Session levels track ascent))

  -- an ascent whose words have their values
  ascent_valued : (stage : Stage) (ascent : Option Ascent) → IsValued plan unit cap join words views
      → seated stage → IfSome ascent (λ y. IfSome (try_of y.stage)
      (HasValues plan cap value' y.tree y.height y.node)) → valued ascent
  ascent_valued stage ascent h at loaded = keeps_values plan unit cap join words views seat
      (Session levels track (Some (staged x stage))) (Session levels track ascent) at
      (record { seen = λ tree child stamp. refl; posts = λ number tree index. refl }) h
      (record {
        loaded = loaded;
        calls =
            (h.each seat (Session levels track (Some (staged x stage))) at).calls;
      })

  module _ (s : IsStamped plan words views) (h : IsValued plan unit cap join words views) where
    stands : (stage : Stage) → seated stage
        → IsAscent plan (board_of plan.levels words views) track.number (staged x stage)
    stands stage at = (s.each seat (Session levels track
        (Some (staged x stage))) at).1.present.ascends

    -- the parent's word now, and a child's
    pub parent_word : (stage : Stage) → seated stage → (word : ℕ)
        → word ≡ word_at plan.levels words x.tree (x.node / 2)
        → value_in word ≡ value' x.tree (suc x.height) (x.node / 2) (stamp_in word)
    parent_word stage at word now =
        let is = stands stage at in
        let deep = ascent-deep plan (board_of plan.levels words views) track.number
        (staged x stage) s.planned (s.each seat
        (Session levels track (Some (staged x stage))) at).1.past.number is in
        let depth : ℕ = plan.levels - suc x.height in
        let same : depth + suc x.height ≡ plan.levels = let lt = is.height in omega arith in
        subst (λ (n : ℕ). value_in n ≡ value' x.tree (suc x.height) (x.node / 2) (stamp_in n))
        (sym now) (h.nodes x.tree depth (suc x.height) (x.node / 2) is.tree same deep)

    pub child_word : (stage : Stage) → seated stage → (child word : ℕ) → 2 * (x.node / 2) ≤ child
        → child < 2 * (x.node / 2) + 2 → word ≡ word_at plan.levels words x.tree child
        → value_in word ≡ value' x.tree x.height child (stamp_in word)
    child_word stage at child word low high now =
        let is = stands stage at in
        let deep = ascent-deep plan (board_of plan.levels words views) track.number
        (staged x stage) s.planned (s.each seat
        (Session levels track (Some (staged x stage))) at).1.past.number is in
        let depth : ℕ = plan.levels - suc x.height in
        let same : suc depth + x.height ≡ plan.levels = let lt = is.height in omega arith in
        subst (λ (n : ℕ). value_in n ≡ value' x.tree x.height child (stamp_in n)) (sym now)
        (h.nodes x.tree (suc depth) x.height child is.tree same
        (child-deep depth (x.node / 2) child deep low high))

    pub first_load_valued : (word : ℕ) → seated Fresh
        → word ≡ word_at plan.levels words x.tree (x.node / 2)
        → valued (Some (staged x (First (try_at word))))
    first_load_valued word at now = ascent_valued Fresh (Some (staged x (First (try_at word)))) h at
        (record { parent = parent_word Fresh at word now; left = tt; right = tt })

    pub second_load_valued : (first word : ℕ) → seated (Lost first)
        → word ≡ word_at plan.levels words x.tree (x.node / 2)
        → valued (Some (staged x (Second first (try_at word))))
    second_load_valued first word at now = ascent_valued (Lost first)
        (Some (staged x (Second first (try_at word)))) h at
        (record { parent = parent_word (Lost first) at word now; left = tt; right = tt })

    pub load_left_first_valued : (y : Try) (word : ℕ) → seated (First y)
        → word ≡ word_at plan.levels words x.tree (2 * (x.node / 2))
        → valued (Some (staged x (First (with_left y word))))
    load_left_first_valued y word at now = let was =
        (h.each seat (Session levels track (Some (staged x (First y)))) at).loaded in
        ascent_valued (First y) (Some (staged x (First (with_left y word)))) h at
        (record {
          parent = was.parent;
          left =
              child_word (First y) at (2 * (x.node / 2)) word (omega arith) (omega arith) now;
          right =
              was.right;
        })

    pub load_left_second_valued : (first : ℕ) (y : Try) (word : ℕ) → seated (Second first y)
        → word ≡ word_at plan.levels words x.tree (2 * (x.node / 2))
        → valued (Some (staged x (Second first (with_left y word))))
    load_left_second_valued first y word at now = let was =
        (h.each seat (Session levels track (Some (staged x (Second first y)))) at).loaded in
        ascent_valued (Second first y) (Some (staged x (Second first (with_left y word)))) h at
        (record {
          parent = was.parent;
          left =
              child_word (Second first y) at (2 * (x.node / 2)) word (omega arith) (omega arith) now;
          right = was.right;
        })

    pub load_right_first_valued : (y : Try) (word : ℕ) → seated (First y)
        → word ≡ word_at plan.levels words x.tree (2 * (x.node / 2) + 1)
        → valued (Some (staged x (First (with_right y word))))
    load_right_first_valued y word at now = let was =
        (h.each seat (Session levels track (Some (staged x (First y)))) at).loaded in
        ascent_valued (First y) (Some (staged x (First (with_right y word)))) h at
        (record {
          parent = was.parent;
          left = was.left;
          right =
              child_word (First y) at (2 * (x.node / 2) + 1) word (omega arith) (omega arith) now;
        })

    pub load_right_second_valued : (first : ℕ) (y : Try) (word : ℕ) → seated (Second first y)
        → word ≡ word_at plan.levels words x.tree (2 * (x.node / 2) + 1)
        → valued (Some (staged x (Second first (with_right y word))))
    load_right_second_valued first y word at now = let was =
        (h.each seat (Session levels track (Some (staged x (Second first y)))) at).loaded in
        ascent_valued (Second first y) (Some (staged x (Second first (with_right y word)))) h at
        (record {
          parent = was.parent;
          left = was.left;
          right =
              child_word (Second first y) at (2 * (x.node / 2) + 1) word (omega arith)
              (omega arith) now;
        })

    pub first_lost_valued : (y : Try) → seated (First y)
        → valued (Some (staged x (Lost (stamp_in y.parent))))
    first_lost_valued y at = ascent_valued (First y)
        (Some (staged x (Lost (stamp_in y.parent)))) h at tt

    pub second_lost_valued : (first : ℕ) (y : Try) (stamp : ℕ) → seated (Second first y)
        → valued (risen x stamp)
    second_lost_valued first y stamp at = ascent_valued (Second first y) (risen x stamp) h at
        (none_loaded (x.node / 2 == 1))
      where
        none_loaded : (top : Bool) → IfSome {T = Ascent} (pick top None (Some (moved x stamp)))
            (λ y. IfSome (try_of y.stage) (HasValues plan cap value' y.tree y.height y.node))
        none_loaded true = tt
        none_loaded false = tt

    -- two words of a node with the same stamp are equal
    pub same_word : (stage : Stage) → seated stage → (y : Try) → try_of stage ≡ Some y
        → stamp_in y.parent ≡ stamp_in (word_at plan.levels words x.tree (x.node / 2))
        → y.parent ≡ word_at plan.levels words x.tree (x.node / 2)
    same_word stage at y e same =
        let loaded = subst (λ (o : Option Try). IfSome o
        (HasValues plan cap value' x.tree x.height x.node)) e
        (h.each seat (Session levels track (Some (staged x stage))) at).loaded in
        let now = parent_word stage at (word_at plan.levels words x.tree (x.node / 2)) refl in
        let values : value_in y.parent ≡ value_in (word_at plan.levels words x.tree (x.node / 2)) =
        loaded.parent ∙ (ap (λ (n : ℕ). value' x.tree (suc x.height) (x.node / 2) n) same
        ∙ sym now) in
        omega arith
