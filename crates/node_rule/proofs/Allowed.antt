-- Each kind of step is allowed.
use Rattle.std.proofs.Common.{◌≡◌, ◌≢◌, ℕ, suc, ◌+◌, ◌*◌, ◌/◌, ◌^◌, ◌<◌, ◌≤◌, Bool, eqb, List, set, Some, refl, sym, ap, subst, arith}
use Rattle.stamp_word.specs.declared.limits.TheConstants.{LEVELS}
use Rattle.fold_law.specs.declared.limits.TheConstants.{SESSIONS, QUOTA}
use mathlib.Core.Option.{some, none}
use lib.ListN.{get_elem?}
use prog.Atomic.{either}
use Rattle.std.specs.Prelude.{slice_index, slice_set}
use Rattle.std.proofs.lemmas.List.{set-get_or}
use Rattle.atomic_table.specs.Table.{State, Me, Step, step, Act, keeps, stepped, Allows, Splits, Joins}
use Rattle.atomic_table.proofs.Lists.{exchanged}
use Rattle.stamp_word.specs.Word.{stamp_in, value_in}
use Rattle.stamp_word.specs.Places.{place_of}
use Rattle.fold_law.specs.Laws.{FoldLaws}
use Rattle.node_rule.specs.declared.view.View.{View}
use Rattle.node_rule.specs.declared.view.View.TheVariants.{Session}
use Rattle.node_rule.specs.declared.view.Stage.{Stage}
use Rattle.node_rule.specs.declared.view.Stage.TheVariants.{Fresh, First, Lost, Second}
use Rattle.node_rule.specs.declared.view.Track.{Track}
use Rattle.node_rule.specs.declared.view.Try.{Try}
use Rattle.node_rule.specs.declared.view.Ascent.{Ascent}
use Rattle.node_rule.specs.declared.view.Plan.{Plan}
use Rattle.node_rule.specs.Views.{staged}
use Rattle.node_rule.specs.Sums.{over, seen_in}
use Rattle.node_rule.specs.Fronts.{board_of, word_at, value_at, leaf_value}
use Rattle.node_rule.specs.ValuePart.{IsKept}
use Rattle.node_rule.specs.Steps.{Mine, after_stage, parent_stage, left_stage, right_stage, after_win, after_loss, height_of, LoadsParent, LoadsLeft, LoadsRight, Exchanges}
use Rattle.node_rule.proofs.Later.{IsInner, ascent_inner}
use Rattle.node_rule.proofs.Bounds.{stamp_most, leaf_under}
use Rattle.node_rule.proofs.Values.{value_under}
use Rattle.node_rule.proofs.Loads.{first_load, second_load, first_lost}
use Rattle.node_rule.proofs.Children.{trying_first, trying_second, load_left, load_right}
use Rattle.node_rule.proofs.Arrival.{second_lost}
use Rattle.node_rule.proofs.Won.{won}
use Rattle.node_rule.proofs.WonValues.{won_valued}
use Rattle.node_rule.proofs.QuietValues.{child_word, first_load_valued, second_load_valued, load_left_first_valued, load_left_second_valued, load_right_first_valued, load_right_second_valued, first_lost_valued, second_lost_valued, same_word}

module _ (plan : Plan) (unit cap : ℕ) (join : ℕ → ℕ → ℕ) (le : ℕ → ℕ → Bool)
    (under : ℕ → ℕ → Type 0) (laws : FoldLaws unit cap join le under) (slots id : ℕ) (me : Mine) where
  abbrev pub holds : State (Unit {0}) View → Type 0
  holds s = IsKept plan unit cap join s.words s.views

  pub loads : (v : View) (place : ℕ) (next : ℕ → View → View) (told : ℕ → Type 0) → me.0 ≡ v
      → ((words : List ℕ) (views : List View) → IsKept plan unit cap join words views
      → get_elem? views id ≡ some v → IsKept plan unit cap join words
      (set views id (next (slice_index words place) v)) × told (slice_index words place))
      → Allows holds slots id me place (λ n. n) (λ found after. (after ≡ (next found me.0, me.1))
      × told found)
  loads v place next told e owed s h _ at _ =
      let word : ℕ = slice_index s.words place in
      let due = owed s.words s.views h (subst (λ (u : View). get_elem? s.views id ≡ some u) e at) in (
        next word me.0,
        keeps,
        tt,
        subst (λ (ws : List ℕ). IsKept plan unit cap join ws (set s.views id (next word me.0)))
            (sym (set-get_or s.words place 0))
            (subst (λ (u : View). IsKept plan unit cap join s.words (set s.views id (next word u)))
            (sym e) due.0),
        (refl, due.1),
      )

  module _ (levels : ℕ) (track : Track) (x : Ascent) where
    abbrev view : Stage → View
    view stage = Session levels track (Some (staged x stage))

    stands : (words : List ℕ) (views : List View) (stage : Stage)
        → IsKept plan unit cap join words views → get_elem? views id ≡ some (view stage)
        → IsInner plan (staged x stage)
    stands words views stage h at = let is = (h.stamps.each id (view stage) at).1 in
        ascent_inner plan (board_of plan.levels words views) track.number
        (staged x stage) h.stamps.planned is.past.number is.present.ascends

    room_above : (words : List ℕ) (views : List View) (stage : Stage)
        → IsKept plan unit cap join words views → get_elem? views id ≡ some (view stage)
        → stamp_in (word_at plan.levels words x.tree (x.node / 2)) ≤ QUOTA * SESSIONS
    room_above words views stage h at = let inner = stands words views stage h at in
        let low = inner.low in let high = inner.high in
        stamp_most plan words views h.stamps x.tree (x.node / 2) inner.tree (omega arith)
        (omega arith)

    pub allows_first_load : me.0 ≡ view Fresh
        → Allows holds slots id me (place_of plan.levels x.tree (x.node / 2)) (λ n. n)
        (LoadsParent (step slots (place_of plan.levels x.tree (x.node / 2)) 0 0 none) me)
    allows_first_load e = loads (view Fresh) (place_of plan.levels x.tree (x.node / 2))
        (λ found. after_stage (λ stage. parent_stage stage found))
        (λ found. stamp_in found ≤ QUOTA * SESSIONS) e
        (λ words views h at. let word : ℕ = word_at plan.levels words x.tree (x.node / 2) in (
          record {
            stamps = first_load plan words views id levels track x word h.stamps at refl;
            values = first_load_valued plan unit cap join words views id levels track x h.stamps
                h.values word at refl;
          },
          room_above words views Fresh h at,
        ))

    pub allows_second_load : (first : ℕ) → me.0 ≡ view (Lost first)
        → Allows holds slots id me (place_of plan.levels x.tree (x.node / 2)) (λ n. n)
        (LoadsParent (step slots (place_of plan.levels x.tree (x.node / 2)) 0 0 none) me)
    allows_second_load first e = loads (view (Lost first))
        (place_of plan.levels x.tree (x.node / 2))
        (λ found. after_stage (λ stage. parent_stage stage found))
        (λ found. stamp_in found ≤ QUOTA * SESSIONS) e
        (λ words views h at. let word : ℕ = word_at plan.levels words x.tree (x.node / 2) in (
          record {
            stamps =
                second_load plan words views id levels track x first word h.stamps at refl;
            values =
                second_load_valued plan unit cap join words views id levels track x h.stamps h.values
                first word at refl;
          },
          room_above words views (Lost first) h at,
        ))

    -- the value of a child can be the join of as many leaves as there are below it
    child_under : (words : List ℕ) (views : List View) (stage : Stage)
        → IsKept plan unit cap join words views → get_elem? views id ≡ some (view stage)
        → me.0 ≡ view stage → (child : ℕ) → 2 * (x.node / 2) ≤ child → child < 2 * (x.node / 2) + 2
        → under (2 ^ height_of me.0) (value_in (word_at plan.levels words x.tree child))
    child_under words views stage h at e child low high =
        let word : ℕ = word_at plan.levels words x.tree child in
        let is = (h.stamps.each id (view stage) at).1.present.ascends in
        let few : x.height ≤ LEVELS = let lt = is.height in let p = h.stamps.planned.shape.0 in
        omega arith in
        let valued : value_in word ≡ value_at plan.levels unit join views x.tree x.height child
        (stamp_in word) =
        child_word plan unit cap join words views id levels track x h.stamps h.values stage at
        child word low high refl in
        subst (λ (u : View). under (2 ^ height_of u) (value_in word)) (sym e)
        (subst (under (2 ^ x.height)) (sym valued)
        (value_under unit cap join le under laws (leaf_value plan.levels unit views x.tree)
        (λ c s. over (seen_in x.tree c s) views)
        (leaf_under plan unit cap join le under laws words views h.stamps h.values x.tree)
        x.height child (stamp_in word) few))

    abbrev LeftOwes : Type 0
    LeftOwes = Allows holds slots id me (place_of plan.levels x.tree (2 * (x.node / 2))) (λ n. n)
        (LoadsLeft under (step slots (place_of plan.levels x.tree (2 * (x.node / 2))) 0 0 none) me)

    abbrev RightOwes : Type 0
    RightOwes = Allows holds slots id me (place_of plan.levels x.tree (2 * (x.node / 2) + 1))
        (λ n. n) (LoadsRight under
        (step slots (place_of plan.levels x.tree (2 * (x.node / 2) + 1)) 0 0 none) me)

    pub allows_left_first : (y : Try) → me.0 ≡ view (First y) → LeftOwes
    allows_left_first y e = loads (view (First y)) (place_of plan.levels x.tree (2 * (x.node / 2)))
        (λ found. after_stage (λ stage. left_stage stage found))
        (λ found. under (2 ^ height_of me.0) (value_in found)) e
        (λ words views h at. let word : ℕ = word_at plan.levels words x.tree (2 * (x.node / 2)) in (
          record {
            stamps = load_left plan words views id levels track x First y word
                (trying_first plan (board_of plan.levels words views)) h.stamps at refl;
            values =
                load_left_first_valued plan unit cap join words views id levels track x h.stamps
                h.values y word at refl;
          },
          child_under words views (First y) h at e (2 * (x.node / 2)) (omega arith) (omega arith),
        ))

    pub allows_left_second : (first : ℕ) (y : Try) → me.0 ≡ view (Second first y) → LeftOwes
    allows_left_second first y e = loads (view (Second first y))
        (place_of plan.levels x.tree (2 * (x.node / 2)))
        (λ found. after_stage (λ stage. left_stage stage found))
        (λ found. under (2 ^ height_of me.0) (value_in found)) e
        (λ words views h at. let word : ℕ = word_at plan.levels words x.tree (2 * (x.node / 2)) in (
          record {
            stamps = load_left plan words views id levels track x (Second first) y word
                (trying_second plan (board_of plan.levels words views) first) h.stamps at refl;
            values = load_left_second_valued plan unit cap join words views id levels track x
                h.stamps h.values first y word at refl;
          },
          child_under words views (Second first y) h at e (2 * (x.node / 2)) (omega arith)
              (omega arith),
        ))

    pub allows_right_first : (y : Try) → me.0 ≡ view (First y) → RightOwes
    allows_right_first y e = loads (view (First y))
        (place_of plan.levels x.tree (2 * (x.node / 2) + 1))
        (λ found. after_stage (λ stage. right_stage stage found))
        (λ found. under (2 ^ height_of me.0) (value_in found)) e
        (λ words views h at. let word : ℕ = word_at plan.levels words x.tree
        (2 * (x.node / 2) + 1) in (
          record {
            stamps = load_right plan words views id levels track x First y word
                (trying_first plan (board_of plan.levels words views)) h.stamps at refl;
            values =
                load_right_first_valued plan unit cap join words views id levels track x h.stamps
                h.values y word at refl;
          },
          child_under words views (First y) h at e (2 * (x.node / 2) + 1) (omega arith)
              (omega arith),
        ))

    pub allows_right_second : (first : ℕ) (y : Try) → me.0 ≡ view (Second first y) → RightOwes
    allows_right_second first y e = loads (view (Second first y))
        (place_of plan.levels x.tree (2 * (x.node / 2) + 1))
        (λ found. after_stage (λ stage. right_stage stage found))
        (λ found. under (2 ^ height_of me.0) (value_in found)) e
        (λ words views h at. let word : ℕ = word_at plan.levels words x.tree
        (2 * (x.node / 2) + 1) in (
          record {
            stamps = load_right plan words views id levels track x (Second first) y word
                (trying_second plan (board_of plan.levels words views) first) h.stamps at refl;
            values = load_right_second_valued plan unit cap join words views id levels track x
                h.stamps h.values first y word at refl;
          },
          child_under words views (Second first y) h at e (2 * (x.node / 2) + 1) (omega arith)
              (omega arith),
        ))

    -- an exchange at the parent: what it owes where it wins, and where it loses
    module _ (stage : Stage) (old new : ℕ) (e : me.0 ≡ view stage) where
      abbrev place : ℕ
      place = place_of plan.levels x.tree (x.node / 2)

      exchanges : ((words : List ℕ) (views : List View) → IsKept plan unit cap join words views
          → get_elem? views id ≡ some (view stage) → slice_index words place ≡ old
          → IsKept plan unit cap join (slice_set words place new)
          (set views id (after_win (view stage))))
          → ((words : List ℕ) (views : List View) → IsKept plan unit cap join words views
          → get_elem? views id ≡ some (view stage) → slice_index words place ≢ old
          → IsKept plan unit cap join words
          (set views id (after_loss (slice_index words place) (view stage))))
          → Allows holds slots id me place (λ n. either (eqb n old) new n)
          (Exchanges (step slots place old new none) me)
      exchanges hit miss s h _ at _ =
          let word : ℕ = slice_index s.words place in
          let at' = subst (λ (u : View). get_elem? s.views id ≡ some u) e at in
          exchanged word old new (λ n. (w : View) × (a : Act (Unit {0}))
          × Rattle.atomic_table.specs.Table.Valid s.homes me.1 a
          × holds (stepped s place n id me.1 w a)
          × Exchanges (step slots place old new none) me word
          (w, Rattle.atomic_table.specs.Table.carried_after me.1 a))
          (λ same. (
            after_win me.0,
            keeps,
            tt,
            subst (λ (u : View). IsKept plan unit cap join (slice_set s.words place new)
                (set s.views id (after_win u))) (sym e) (hit s.words s.views h at' same),
            ((λ _. refl), (λ apart. absurd (apart same))),
          ))
          (λ apart. (
            after_loss word me.0,
            keeps,
            tt,
            subst (λ (ws : List ℕ). IsKept plan unit cap join ws
                (set s.views id (after_loss word me.0))) (sym (set-get_or s.words place 0))
                (subst (λ (u : View). IsKept plan unit cap join s.words
                (set s.views id (after_loss word u))) (sym e)
                (miss s.words s.views h at' apart)),
            ((λ same. absurd (apart same)), (λ _. refl)),
          ))

    abbrev full_try : ℕ → ℕ → ℕ → Try
    full_try parent left right = record { parent = parent; left = Some left; right = Some right }

    abbrev ExchangeOwes : ℕ → ℕ → Type 0
    ExchangeOwes old new = Allows holds slots id me (place_of plan.levels x.tree (x.node / 2))
        (λ n. either (eqb n old) new n)
        (Exchanges (step slots (place_of plan.levels x.tree (x.node / 2)) old new none) me)

    pub allows_exchange_first : (parent left right new : ℕ)
        → me.0 ≡ view (First (full_try parent left right)) → stamp_in new ≡ suc (stamp_in parent)
        → value_in new ≡ join (value_in left) (value_in right) → ExchangeOwes parent new
    allows_exchange_first parent left right new e stamp_is value_is = let y =
        full_try parent left right in exchanges (First y) parent new e
        (λ words views h at same. record {
          stamps = won plan words views id levels track x First parent left right new
              (trying_first plan (board_of plan.levels words views)) h.stamps at
              (ap stamp_in same) stamp_is;
          values = won_valued plan unit cap join words views id levels track x First parent left
              right new (trying_first plan (board_of plan.levels words views)) h.stamps at
              (ap stamp_in same) stamp_is h.values value_is;
        })
        (λ words views h at apart. record {
          stamps = first_lost plan words views id levels track x y h.stamps at
              (λ same. apart
              (sym (same_word plan unit cap join words views id levels track x h.stamps h.values
              (First y) at y refl same)));
          values = first_lost_valued plan unit cap join words views id levels track x h.stamps
              h.values y at;
        })

    pub allows_exchange_second : (first parent left right new : ℕ)
        → me.0 ≡ view (Second first (full_try parent left right))
        → stamp_in new ≡ suc (stamp_in parent)
        → value_in new ≡ join (value_in left) (value_in right) → ExchangeOwes parent new
    allows_exchange_second first parent left right new e stamp_is value_is = let y =
        full_try parent left right in exchanges (Second first y) parent new e
        (λ words views h at same. record {
          stamps = won plan words views id levels track x (Second first) parent left right new
              (trying_second plan (board_of plan.levels words views) first) h.stamps at
              (ap stamp_in same) stamp_is;
          values = won_valued plan unit cap join words views id levels track x
              (Second first) parent left right new
              (trying_second plan (board_of plan.levels words views) first) h.stamps at
              (ap stamp_in same) stamp_is h.values value_is;
        })
        (λ words views h at apart. record {
          stamps = second_lost plan words views id levels track x first y
              (stamp_in (word_at plan.levels words x.tree (x.node / 2))) h.stamps at refl
              (λ same. apart
              (sym (same_word plan unit cap join words views id levels track x h.stamps h.values
              (Second first y) at y refl same)));
          values = second_lost_valued plan unit cap join words views id levels track x h.stamps
              h.values first y (stamp_in (word_at plan.levels words x.tree (x.node / 2))) at;
        })
