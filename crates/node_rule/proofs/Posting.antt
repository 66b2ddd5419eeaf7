-- What a post knows of its leaf, what its store owes, and what it leaves.
use Rattle.std.proofs.Common.{◌≡◌, ◌≢◌, ℕ, zero, suc, ◌+◌, ◌-◌, ◌*◌, ◌^◌, ◌<◌, ◌≤◌, Bool, true, false, List, [], ◌∷◌, ◌++◌, length, get_or, Option, Some, None, refl, sym, ap, ◌∙◌, subst, arith, length-set, length-append}
use mathlib.Core.Option.{none}
use mathlib.Core.Logic.{dite}
use native.Mathlib.Decide.{ℕ_discrete}
use Rattle.std.specs.Prelude.{IfSome, slice_index, slice_set, ◌==◌}
use Rattle.std.proofs.lemmas.Bool.{eqb-false}
use Rattle.std.proofs.lemmas.List.{get_or-set_same, get_or-set_other}
use Rattle.atomic_table.specs.Table.{State, step, Allows}
use Rattle.stamp_word.specs.Word.{stamp_in, value_in}
use Rattle.stamp_word.specs.Places.{place_of, leaf_of}
use Rattle.fold_law.specs.Laws.{FoldLaws}
use Rattle.node_rule.specs.declared.view.View.{View}
use Rattle.node_rule.specs.declared.view.View.TheVariants.{Session}
use Rattle.node_rule.specs.declared.view.Stage.TheVariants.{Fresh}
use Rattle.risk_board.specs.declared.hand.Call.{Call}
use Rattle.risk_board.specs.declared.hand.Call.TheVariants.{Post}
use Rattle.node_rule.specs.declared.view.Install.{Install}
use Rattle.node_rule.specs.declared.view.Track.{Track}
use Rattle.node_rule.specs.declared.view.Ascent.{Ascent}
use Rattle.node_rule.specs.declared.view.Plan.{Plan}
use Rattle.node_rule.specs.Views.{pick, called, started}
use Rattle.node_rule.specs.Sums.{posted, posts_in}
use Rattle.node_rule.specs.ValuePart.{IsKept}
use Rattle.node_rule.specs.Steps.{Mine, tree_of, after_store, Stores}
use Rattle.node_rule.specs.Standing.{IsOnWay, IsSound, HasRoom, AreCounted, levels_left}
use Rattle.node_rule.proofs.Children.{in_levels}
use Rattle.node_rule.proofs.CallLists.{posted-post, posted-else}
use Rattle.node_rule.proofs.AllowedCalls.{tree_of-place, allows_store}
use Rattle.node_rule.proofs.Places.{place-in}
use Rattle.node_rule.proofs.Idle.{idle_seat, called_sound}

-- the start of an ascent is on its way
pub started_on_way : (under : ℕ → ℕ → Type 0) (plan : Plan) (number tree stamp : ℕ)
    → number < plan.sessions → tree < plan.trees
    → IfSome (started plan.levels tree (leaf_of plan.levels number) stamp)
    (IsOnWay under plan number)
started_on_way under plan number tree stamp number_in tree_in = at_leaf (plan.levels == 0) refl
  where
    at_leaf : (none : Bool) → (plan.levels == 0) ≡ none
        → IfSome {T = Ascent} (pick none None
        (Some (record {
          tree = tree;
          node = leaf_of plan.levels number;
          height = 0;
          held = stamp;
          stage = Fresh;
        }))) (IsOnWay under plan number)
    at_leaf true e = tt
    at_leaf false e = record {
      number_in = number_in;
      tree = tree_in;
      height =
          let some_level : plan.levels ≢ 0 = eqb-false plan.levels 0 e in
          omega arith;
      node = refl;
      bounded = tt;
    }

pub started_levels : (levels tree leaf stamp : ℕ)
    → levels_left levels (started levels tree leaf stamp) ≤ levels
started_levels levels tree leaf stamp = at_leaf (levels == 0)
  where
    at_leaf : (none : Bool) → levels_left levels
        (pick none None (Some (record {
          tree = tree;
          node = leaf;
          height = 0;
          held = stamp;
          stage =
              Fresh;
        }))) ≤ levels
    at_leaf true = omega arith
    at_leaf false = omega arith

pub index_any : (xs : List ℕ) (i d : ℕ) → i < length xs → get_or xs i d ≡ slice_index xs i
index_any [] i d h = absurd (omega arith)
index_any (x ∷ xs) zero d h = refl
index_any (x ∷ xs) (suc i) d h = index_any xs i d (omega arith)

-- what a post of a session of this number knows: its session's leaf with the leaf's place, and how
-- many posts came before. The climb's own plan, its plan as it is seen, with the levels of the
-- view, and that of the words are one
pub record IsPosting (own plan : Plan) (levels number tree posts leaf place : ℕ) (counts : List ℕ)
    (track : Track) : Type 0 where
  pub levels_is : levels ≡ plan.levels
  pub own_levels : plan.levels ≡ own.levels
  pub tree_in : tree < plan.trees
  pub tree_own : tree < own.trees
  pub number_in : number < own.sessions
  pub inside : track.number < 2 ^ plan.levels
  pub posts_is : posts ≡ slice_index counts tree
  pub one_more : posts + 1 ≡ suc (posts_in tree track)
  pub room : posts_in tree track < plan.quota
  pub leaf_is : leaf ≡ leaf_of levels track.number
  pub leaf_own : leaf ≡ leaf_of own.levels number
  pub place_is : place ≡ place_of plan.levels tree (leaf_of plan.levels track.number)
  pub place_in : place < plan.trees * (2 * 2 ^ plan.levels)

pub posting : {under : ℕ → ℕ → Type 0} {own now plan : Plan} {number : ℕ}
    {calls : List Call} {trail : List Install} {ascent : Option Ascent} {view : View}
    {counts : List ℕ} {tree : ℕ} {track : Track}
    → IsSound under own number calls trail ascent view → AreCounted own calls counts
    → own ≡ now → now ≡ plan → tree < now.trees → view ≡ Session now.levels track None
    → posts_in tree track < now.quota → (posts : ℕ) → posts ≡ get_or counts tree posts
    → (shape leaf place : ℕ) → shape ≡ plan.levels → leaf ≡ leaf_of shape number
    → place ≡ place_of shape tree leaf
    → IsPosting own plan now.levels number tree posts leaf place counts track
posting {own = own} {now = now} {plan = plan} {number = number} {calls = calls} {counts = counts}
    {tree = tree} {track = track} sound counted own_is plan_is tree_now seen room posts read shape
    leaf
    place shape_is leaf_is place_is =
    let seat = idle_seat sound now.levels track seen in
    let levels : now.levels ≡ plan.levels = ap (λ (p : Plan). p.levels) plan_is in
    let own_levels : plan.levels ≡ own.levels =
    sym (ap (λ (p : Plan). p.levels) (own_is ∙ plan_is)) in
    let tree_in : tree < plan.trees = subst (λ (p : Plan). tree < p.trees) plan_is tree_now in
    let tree_own : tree < own.trees = subst (λ (p : Plan). tree < p.trees) (sym own_is) tree_now in
    let number_is : track.number ≡ number = ap (λ (t : Track). t.number) seat.track_is in
    let number_in : number < own.sessions = sound.number_in in
    let inside : track.number < 2 ^ plan.levels =
    subst (λ (z : ℕ × ℕ). z.0 < 2 ^ z.1) (λ i. (sym number_is i, sym own_levels i))
    (in_levels number_in sound.planned.sessions) in
    let wide = counted.0 in
    let count = counted.1 tree tree_own in
    let posts_is : posts ≡ slice_index counts tree =
    read ∙ index_any counts tree posts (let short : tree < length counts = omega arith in short) in
    let listed : length (posted tree calls) ≡ posts_in tree track =
    ap (λ (t : Track). posts_in tree t) (sym seat.track_is) in
    let at : place ≡ place_of plan.levels tree (leaf_of plan.levels track.number) = place_is
    ∙ (λ i. place_of (shape_is i) tree ((leaf_is
    ∙ (λ j. leaf_of (shape_is j) (sym number_is j))) i)) in
    record {
      levels_is = levels;
      own_levels = own_levels;
      tree_in = tree_in;
      tree_own = tree_own;
      number_in = number_in;
      inside = inside;
      posts_is = posts_is;
      one_more = omega arith;
      room = subst (λ (p : Plan). posts_in tree track < p.quota) plan_is room;
      leaf_is = leaf_is ∙ (λ i. leaf_of ((shape_is ∙ sym levels) i) (sym number_is i));
      leaf_own = leaf_is ∙ ap (λ (n : ℕ). leaf_of n number) (shape_is ∙ own_levels);
      place_is = at;
      place_in = subst (λ (n : ℕ). n < plan.trees * (2 * 2 ^ plan.levels)) (sym at)
          (place-in plan.levels plan.trees tree (leaf_of plan.levels track.number) tree_in
          (omega arith));
    }

-- what the store owes
module _ {unit cap : ℕ} {join : ℕ → ℕ → ℕ} {le : ℕ → ℕ → Bool} {under : ℕ → ℕ → Type 0}
    (laws : FoldLaws unit cap join le under) (slots id : ℕ) (me : Mine) {key plan : Plan}
    (key_is : key ≡ plan) where
  abbrev kept_by : Plan → State (Unit {0}) View → Type 0
  kept_by p s = IsKept p unit cap join s.words s.views

  pub store_allowed : (levels : ℕ) (track : Track) (tree value word place : ℕ)
      → me.0 ≡ Session levels track None → tree < plan.trees → posts_in tree track < plan.quota
      → value ≤ cap → stamp_in word ≡ suc (posts_in tree track) → value_in word ≡ value
      → place ≡ place_of plan.levels tree (leaf_of plan.levels track.number)
      → Allows (kept_by key) slots id me place (λ _. word)
      (λ _. Stores (step slots place word 0 none) me word)
  store_allowed levels track tree value word place e tree_in room small stamp_is value_is place_is =
      subst (λ (p : Plan × ℕ). Allows (kept_by p.0) slots id me p.1 (λ _. word)
      (λ _. Stores (step slots p.1 word 0 none) me word)) (λ i. (sym key_is i, sym place_is i))
      (allows_store plan unit cap join le under laws slots id me levels track tree value word e
      tree_in room small stamp_is value_is)

-- what the post leaves
pub store_view : (plan : Plan) (levels : ℕ) (track : Track) (tree place word value stamp : ℕ)
    → levels ≡ plan.levels → track.number < 2 ^ plan.levels
    → place ≡ place_of plan.levels tree (leaf_of plan.levels track.number) → stamp_in word ≡ stamp
    → value_in word ≡ value
    → after_store place word (Session levels track None) ≡ Session levels
    (called track (Post tree value)) (started levels tree (leaf_of levels track.number) stamp)
store_view plan levels track tree place word value stamp e inside place_is stamp_is value_is =
    let same : tree_of levels place ≡ tree = (λ i. tree_of (e i) (place_is i))
    ∙ tree_of-place plan.levels tree (leaf_of plan.levels track.number) (omega arith) in
    λ i. Session levels (called track (Post (same i) (value_is i)))
    (started levels (same i) (leaf_of levels track.number) (stamp_is i))

-- the view after the store that was told of
pub store_told : (plan : Plan) (levels : ℕ) (track : Track) (tree place word value stamp : ℕ)
    (me after : Mine) → me.0 ≡ Session levels track None → levels ≡ plan.levels
    → track.number < 2 ^ plan.levels → place ≡ place_of plan.levels tree
    (leaf_of plan.levels track.number) → stamp_in word ≡ stamp → value_in word ≡ value
    → after ≡ (after_store place word me.0, me.1)
    → after.0 ≡ Session levels (called track (Post tree value))
    (started levels tree (leaf_of levels track.number) stamp)
store_told plan levels track tree place word value stamp me after seen e inside place_is stamp_is
    value_is told =
    ap (λ (m : Mine). m.0) told ∙ (ap (after_store place word) seen
    ∙ store_view plan levels track tree place word value stamp e inside place_is stamp_is
    value_is)

pub store_counted : (plan : Plan) (calls made : List Call) (counts next : List ℕ)
    (tree value posts : ℕ) → tree < plan.trees → made ≡ calls ++ Post tree value ∷ []
    → posts ≡ slice_index counts tree → next ≡ slice_set counts tree (posts + 1)
    → AreCounted plan calls counts → AreCounted plan made next
store_counted plan calls made counts next tree value posts tree_in e p n h = (
  ap length n ∙ (length-set counts tree (posts + 1) ∙ h.0),
  λ t t_in. ap (λ (l : List ℕ). slice_index l t) n ∙ dite (ℕ_discrete t tree)
      (λ same. subst (λ (u : ℕ). slice_index (slice_set counts tree (posts + 1)) u ≡ length
      (posted u made)) (sym same)
      (get_or-set_same counts tree (posts + 1) 0 (let wide = h.0 in omega arith) ∙
      (let old = h.1 tree tree_in in let new = ap length
      (ap (posted tree) e ∙ posted-post tree calls value) in
      let more = length-append (posted tree calls) (value ∷ []) in
      let one : length (value ∷ []) ≡ 1 = refl in
      let done : posts + 1 ≡ length (posted tree made) = omega arith in done)))
      (λ other. get_or-set_other counts tree t (posts + 1) 0 other
      ∙ (h.1 t t_in ∙ ap length (sym (ap (posted t) e
      ∙ posted-else t calls tree value (λ q. other (sym q)))))),
)

pub store_room : (levels spare made made' call_room call_room' won install_room : ℕ)
    (ascent leaf : Option Ascent) → ascent ≡ None → levels_left levels leaf ≤ levels → 1 ≤ spare
    → made' ≡ made + 1 → call_room' ≡ call_room
    → HasRoom levels spare made call_room won install_room ascent
    → HasRoom levels (spare - 1) made' call_room' won install_room leaf
store_room levels spare made made' call_room call_room' won install_room ascent leaf idle few
    some_spare one same h =
    let was : levels_left levels ascent ≡ 0 = ap (levels_left levels) idle in
    let calls = h.calls in let installs = h.installs in
    let back : suc (spare - 1) ≡ spare = omega arith in
    let more : levels * (spare - 1) + levels ≡ levels * spare = mul_suc levels (spare - 1)
    ∙ ap (λ (n : ℕ). levels * n) back in
    record { calls = omega arith; installs = omega arith }
  where
    mul_suc : (a b : ℕ) → a * b + a ≡ a * suc b
    mul_suc a b = omega arith

module _ {under : ℕ → ℕ → Type 0} {own plan : Plan} {number : ℕ} {calls : List Call}
    {trail : List Install} {ascent : Option Ascent} {view : View} {counts : List ℕ}
    {levels tree posts leaf place : ℕ} {track : Track}
    (sound : IsSound under own number calls trail ascent view)
    (post : IsPosting own plan levels number tree posts leaf place counts track)
    (seen : view ≡ Session levels track None) (next : Option Ascent)
    (next_is : next ≡ started plan.levels tree leaf (posts + 1)) where
  begun_own : next ≡ started own.levels tree (leaf_of own.levels number) (posts + 1)
  begun_own = next_is ∙ (λ i. started (post.own_levels i) tree (post.leaf_own i) (posts + 1))

  -- the view is that after the post
  pub posted_sound : (value : ℕ) (more : List Call) → more ≡ calls ++ Post tree value ∷ []
      → (after : View) → after ≡ Session levels (called track (Post tree value))
      (started levels tree (leaf_of levels track.number) (suc (posts_in tree track)))
      → IsSound under own number more trail next after
  posted_sound value more more_is after after_is =
      let begun : next ≡ started levels tree (leaf_of levels track.number)
      (suc (posts_in tree track)) = next_is
      ∙ (λ i. started (sym post.levels_is i) tree (post.leaf_is i) (post.one_more i)) in
      called_sound sound levels track seen (Post tree value) more more_is next
      (subst (λ (o : Option Ascent). IfSome o (IsOnWay under own number)) (sym begun_own)
      (started_on_way under own number tree (posts + 1) post.number_in post.tree_own)) after
      (after_is ∙ ap (λ (o : Option Ascent). Session levels (called track (Post tree value)) o)
      (sym begun))

  -- a call that was spare had its room
  pub posted_room : (spare made made' call_room call_room' won install_room : ℕ) → 1 ≤ spare
      → made' ≡ made + 1 → call_room' ≡ call_room
      → HasRoom own.levels spare made call_room won install_room ascent
      → HasRoom own.levels (spare - 1) made' call_room' won install_room next
  posted_room spare made made' call_room call_room' won install_room =
      store_room own.levels spare made made' call_room call_room' won install_room ascent next
      (idle_seat sound levels track seen).no_ascent
      (subst (λ (o : Option Ascent). levels_left own.levels o ≤ own.levels) (sym begun_own)
      (started_levels own.levels tree (leaf_of own.levels number) (posts + 1)))
