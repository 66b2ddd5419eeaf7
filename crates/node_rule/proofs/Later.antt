-- What holds of a session that does not step stays true as stamps rise and installs are added.
use Rattle.std.proofs.Common.{◌≡◌, ℕ, ◌+◌, ◌*◌, ◌/◌, ◌^◌, ◌<◌, ◌≤◌, List, [], ◌∷◌, Option, Some, None, sym, ◌∙◌, subst, ⊎_elim, arith}
use Rattle.std.specs.Prelude.{IfSome}
use Rattle.std.proofs.lemmas.Bool.{cases_lt}
use Rattle.stamp_word.specs.Word.{stamp_in}
use Rattle.stamp_word.specs.Places.{leaf_of}
use Rattle.node_rule.specs.declared.view.View.{View}
use Rattle.node_rule.specs.declared.view.View.TheVariants.{Keeper, Session, Spent}
use Rattle.node_rule.specs.declared.view.Stage.{Stage}
use Rattle.node_rule.specs.declared.view.Stage.TheVariants.{Fresh, First, Lost, Second}
use Rattle.risk_board.specs.declared.hand.Call.{Call}
use Rattle.risk_board.specs.declared.hand.Call.TheVariants.{Post, Read}
use Rattle.node_rule.specs.declared.view.Track.{Track}
use Rattle.node_rule.specs.declared.view.Try.{Try}
use Rattle.node_rule.specs.declared.view.Ascent.{Ascent}
use Rattle.node_rule.specs.declared.view.Plan.{Plan}
use Rattle.node_rule.specs.Views.{tracks_of, ascent_of, first_of}
use Rattle.node_rule.specs.Sums.{Each}
use Rattle.node_rule.specs.Fronts.{Board, cover}
use Rattle.node_rule.specs.StampPart.{IsPlan, IsGrown, IsLoaded, IsTry, IsStage, AreRefreshed, IsAscent, IsCall, IsTrack, IsView}
use Rattle.node_rule.proofs.Tree.{IsLater, ancestor-within, ancestor-child, ancestor-root, cover_rises, cover_below, cover_stays}
use Rattle.node_rule.proofs.Loads.{if_some}
use Rattle.node_rule.proofs.Children.{in_levels, below_levels}

-- where an ascent stands
pub record IsInner (plan : Plan) (x : Ascent) : Type 0 where
  pub tree : x.tree < plan.trees
  pub low : 2 ≤ x.node
  pub high : x.node < 2 * 2 ^ plan.levels

pub ascent_inner : (plan : Plan) (b : Board) (number : ℕ) (x : Ascent) → IsPlan plan
    → number < plan.sessions → IsAscent plan b number x → IsInner plan x
ascent_inner plan b number x planned number_in h = let session_in : number < 2 ^ plan.levels =
    in_levels number_in planned.sessions in record {
      tree = h.tree;
      low = subst (λ (n : ℕ). 2 ≤ n) (sym h.node)
          (ancestor-child plan.levels x.height number session_in h.height);
      high = subst (λ (n : ℕ). n < 2 * 2 ^ plan.levels) (sym h.node)
          (ancestor-within plan.levels x.height number session_in (below_levels h.height)).high;
    }

module _ (plan : Plan) (b c : Board) (planned : IsPlan plan) (grown : IsGrown plan b)
    (later : IsLater plan b c) where
  loaded_later : (x : Ascent) → IsInner plan x → (parent child word : ℕ) → child / 2 ≡ x.node / 2
      → child < 2 * (x.node / 2) + 2 → stamp_in parent ≤ b.stamp x.tree (x.node / 2)
      → IsLoaded plan b x.tree x.node x.held parent child word
      → IsLoaded plan c x.tree x.node x.held parent child word
  loaded_later x inner parent child word halves below reached h =
      let tree = inner.tree in let low = inner.low in let high = inner.high in
      let more : b.stamp x.tree child ≤ c.stamp x.tree child =
      later.stamps x.tree child inner.tree (omega arith) (omega arith) in
      let same : c.seen x.tree child (stamp_in parent) ≡ b.seen x.tree child (stamp_in parent) =
      later.seen x.tree child (stamp_in parent) inner.tree (omega arith) (omega arith)
      (subst (λ (n : ℕ). stamp_in parent ≤ b.stamp x.tree n) (sym halves) reached) in
      let was = h.reached in let newer = h.newer in
      record { reached = omega arith; newer = omega arith; own = h.own }

  try_later : (x : Ascent) → IsInner plan x → (y : Try) → IsTry plan b x.tree x.node x.held y
      → IsTry plan c x.tree x.node x.held y
  try_later x inner y h =
      let tree = inner.tree in let low = inner.low in let high = inner.high in
      let more : b.stamp x.tree (x.node / 2) ≤ c.stamp x.tree (x.node / 2) =
      later.stamps x.tree (x.node / 2) inner.tree (omega arith) (omega arith) in
      let was = h.reached in
      record {
        reached = omega arith;
        left = if_some (IsLoaded plan b x.tree x.node x.held y.parent (2 * (x.node / 2)))
            (IsLoaded plan c x.tree x.node x.held y.parent (2 * (x.node / 2))) y.left
            (λ word. loaded_later x inner y.parent (2 * (x.node / 2)) word (omega arith)
            (omega arith) h.reached) h.left;
        right = if_some (IsLoaded plan b x.tree x.node x.held y.parent (2 * (x.node / 2) + 1))
            (IsLoaded plan c x.tree x.node x.held y.parent (2 * (x.node / 2) + 1)) y.right
            (λ word. loaded_later x inner y.parent (2 * (x.node / 2) + 1) word (omega arith)
            (omega arith) h.reached) h.right;
      }

  stage_later : (x : Ascent) → IsInner plan x → (stage : Stage)
      → IsStage plan b x.tree x.node x.held stage → IsStage plan c x.tree x.node x.held stage
  stage_later x inner Fresh h = tt
  stage_later x inner (First y) h = try_later x inner y h
  stage_later x inner (Lost s) h = let low = inner.low in let high = inner.high in
      let more : b.stamp x.tree (x.node / 2) ≤ c.stamp x.tree (x.node / 2) =
      later.stamps x.tree (x.node / 2) inner.tree (omega arith) (omega arith) in omega arith
  stage_later x inner (Second s y) h = (h.0, try_later x inner y h.1)

  -- what a new install of the parent has to have read
  abbrev pub ReadsNew : Ascent → Type 0
  ReadsNew x = IfSome (first_of x.stage) (λ s. (stamp : ℕ) → s + 2 ≤ stamp
      → b.stamp x.tree (x.node / 2) < stamp → stamp ≤ c.stamp x.tree (x.node / 2)
      → x.held ≤ c.seen x.tree x.node stamp)

  refreshed_later : (x : Ascent) → IsInner plan x → (first : Option ℕ)
      → AreRefreshed plan b x.tree x.node x.held first
      → IfSome first (λ s. (stamp : ℕ) → s + 2 ≤ stamp → b.stamp x.tree (x.node / 2) < stamp
      → stamp ≤ c.stamp x.tree (x.node / 2) → x.held ≤ c.seen x.tree x.node stamp)
      → AreRefreshed plan c x.tree x.node x.held first
  refreshed_later x inner None h new = tt
  refreshed_later x inner (Some s) h new = λ stamp late reached. ⊎_elim
      (λ (above : b.stamp x.tree (x.node / 2) < stamp). new stamp late above reached)
      (λ (within : stamp ≤ b.stamp x.tree (x.node / 2)). let same =
      later.seen x.tree x.node stamp inner.tree inner.low inner.high within in
      let was = h stamp late within in omega arith)
      (cases_lt (b.stamp x.tree (x.node / 2)) stamp)

  module _ (number : ℕ) (number_in : number < plan.sessions) where
    pub ascent_later : (x : Ascent) → c.posts number x.tree ≡ b.posts number x.tree
        → IsAscent plan b number x → ReadsNew x → IsAscent plan c number x
    ascent_later x same h new = let inner = ascent_inner plan b number x planned number_in h in
        let session_in : number < 2 ^ plan.levels = in_levels number_in planned.sessions in record {
          tree = h.tree;
          height = h.height;
          node = h.node;
          held = let low = inner.low in let more : b.stamp x.tree x.node ≤ c.stamp x.tree x.node =
              later.stamps x.tree x.node inner.tree (omega arith) inner.high in let was = h.held in
              omega arith;
          covers = cover_stays plan b grown x.tree number inner.tree session_in c later x.height x.held
              (below_levels h.height) (subst (λ (n : ℕ). x.held ≤ b.stamp x.tree n) h.node h.held)
              ∙ (h.covers ∙ sym same);
          stage = stage_later x inner x.stage h.stage;
          refreshed = refreshed_later x inner (first_of x.stage) h.refreshed new;
        }

    root_in : (tree : ℕ) → tree < plan.trees → b.stamp tree 1 ≤ c.stamp tree 1
    root_in tree tree_in = let session_in : number < 2 ^ plan.levels =
        in_levels number_in planned.sessions in
        later.stamps tree 1 tree_in (omega arith) (omega arith)

    pub call_later : (before : List Call) (call : Call) → IsCall plan b number before call
        → IsCall plan c number before call
    call_later before (Post tree value) h = h
    call_later before (Read tree stamp value) h = let session_in : number < 2 ^ plan.levels =
        in_levels number_in planned.sessions in record {
          tree_in = h.tree_in;
          reached = let more = root_in tree h.tree_in in let was = h.reached in omega arith;
          covers = cover_stays plan b grown tree number h.tree_in session_in c later plan.levels stamp
              (omega arith) (subst (λ (n : ℕ). stamp ≤ b.stamp tree n)
              (sym (ancestor-root plan.levels number session_in)) h.reached) ∙ h.covers;
        }

    -- the root goes on covering all posts, since they are no more
    pub idle_later : IsGrown plan c → (tree : ℕ) → tree < plan.trees
        → c.posts number tree ≡ b.posts number tree
        → cover (b.seen tree) (leaf_of plan.levels number) plan.levels
        (b.stamp tree 1) ≡ b.posts number tree
        → cover (c.seen tree) (leaf_of plan.levels number) plan.levels
        (c.stamp tree 1) ≡ c.posts number tree
    idle_later grown_later tree tree_in same h =
        let session_in : number < 2 ^ plan.levels = in_levels number_in planned.sessions in
        let root = ancestor-root plan.levels number session_in in
        let stays : cover (c.seen tree) (leaf_of plan.levels number) plan.levels
        (b.stamp tree 1) ≡ cover (b.seen tree) (leaf_of plan.levels number) plan.levels
        (b.stamp tree 1) =
        cover_stays plan b grown tree number tree_in session_in c later plan.levels
        (b.stamp tree 1) (omega arith) (subst (λ (n : ℕ). b.stamp tree 1 ≤ b.stamp tree n)
        (sym root) (omega arith)) in
        let rises : cover (c.seen tree) (leaf_of plan.levels number) plan.levels
        (b.stamp tree 1) ≤ cover (c.seen tree) (leaf_of plan.levels number) plan.levels
        (c.stamp tree 1) =
        cover_rises plan c grown_later tree number tree_in session_in plan.levels
        (b.stamp tree 1) (c.stamp tree 1) (omega arith) (root_in tree tree_in)
        (subst (λ (n : ℕ). c.stamp tree 1 ≤ c.stamp tree n) (sym root) (omega arith)) in
        let most : cover (c.seen tree) (leaf_of plan.levels number) plan.levels
        (c.stamp tree 1) ≤ c.posts number tree =
        cover_below plan c grown_later tree number tree_in session_in plan.levels
        (c.stamp tree 1) (omega arith) (subst (λ (n : ℕ). c.stamp tree 1 ≤ c.stamp tree n)
        (sym root) (omega arith)) in
        omega arith

  -- a session that does not step
  pub track_later : IsGrown plan c → (track : Track) (ascent : Option Ascent)
      → ((tree : ℕ) → c.posts track.number tree ≡ b.posts track.number tree) → IfSome ascent ReadsNew
      → IsTrack plan b track ascent → IsTrack plan c track ascent
  track_later grown_later track ascent same new h = record {
    past = record {
      number = h.past.number;
      own = λ tree. h.past.own tree ∙ sym (same tree);
      quota = h.past.quota;
      installs = h.past.installs;
      trail = h.past.trail;
      calls = λ k call at. call_later track.number h.past.number (_) call (h.past.calls k call at);
      in_order = h.past.in_order;
    };
    present = record {
      ascends = both_some ascent h.present.ascends new;
      idle = λ tree tree_in idle. idle_later track.number h.past.number grown_later tree tree_in
          (same tree) (h.present.idle tree tree_in idle);
      fewer = h.present.fewer;
    };
  }
    where
      both_some : (o : Option Ascent) → IfSome o (IsAscent plan b track.number) → IfSome o ReadsNew
          → IfSome o (IsAscent plan c track.number)
      both_some None p q = tt
      both_some (Some x) p q = ascent_later track.number h.past.number x (same x.tree) p q

  each_later : IsGrown plan c → (joined : List Track)
      → Each (λ (track : Track). (tree : ℕ)
      → c.posts track.number tree ≡ b.posts track.number tree) joined
      → Each (λ (track : Track). IsTrack plan b track None) joined
      → Each (λ (track : Track). IsTrack plan c track None) joined
  each_later grown_later [] same h = tt
  each_later grown_later (track ∷ tracks) same h =
      (track_later grown_later track None same.0 tt h.0, each_later grown_later tracks same.1 h.1)

  -- a view that does not step
  pub view_later : IsGrown plan c → (u : View)
      → Each (λ (track : Track). (tree : ℕ) → c.posts track.number tree ≡ b.posts track.number tree)
      (tracks_of u) → IfSome (ascent_of u) ReadsNew → IsView plan b u → IsView plan c u
  view_later grown_later (Keeper levels given joined) same new h =
      (h.0, each_later grown_later joined same h.1)
  view_later grown_later (Session levels track ascent) same new h =
      (h.0, track_later grown_later track ascent same.0 new h.1)
  view_later grown_later Spent same new h = tt
