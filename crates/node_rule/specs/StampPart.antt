-- The part of the rule that speaks of stamps, installs and fronts, and names no fold.
use Rattle.std.specs.Prelude.{◌≡◌, ℕ, suc, ◌+◌, ◌*◌, ◌/◌, ◌^◌, ◌<◌, ◌≤◌, List, length, Option, None, IfSome, take}
use Rattle.fold_law.specs.declared.limits.TheConstants.{SESSIONS, QUOTA}
use mathlib.Core.Option.{some}
use lib.ListN.{get_elem?}
use Rattle.stamp_word.specs.Word.{stamp_in}
use Rattle.stamp_word.specs.Places.{IsShape, leaf_of}
use Rattle.node_rule.specs.declared.view.View.{View}
use Rattle.node_rule.specs.declared.view.View.TheVariants.{Keeper, Session, Spent}
use Rattle.node_rule.specs.declared.view.Stage.{Stage}
use Rattle.node_rule.specs.declared.view.Stage.TheVariants.{Fresh, First, Lost, Second}
use Rattle.node_rule.specs.declared.view.Track.{Track}
use Rattle.node_rule.specs.declared.view.Install.{Install}
use Rattle.node_rule.specs.declared.view.Try.{Try}
use Rattle.node_rule.specs.declared.view.Ascent.{Ascent}
use Rattle.node_rule.specs.declared.view.Plan.{Plan}
use Rattle.risk_board.specs.declared.hand.Call.{Call}
use Rattle.risk_board.specs.declared.hand.Call.TheVariants.{Post, Read}
use Rattle.node_rule.specs.Views.{ascent_of, given_of, keepers_of, first_of, try_of, child_in, IsIdleIn}
use Rattle.node_rule.specs.Sums.{Each, total, over, posted, posts_in, installs_in, stands_in}
use Rattle.node_rule.specs.Fronts.{Board, board_of, ancestor, cover}

-- a plan within the limits: a leaf for each session
pub record IsPlan (plan : Plan) : Type 0 where
  pub shape : IsShape plan.levels plan.trees
  pub sessions : plan.sessions ≤ 2 ^ plan.levels
  pub few : plan.sessions ≤ SESSIONS
  pub quota : plan.quota ≤ QUOTA

-- An install of the session with this number is above its leaf
pub record IsAbove (plan : Plan) (number : ℕ) (x : Install) : Type 0 where
  pub tree : x.tree < plan.trees
  pub above : (height : ℕ) × (height < plan.levels)
      × (x.node ≡ ancestor (leaf_of plan.levels number) (suc height))

module _ (plan : Plan) (b : Board) where
  -- What the installs of all views keep together
  pub record IsGrown : Type 0 where
    -- a leaf has as stamp the number of its session's posts
    pub leaves : (tree session : ℕ) → tree < plan.trees → session < 2 ^ plan.levels
        → b.stamp tree (leaf_of plan.levels session) ≡ b.posts session tree
    -- an inner node has one install for each stamp from 1 to its own, and no other
    pub once : (tree node stamp : ℕ) → tree < plan.trees → 1 ≤ node → node < 2 ^ plan.levels
        → 1 ≤ stamp → stamp ≤ b.stamp tree node → b.times tree node stamp ≡ 1
    pub none_else : (tree node stamp : ℕ) → tree < plan.trees → 1 ≤ node → node < 2 ^ plan.levels
        → b.stamp tree node < stamp → b.times tree node stamp ≡ 0
    pub none_at_zero : (tree node : ℕ) → tree < plan.trees → 1 ≤ node → node < 2 ^ plan.levels
        → b.times tree node 0 ≡ 0
    pub counted : (tree node : ℕ) → tree < plan.trees → 1 ≤ node → node < 2 ^ plan.levels
        → b.stamp tree node ≡ b.installs tree node
    -- from one stamp of a node to a later one the installed child stamps never fall
    pub rises : (tree child early late : ℕ) → tree < plan.trees → 2 ≤ child
        → child < 2 * 2 ^ plan.levels → early ≤ late → late ≤ b.stamp tree (child / 2)
        → b.seen tree child early ≤ b.seen tree child late
    -- an installed child stamp is at most the child's stamp now
    pub below : (tree child stamp : ℕ) → tree < plan.trees → 2 ≤ child → child < 2 * 2 ^ plan.levels
        → stamp ≤ b.stamp tree (child / 2) → b.seen tree child stamp ≤ b.stamp tree child

  -- Of an ascent in this tree at this node, that holds this stamp of it. A loaded word of a child
  -- is no newer than the child, no older than what the install of the loaded parent stamp read, and
  -- at the ascent's own node no older than what it holds
  pub record IsLoaded (tree node held parent child word : ℕ) : Type 0 where
    pub reached : stamp_in word ≤ b.stamp tree child
    pub newer : b.seen tree child (stamp_in parent) ≤ stamp_in word
    pub own : child ≡ node → held ≤ stamp_in word

  -- A try: its loaded words
  pub record IsTry (tree node held : ℕ) (y : Try) : Type 0 where
    pub reached : stamp_in y.parent ≤ b.stamp tree (node / 2)
    pub left : IfSome y.left (IsLoaded tree node held y.parent (2 * (node / 2)))
    pub right : IfSome y.right (IsLoaded tree node held y.parent (2 * (node / 2) + 1))

  -- where the first try lost, the parent's stamp has risen above that of the first load, and so has
  -- that of the second load
  abbrev pub IsStage : ℕ → ℕ → ℕ → Stage → Type 0
  IsStage tree node held Fresh = Unit {0}
  IsStage tree node held (First y) = IsTry tree node held y
  IsStage tree node held (Lost s) = s < b.stamp tree (node / 2)
  IsStage tree node held (Second s y) = (s < stamp_in y.parent) × IsTry tree node held y

  -- the installs of the parent from the second one after the first load on have read the node at
  -- what the ascent holds or later
  abbrev pub AreRefreshed : ℕ → ℕ → ℕ → Option ℕ → Type 0
  AreRefreshed tree node held first = IfSome first (λ s. (stamp : ℕ) → s + 2 ≤ stamp
      → stamp ≤ b.stamp tree (node / 2) → held ≤ b.seen tree node stamp)

  -- An ascent of the session with this number
  pub record IsAscent (number : ℕ) (x : Ascent) : Type 0 where
    pub tree : x.tree < plan.trees
    pub height : x.height < plan.levels
    pub node : x.node ≡ ancestor (leaf_of plan.levels number) x.height
    pub held : x.held ≤ b.stamp x.tree x.node
    -- the stamp `held` covers all of the session's posts in the tree
    pub covers : cover (b.seen x.tree) (leaf_of plan.levels number) x.height x.held
        ≡ b.posts number x.tree
    pub stage : IsStage x.tree x.node x.held x.stage
    pub refreshed : AreRefreshed x.tree x.node x.held (first_of x.stage)

  -- A read of the root: it covers of the reader's posts exactly those before it
  pub record IsRead (number : ℕ) (before : List Call) (tree stamp : ℕ) : Type 0 where
    pub tree_in : tree < plan.trees
    pub reached : stamp ≤ b.stamp tree 1
    pub covers : cover (b.seen tree) (leaf_of plan.levels number) plan.levels stamp ≡ length
        (posted tree before)

  -- a call, with those of the session before it
  abbrev pub IsCall : ℕ → List Call → Call → Type 0
  IsCall number before (Post tree value) = tree < plan.trees
  IsCall number before (Read tree stamp value) = IsRead number before tree stamp

  -- What one session did
  pub record IsPast (track : Track) : Type 0 where
    pub number : track.number < plan.sessions
    pub own : (tree : ℕ) → posts_in tree track ≡ b.posts track.number tree
    pub quota : (tree : ℕ) → posts_in tree track ≤ plan.quota
    pub installs : (tree node : ℕ) → installs_in tree node track ≤ posts_in tree track
    pub trail : Each (IsAbove plan track.number) track.trail
    pub calls : (k : ℕ) (call : Call) → get_elem? track.calls k ≡ some call
        → IsCall track.number (take k track.calls) call
    pub in_order : (k l : ℕ) (tree s t v w : ℕ) → k ≤ l
        → get_elem? track.calls k ≡ some (Read tree s v)
        → get_elem? track.calls l ≡ some (Read tree t w) → s ≤ t

  -- What it has in hand
  pub record IsPresent (track : Track) (ascent : Option Ascent) : Type 0 where
    pub ascends : IfSome ascent (IsAscent track.number)
    -- in a tree without an ascent in hand the root covers all of the session's posts
    pub idle : (tree : ℕ) → tree < plan.trees → IsIdleIn tree ascent
        → cover (b.seen tree) (leaf_of plan.levels track.number) plan.levels
        (b.stamp tree 1) ≡ b.posts track.number tree
    -- at the nodes above its ascent it has fewer installs than posts
    pub fewer : IfSome ascent (λ x. (height : ℕ) → x.height < height → height ≤ plan.levels
        → installs_in x.tree (ancestor (leaf_of plan.levels track.number) height) track < posts_in
        x.tree track)

  -- a session: what it did, and what it has in hand
  pub record IsTrack (track : Track) (ascent : Option Ascent) : Type 0 where
    pub past : IsPast track
    pub present : IsPresent track ascent

  -- a seat's view; a spent one says nothing
  abbrev pub IsView : View → Type 0
  IsView (Keeper levels given joined) = (levels ≡ plan.levels)
      × Each (λ track. IsTrack track None) joined
  IsView (Session levels track ascent) = (levels ≡ plan.levels) × IsTrack track ascent
  IsView Spent = Unit {0}

-- An ascent whose try loaded the parent of x's node above the stamp of x's first load, and then x's
-- node, loaded that at what x holds or later
abbrev pub Refreshes : Ascent → Ascent → Type 0
Refreshes x y = x.tree ≡ y.tree → x.node / 2 ≡ y.node / 2
    → IfSome (first_of x.stage) (λ s. IfSome (try_of y.stage) (λ z. s < stamp_in z.parent
    → IfSome (child_in z x.node) (λ word. x.held ≤ stamp_in word)))

-- the same of the ascends that two views have in hand, where they have one
abbrev pub RefreshesAny : View → View → Type 0
RefreshesAny v w = IfSome (ascent_of v) (λ x. IfSome (ascent_of w) (λ y. Refreshes x y))

-- The numbers: those below the keeper's count stand once each, and no other stands
pub record AreNumbered (plan : Plan) (views : List View) : Type 0 where
  pub one_keeper : total keepers_of views ≡ 1
  pub given : total given_of views ≤ plan.sessions
  pub tracks : over (λ track. 1) views ≡ total given_of views
  pub once : (number : ℕ) → number < total given_of views → over (stands_in number) views ≡ 1
  pub no_other : (number : ℕ) → total given_of views ≤ number → over (stands_in number) views ≡ 0

-- The stamp part
pub record IsStamped (plan : Plan) (words : List ℕ) (views : List View) : Type 0 where
  pub planned : IsPlan plan
  pub width : length words ≡ plan.trees * (2 * 2 ^ plan.levels)
  pub grown : IsGrown plan (board_of plan.levels words views)
  pub each : (seat : ℕ) (v : View) → get_elem? views seat ≡ some v
      → IsView plan (board_of plan.levels words views) v
  pub pairs : (seat other : ℕ) (v w : View) → get_elem? views seat ≡ some v
      → get_elem? views other ≡ some w → RefreshesAny v w
  pub numbers : AreNumbered plan views
