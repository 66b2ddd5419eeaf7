-- The hands of an officer on the halt tree and on the limit trees, whose posts are told as acts.
use Rattle.std.specs.Prelude.{◌≡◌, ℕ, ◌≤◌, List, []}
use Rattle.fold_law.specs.declared.limits.TheConstants.{LEAF}
use Rattle.limit_table.specs.Trees.{LimitsValue, halt_tree, sums_most}
use Rattle.risk_board.specs.Hands.{HandValue}
use Rattle.risk_journal.specs.declared.acts.Act.{Act}
use Rattle.risk_journal.specs.ActLists.{calls_at}
use Rattle.limit_desk.specs.declared.least.TheConstants.{OPEN}
use Rattle.limit_desk.specs.Officers.{rows_most}
use Rattle.limit_desk.specs.Trees.{limit_calls}

-- a hand on so many trees, with a post in each for each row of an officer file, of at most so much
pub record IsPostHand (count most : ℕ) (hand : HandValue) : Type 0 where
  pub trees : hand.trees ≡ count
  pub quota : hand.quota ≡ rows_most
  pub cap : hand.cap ≡ most

-- a hand on the one halt tree
abbrev pub IsLevelHand : HandValue → Type 0
IsLevelHand hand = IsPostHand 1 LEAF hand

-- a hand on a limit tree for each tree of sums
abbrev pub IsLimitHand : LimitsValue → HandValue → Type 0
IsLimitHand limits hand = IsPostHand (halt_tree limits) OPEN hand

-- the hands, the number of the halt tree and so of the limit trees, the acts that tell the posts, and for
-- how many more posts there is room
pub record OfficerValue (M D : Type 0) : Type 0 where
  pub halt : M
  pub desk : D
  pub halt_tree : ℕ
  pub acts : List Act
  pub room : ℕ

-- both hands made the calls that the acts tell
pub record InStep (halt desk : HandValue) (halt_tree : ℕ) (acts : List Act) : Type 0 where
  pub few : halt_tree ≤ sums_most
  pub halt_hand : IsLevelHand halt
  pub desk_hand : IsPostHand halt_tree OPEN desk
  pub halt_calls : halt.calls ≡ calls_at halt_tree acts
  pub desk_calls : desk.calls ≡ limit_calls halt_tree acts

-- these hands over the trees of these limits, before any act
pub record IsFresh {M D : Type 0} (limits : LimitsValue) (halt : M) (desk : D)
    (now : OfficerValue M D) : Type 0 where
  pub halt_tree_is : now.halt_tree ≡ halt_tree limits
  pub halt_is : now.halt ≡ halt
  pub desk_is : now.desk ≡ desk
  pub acts_are : now.acts ≡ []

-- the same hands over the same trees
pub record IsAfter {M D : Type 0} (SameHalt : M → M → Type 0) (SameDesk : D → D → Type 0)
    (before now : OfficerValue M D) : Type 0 where
  pub halt_tree_is : now.halt_tree ≡ before.halt_tree
  pub halt_is : SameHalt before.halt now.halt
  pub desk_is : SameDesk before.desk now.desk
