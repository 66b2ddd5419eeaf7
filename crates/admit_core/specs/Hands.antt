-- What the two hands of a session are to their user, and what is true of their parts.
use Rattle.std.specs.Prelude.{◌≡◌, ℕ, ◌+◌, ◌≤◌, ◌<◌, List, [], length}
use Rattle.std.specs.List.{slice_index_or}
use Rattle.fold_law.specs.declared.limits.TheConstants.{LEAF}
use Rattle.limit_table.specs.Trees.{LimitsValue, halt_tree}
use Rattle.risk_board.specs.Hands.{HandValue}
use Rattle.risk_journal.specs.declared.acts.Act.{Act}
use Rattle.risk_journal.specs.ActLists.{last_post, calls_below, calls_at}

-- the hands, the number of the halt tree and so of the trees of sums, the most posts in a tree of sums,
-- the acts that tell the calls, and for how many more acts there is room
pub record HandsValue (H M : Type 0) : Type 0 where
  pub sum : H
  pub halt : M
  pub halt_tree : ℕ
  pub quota : ℕ
  pub acts : List Act
  pub room : ℕ

-- a hand on so many trees of sums, with so many posts in each
pub record IsHandOn (count most : ℕ) (hand : HandValue) : Type 0 where
  pub trees : hand.trees ≡ count
  pub quota : hand.quota ≡ most
  pub cap : hand.cap ≡ LEAF

-- a hand on a tree for the firm, for each account and for each symbol, with the quota of the limits
abbrev pub IsSumHand : LimitsValue → HandValue → Type 0
IsSumHand limits hand = IsHandOn (halt_tree limits) limits.quota hand

-- a hand on the one halt tree, which can trip it once at least
pub record IsHaltHand (hand : HandValue) : Type 0 where
  pub trees : hand.trees ≡ 1
  pub quota : 1 ≤ hand.quota
  pub cap : hand.cap ≡ LEAF

-- Both hands made the calls that the acts tell, and what is kept of each tree of sums is what the
-- acts last posted there.
pub record InStep (sum halt : HandValue) (halt_tree quota : ℕ) (acts : List Act) (lasts : List ℕ)
    : Type 0 where
  pub sum_hand : IsHandOn halt_tree quota sum
  pub halt_hand : IsHaltHand halt
  pub sum_calls : sum.calls ≡ calls_below halt_tree acts
  pub halt_calls : halt.calls ≡ calls_at halt_tree acts
  pub count : length lasts ≡ halt_tree
  pub lasts_are : (tree : ℕ) → tree < halt_tree
      → slice_index_or lasts tree 0 ≡ last_post tree acts
  pub capped : (tree : ℕ) → slice_index_or lasts tree 0 ≤ LEAF

-- the hands are over the trees of these limits
pub record IsOver {H M : Type 0} (limits : LimitsValue) (hands : HandsValue H M) : Type 0 where
  pub halt_tree_is : hands.halt_tree ≡ halt_tree limits
  pub quota_is : hands.quota ≡ limits.quota

-- these hands over the trees of these limits, before any act
pub record IsFresh {H M : Type 0} (limits : LimitsValue) (sum : H) (halt : M)
    (now : HandsValue H M) : Type 0 where
  pub over : IsOver limits now
  pub sum_is : now.sum ≡ sum
  pub halt_is : now.halt ≡ halt
  pub acts_are : now.acts ≡ []

-- the same hands over the same trees, so many acts later at most
pub record IsAfter {H M : Type 0} (SameSum : H → H → Type 0) (SameHalt : M → M → Type 0)
    (before now : HandsValue H M) (acts : ℕ) : Type 0 where
  pub halt_tree_is : now.halt_tree ≡ before.halt_tree
  pub quota_is : now.quota ≡ before.quota
  pub sum_is : SameSum before.sum now.sum
  pub halt_is : SameHalt before.halt now.halt
  pub room : before.room ≤ now.room + acts
  pub few : length now.acts ≤ length before.acts + acts
