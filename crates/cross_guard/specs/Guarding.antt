-- When a guard may be asked, when too few posts are left for it, and its calls.
use Rattle.std.specs.Prelude.{◌≡◌, ℕ, ◌+◌, ◌-◌, ◌≤◌, ◌<◌, ◌==◌, List, [], ◌∷◌, ◌++◌, length, fold}
use Rattle.std.specs.Prelude.{Bool, IsTrue, nat_lt, if◌then◌else◌}
use Rattle.risk_board.specs.declared.hand.Call.{Call}
use Rattle.risk_board.specs.declared.hand.Call.TheVariants.{Post, Read}
use Rattle.risk_board.specs.declared.hand.Seen.{Seen}
use Rattle.risk_board.specs.Calls.{post_count}
use Rattle.risk_board.specs.Hands.{HandValue}
use Rattle.cross_guard.specs.Halves.{cross_le}
use Rattle.cross_guard.specs.declared.guarding.CrossOutcome.{CrossOutcome}
use Rattle.cross_guard.specs.declared.guarding.CrossVerdict.{CrossVerdict}
use Rattle.cross_guard.specs.declared.guarding.CrossVerdict.TheVariants.{Sent, Cross, Quota}

-- the value last posted in a tree, after one more call
abbrev pub latest_call : ℕ → ℕ → Call → ℕ
latest_call tree before (Post in_tree value) = if in_tree == tree then value else before
latest_call tree before (Read in_tree stamp value) = before

-- the value last posted in a tree by these calls, 0 before any
abbrev pub last_call : ℕ → List Call → ℕ
last_call tree calls = fold (latest_call tree) 0 calls

-- the hand after these calls, in order: each takes one from its room, and nothing else changes
abbrev pub with_calls : List Call → HandValue → HandValue
with_calls calls hand =
    record hand { calls = hand.calls ++ calls; spare = hand.spare - length calls }

-- The tree is one of the hand's, the old value is what the hand last posted there, the new one is no
-- smaller in either half and can be posted, and there is room for three calls.
pub record CanGuard (hand : HandValue) (tree old new : ℕ) : Type 0 where
  pub in_range : tree < hand.trees
  pub last : old ≡ last_call tree hand.calls
  pub rises : IsTrue (cross_le old new)
  pub capped : new ≤ hand.cap
  pub spare : 3 ≤ hand.spare

-- a post in the tree, and one more that takes it back, are more than the quota leaves
abbrev pub is_spent : HandValue → ℕ → Bool
is_spent hand tree = nat_lt hand.quota (post_count tree hand.calls + 2)

-- a root that was not read
abbrev pub unread : Seen
unread = record { stamp = 0; value = 0 }

-- what stands in the tree: the new value where the order is sent, and else what stood before
abbrev pub standing_by : CrossVerdict → ℕ → ℕ → ℕ
standing_by Sent old new = new
standing_by Cross old new = old
standing_by Quota old new = old

-- the new value is posted, and then the root of all sessions read
abbrev pub calls_by : CrossVerdict → ℕ → ℕ → ℕ → Seen → List Call
calls_by Quota tree old new root = []
calls_by Sent tree old new root = Post tree new ∷ Read tree root.stamp root.value ∷ []
calls_by Cross tree old new root =
    Post tree new ∷ Read tree root.stamp root.value ∷ Post tree old ∷ []

-- the calls of a guard, in order
abbrev pub guard_calls : ℕ → ℕ → ℕ → CrossOutcome → List Call
guard_calls tree old new outcome = calls_by outcome.verdict tree old new outcome.root
