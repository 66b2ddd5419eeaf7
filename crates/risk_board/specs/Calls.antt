-- The calls of a session on its hands.
use Rattle.std.specs.Prelude.{ℕ, ◌==◌, List, count_by, Bool, false}
use Rattle.risk_board.specs.declared.hand.Call.{Call}
use Rattle.risk_board.specs.declared.hand.Call.TheVariants.{Post, Read}

-- a post in the tree
abbrev pub is_post_in : ℕ → Call → Bool
is_post_in tree (Post in_tree value) = in_tree == tree
is_post_in tree (Read in_tree stamp value) = false

-- how many posts the calls have in the tree
abbrev pub post_count : ℕ → List Call → ℕ
post_count tree calls = count_by (is_post_in tree) calls
