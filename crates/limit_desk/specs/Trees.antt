-- The limit trees stand behind the halt tree, one for each tree of sums.
use Rattle.std.specs.Prelude.{ℕ, ◌+◌, ◌-◌, List, [], ◌∷◌, nat_lt, if◌then◌else◌}
use Rattle.risk_board.specs.declared.hand.Call.{Call}
use Rattle.risk_board.specs.declared.hand.Call.TheVariants as call
use Rattle.risk_journal.specs.declared.acts.Act.{Act}
use Rattle.risk_journal.specs.declared.acts.Act.TheVariants.{Post, Read, Sent, Refused, Noted, Ended}

-- the number of the limit tree of a tree of sums, where the halt tree has this number
abbrev pub limit_tree : ℕ → ℕ → ℕ
limit_tree halt_tree tree = halt_tree + 1 + tree

-- the calls of a session in the trees from a number on, as calls on a hand of these trees alone, in order
abbrev pub calls_from : ℕ → List Act → List Call
calls_from first [] = []
calls_from first (Post tree index value ∷ acts) =
    if nat_lt tree first then calls_from first acts
    else call.Post (tree - first) value ∷ calls_from first acts
calls_from first (Read tree stamp place value ∷ acts) =
    if nat_lt tree first then calls_from first acts
    else call.Read (tree - first) stamp value ∷ calls_from first acts
calls_from first (Sent frame ∷ acts) = calls_from first acts
calls_from first (Refused frame code one two ∷ acts) = calls_from first acts
calls_from first (Noted frame code one two ∷ acts) = calls_from first acts
calls_from first (Ended end ∷ acts) = calls_from first acts

-- the calls of a session in the limit trees, in order
abbrev pub limit_calls : ℕ → List Act → List Call
limit_calls halt_tree acts = calls_from (halt_tree + 1) acts
