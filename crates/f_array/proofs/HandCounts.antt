-- The posts of a session in a tree, counted and listed.
use Rattle.std.proofs.Common.{◌≡◌, ℕ, ◌+◌, Bool, true, false, List, ◌∷◌, length, refl, sym, arith}
use Rattle.std.specs.Prelude.{◌==◌, cond}
use Rattle.std.proofs.lemmas.List.Recursion.{is_count_by}
use Rattle.risk_board.specs.declared.hand.Call.{Call}
use Rattle.risk_board.specs.declared.hand.Call.TheVariants.{Post, Read}
use Rattle.risk_board.specs.Calls.{is_post_in, post_count}
use Rattle.node_rule.specs.Views.{pick}
use Rattle.node_rule.specs.Sums.{posted}

one_post : (here : Bool) (value : ℕ) (rest : List ℕ)
    → length (pick here (value ∷ rest) rest) ≡ cond here (1 + length rest) (length rest)
one_post true value rest = omega arith
one_post false value rest = refl

one_call : (tree : ℕ) (call : Call) (calls : List Call)
    → length (posted tree (call ∷ calls)) ≡ cond (is_post_in tree call)
    (1 + length (posted tree calls)) (length (posted tree calls))
one_call tree (Post t value) calls = one_post (t == tree) value (posted tree calls)
one_call tree (Read t stamp value) calls = refl

-- the posts of the calls in a tree are as many as those that are listed
pub post_count-posted : (tree : ℕ) (calls : List Call)
    → post_count tree calls ≡ length (posted tree calls)
post_count-posted tree calls =
    sym (is_count_by (λ (c : List Call). length (posted tree c)) (is_post_in tree) refl
    (one_call tree) calls)
