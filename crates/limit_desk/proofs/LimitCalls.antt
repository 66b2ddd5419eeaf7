-- The calls that acts tell in the trees from a number on.
use Rattle.std.proofs.Common.{◌≡◌, ℕ, ◌+◌, ◌-◌, ◌==◌, List, [], ◌∷◌, ◌++◌, refl, sym, ap, ◌∙◌}
use Rattle.std.proofs.Common.{arith, true, false, Bool, cond}
use Rattle.std.specs.Prelude.{nat_lt}
use Rattle.std.proofs.lemmas.Bool.Decides.{nat_tests}
use Rattle.risk_board.specs.Calls.{post_count, is_post_in}
use Rattle.risk_board.specs.declared.hand.Call.{Call}
use Rattle.risk_board.specs.declared.hand.Call.TheVariants as call
use Rattle.risk_journal.specs.declared.acts.Act.{Act}
use Rattle.risk_journal.specs.declared.acts.Act.TheVariants.{Post, Read}
use Rattle.risk_journal.specs.ActLists.{posts_in, is_post_act_in}
use Rattle.admit_core.proofs.ActLemmas.{count_by-cons, count_by-skips}
use Rattle.limit_desk.specs.Trees.{calls_from}

-- a call that isn't there or is, in front of others
call_in_front : (elsewhere : Bool) (one : Call) (first both later : List Call)
    → both ≡ first ++ later
    → cond elsewhere both (one ∷ both) ≡ cond elsewhere first (one ∷ first) ++ later
call_in_front true one first both later is = is
call_in_front false one first both later is = ap (λ s. one ∷ s) is

pub calls_from-append : (first : ℕ) (xs ys : List Act)
    → calls_from first (xs ++ ys) ≡ calls_from first xs ++ calls_from first ys
calls_from-append first [] ys = refl
calls_from-append first (Post tree index value ∷ xs) ys =
    call_in_front (nat_lt tree first) (call.Post (tree - first) value) (calls_from first xs)
    (calls_from first (xs ++ ys)) (calls_from first ys) (calls_from-append first xs ys)
calls_from-append first (Read tree stamp place value ∷ xs) ys =
    call_in_front (nat_lt tree first) (call.Read (tree - first) stamp value) (calls_from first xs)
    (calls_from first (xs ++ ys)) (calls_from first ys) (calls_from-append first xs ys)
calls_from-append first (note ∷ xs) ys = calls_from-append first xs ys

-- a tree below a number isn't one behind it
below_is_other : (other first tree : ℕ) → nat_lt other first ≡ true → (other == first + tree) ≡ false
below_is_other other first tree below = grind (arith, nat_tests)

-- trees behind a number are told apart by their places there
behind_is_same : (other first tree : ℕ) → nat_lt other first ≡ false
    → (other == first + tree) ≡ (other - first == tree)
behind_is_same other first tree behind = grind (arith, nat_tests)

-- the posts of the calls in a tree there are those of the acts
pub post_count-from : (first tree : ℕ) (acts : List Act)
    → post_count tree (calls_from first acts) ≡ posts_in (first + tree) acts
post_count-from first tree [] = refl
post_count-from first tree (Post t index value ∷ xs) =
    by_test (nat_lt t first) refl (post_count-from first tree xs)
  where
    by_test : (test : Bool) → nat_lt t first ≡ test
        → post_count tree (calls_from first xs) ≡ posts_in (first + tree) xs
        → post_count tree (cond test (calls_from first xs)
        (call.Post (t - first) value ∷ calls_from first xs))
        ≡ posts_in (first + tree) (Post t index value ∷ xs)
    by_test true is later =
        later
        ∙ sym (count_by-skips (first + tree) (Post t index value) xs
        (below_is_other t first tree is))
    by_test false is later =
        count_by-cons (is_post_in tree) (call.Post (t - first) value) (calls_from first xs)
        ∙ ap (λ n. cond (t - first == tree) 1 0 + n) later
        ∙ ap (λ b. cond b 1 0 + posts_in (first + tree) xs) (sym (behind_is_same t first tree is))
        ∙ sym (count_by-cons (is_post_act_in (first + tree)) (Post t index value) xs)
post_count-from first tree (Read t stamp place value ∷ xs) =
    by_test (nat_lt t first) (post_count-from first tree xs)
  where
    by_test : (test : Bool) → post_count tree (calls_from first xs) ≡ posts_in (first + tree) xs
        → post_count tree (cond test (calls_from first xs)
        (call.Read (t - first) stamp value ∷ calls_from first xs))
        ≡ posts_in (first + tree) (Read t stamp place value ∷ xs)
    by_test true later =
        later ∙ sym (count_by-skips (first + tree) (Read t stamp place value) xs refl)
    by_test false later =
        count_by-cons (is_post_in tree) (call.Read (t - first) stamp value) (calls_from first xs)
        ∙ ap (λ n. 0 + n) later
        ∙ sym (count_by-cons (is_post_act_in (first + tree)) (Read t stamp place value) xs)
post_count-from first tree (note ∷ xs) =
    post_count-from first tree xs ∙ sym (count_by-skips (first + tree) note xs refl)
