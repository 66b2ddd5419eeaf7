-- The calls that acts tell, in the trees below a number and in one tree.
use Rattle.std.proofs.Common.{◌≡◌, ℕ, ◌+◌, ◌<◌, ◌==◌, List, [], ◌∷◌, ◌++◌, refl, sym, ap, ◌∙◌}
use Rattle.std.proofs.Common.{arith, true, false, Bool, cond}
use Rattle.std.specs.Prelude.{nat_lt}
use Rattle.std.proofs.lemmas.Bool.Decides.{nat_tests}
use Rattle.risk_board.specs.Calls.{post_count, is_post_in}
use Rattle.risk_board.specs.declared.hand.Call.{Call}
use Rattle.risk_board.specs.declared.hand.Call.TheVariants as call
use Rattle.risk_journal.specs.declared.acts.Act.{Act}
use Rattle.risk_journal.specs.declared.acts.Act.TheVariants.{Post, Read}
use Rattle.risk_journal.specs.ActLists.{posts_in, is_post_act_in}
use Rattle.risk_journal.specs.ActLists.{calls_below, calls_at}
use Rattle.admit_core.proofs.ActLemmas.{count_by-cons, count_by-skips}

-- a call that is there or isn't, in front of others
call_in_front : (here : Bool) (one : Call) (first both later : List Call)
    → both ≡ first ++ later → cond here (one ∷ both) both ≡ cond here (one ∷ first) first ++ later
call_in_front true one first both later is = ap (λ s. one ∷ s) is
call_in_front false one first both later is = is

pub calls_below-append : (count : ℕ) (xs ys : List Act)
    → calls_below count (xs ++ ys) ≡ calls_below count xs ++ calls_below count ys
calls_below-append count [] ys = refl
calls_below-append count (Post tree index value ∷ xs) ys =
    call_in_front (nat_lt tree count) (call.Post tree value) (calls_below count xs)
    (calls_below count (xs ++ ys)) (calls_below count ys) (calls_below-append count xs ys)
calls_below-append count (Read tree stamp place value ∷ xs) ys =
    call_in_front (nat_lt tree count) (call.Read tree stamp value) (calls_below count xs)
    (calls_below count (xs ++ ys)) (calls_below count ys) (calls_below-append count xs ys)
calls_below-append count (note ∷ xs) ys = calls_below-append count xs ys

pub calls_at-append : (tree : ℕ) (xs ys : List Act)
    → calls_at tree (xs ++ ys) ≡ calls_at tree xs ++ calls_at tree ys
calls_at-append tree [] ys = refl
calls_at-append tree (Post in_tree index value ∷ xs) ys =
    call_in_front (in_tree == tree) (call.Post 0 value) (calls_at tree xs)
    (calls_at tree (xs ++ ys)) (calls_at tree ys) (calls_at-append tree xs ys)
calls_at-append tree (Read in_tree stamp place value ∷ xs) ys =
    call_in_front (in_tree == tree) (call.Read 0 stamp value) (calls_at tree xs)
    (calls_at tree (xs ++ ys)) (calls_at tree ys) (calls_at-append tree xs ys)
calls_at-append tree (note ∷ xs) ys = calls_at-append tree xs ys

-- a tree that isn't below a number isn't one that is
above_is_other : (in_tree tree count : ℕ) → tree < count → nat_lt in_tree count ≡ false
    → (in_tree == tree) ≡ false
above_is_other in_tree tree count inside outside = grind (arith, nat_tests)

-- the posts of the calls in a tree below are those of the acts
pub post_count-below : (count tree : ℕ) → tree < count → (acts : List Act)
    → post_count tree (calls_below count acts) ≡ posts_in tree acts
post_count-below count tree inside [] = refl
post_count-below count tree inside (Post t index value ∷ xs) =
    by_test (nat_lt t count) refl (post_count-below count tree inside xs)
  where
    by_test : (test : Bool) → nat_lt t count ≡ test
        → post_count tree (calls_below count xs) ≡ posts_in tree xs
        → post_count tree (cond test (call.Post t value ∷ calls_below count xs)
        (calls_below count xs)) ≡ posts_in tree (Post t index value ∷ xs)
    by_test true is later =
        count_by-cons (is_post_in tree) (call.Post t value) (calls_below count xs)
        ∙ ap (λ n. cond (t == tree) 1 0 + n) later
        ∙ sym (count_by-cons (is_post_act_in tree) (Post t index value) xs)
    by_test false is later =
        later
        ∙ sym (count_by-skips tree (Post t index value) xs
        (above_is_other t tree count inside is))
post_count-below count tree inside (Read t stamp place value ∷ xs) =
    by_test (nat_lt t count) (post_count-below count tree inside xs)
  where
    by_test : (test : Bool) → post_count tree (calls_below count xs) ≡ posts_in tree xs
        → post_count tree (cond test (call.Read t stamp value ∷ calls_below count xs)
        (calls_below count xs)) ≡ posts_in tree (Read t stamp place value ∷ xs)
    by_test true later =
        count_by-cons (is_post_in tree) (call.Read t stamp value) (calls_below count xs)
        ∙ ap (λ n. 0 + n) later
        ∙ sym (count_by-cons (is_post_act_in tree) (Read t stamp place value) xs)
    by_test false later =
        later
        ∙ sym (count_by-skips tree (Read t stamp place value) xs refl)
post_count-below count tree inside (note ∷ xs) =
    post_count-below count tree inside xs ∙ sym (count_by-skips tree note xs refl)

-- the posts of a hand on one tree alone are those of the acts in it
pub post_count-at : (tree : ℕ) (acts : List Act)
    → post_count 0 (calls_at tree acts) ≡ posts_in tree acts
post_count-at tree [] = refl
post_count-at tree (Post t index value ∷ xs) =
    by_test (t == tree) refl (post_count-at tree xs)
  where
    by_test : (test : Bool) → (t == tree) ≡ test
        → post_count 0 (calls_at tree xs) ≡ posts_in tree xs
        → post_count 0 (cond test (call.Post 0 value ∷ calls_at tree xs) (calls_at tree xs))
        ≡ posts_in tree (Post t index value ∷ xs)
    by_test true is later =
        count_by-cons (is_post_in 0) (call.Post 0 value) (calls_at tree xs)
        ∙ ap (λ n. 1 + n) later ∙ ap (λ b. cond b 1 0 + posts_in tree xs) (sym is)
        ∙ sym (count_by-cons (is_post_act_in tree) (Post t index value) xs)
    by_test false is later = later ∙ sym (count_by-skips tree (Post t index value) xs is)
post_count-at tree (Read t stamp place value ∷ xs) =
    by_test (t == tree) (post_count-at tree xs)
  where
    by_test : (test : Bool) → post_count 0 (calls_at tree xs) ≡ posts_in tree xs
        → post_count 0 (cond test (call.Read 0 stamp value ∷ calls_at tree xs) (calls_at tree xs))
        ≡ posts_in tree (Read t stamp place value ∷ xs)
    by_test true later =
        count_by-cons (is_post_in 0) (call.Read 0 stamp value) (calls_at tree xs)
        ∙ ap (λ n. 0 + n) later
        ∙ sym (count_by-cons (is_post_act_in tree) (Read t stamp place value) xs)
    by_test false later =
        later ∙ sym (count_by-skips tree (Read t stamp place value) xs refl)
post_count-at tree (note ∷ xs) =
    post_count-at tree xs ∙ sym (count_by-skips tree note xs refl)
