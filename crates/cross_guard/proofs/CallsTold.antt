-- The calls of a hand as acts tell them.
use Rattle.std.proofs.Common.{◌≡◌, ℕ, ◌+◌, ◌==◌, List, [], ◌∷◌, ◌++◌, refl, sym, ap, ◌∙◌, cond}
use Rattle.std.specs.Prelude.{fold}
use Rattle.risk_board.specs.Calls.{post_count, is_post_in}
use Rattle.risk_board.specs.declared.hand.Call.TheVariants as call
use Rattle.risk_journal.specs.declared.acts.Act.{Act}
use Rattle.risk_journal.specs.declared.acts.Act.TheVariants.{Post, Read}
use Rattle.risk_journal.specs.ActLists.{posts_in, is_post_act_in, latest, last_post, calls_of}
use Rattle.admit_core.proofs.ActLemmas.{count_by-cons, count_by-skips}
use Rattle.cross_guard.specs.Guarding.{latest_call, last_call}

pub calls_of-append : (xs ys : List Act) → calls_of (xs ++ ys) ≡ calls_of xs ++ calls_of ys
calls_of-append [] ys = refl
calls_of-append (Post tree index value ∷ xs) ys =
    ap (λ cs. call.Post tree value ∷ cs) (calls_of-append xs ys)
calls_of-append (Read tree stamp place value ∷ xs) ys =
    ap (λ cs. call.Read tree stamp value ∷ cs) (calls_of-append xs ys)
calls_of-append (note ∷ xs) ys = calls_of-append xs ys

-- the posts of the calls are those of the acts
pub post_count-of : (tree : ℕ) (acts : List Act) → post_count tree (calls_of acts) ≡ posts_in tree acts
post_count-of tree [] = refl
post_count-of tree (Post t index value ∷ xs) =
    count_by-cons (is_post_in tree) (call.Post t value) (calls_of xs)
    ∙ ap (λ n. cond (t == tree) 1 0 + n) (post_count-of tree xs)
    ∙ sym (count_by-cons (is_post_act_in tree) (Post t index value) xs)
post_count-of tree (Read t stamp place value ∷ xs) =
    count_by-cons (is_post_in tree) (call.Read t stamp value) (calls_of xs)
    ∙ ap (λ n. 0 + n) (post_count-of tree xs)
    ∙ sym (count_by-cons (is_post_act_in tree) (Read t stamp place value) xs)
post_count-of tree (note ∷ xs) = post_count-of tree xs ∙ sym (count_by-skips tree note xs refl)

last_from : (tree before : ℕ) (acts : List Act)
    → fold (latest_call tree) before (calls_of acts) ≡ fold (latest tree) before acts
last_from tree before [] = refl
last_from tree before (Post t index value ∷ xs) = last_from tree (cond (t == tree) value before) xs
last_from tree before (Read t stamp place value ∷ xs) = last_from tree before xs
last_from tree before (note ∷ xs) = last_from tree before xs

-- and so is what was last posted
pub last_call-of : (tree : ℕ) (acts : List Act) → last_call tree (calls_of acts) ≡ last_post tree acts
last_call-of tree acts = last_from tree 0 acts
