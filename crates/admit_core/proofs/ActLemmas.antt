-- The posts, the last posts and the reads of acts one after another.
use Rattle.std.proofs.Common.{◌≡◌, ℕ, ◌+◌, List, [], ◌∷◌, ◌++◌, refl, ap, ◌∙◌}
use Rattle.std.proofs.Common.{arith, false, Bool, cond}
use Rattle.std.specs.Prelude.{count_by, fold}
use Rattle.std.proofs.lemmas.List.Sums.{fold-append, sum_by-append}
use Rattle.risk_journal.specs.declared.acts.Act.{Act}
use Rattle.risk_journal.specs.declared.acts.Act.TheVariants.{Post, Read}
use Rattle.risk_journal.specs.ActLists.{SeenAt, posts_in, last_post, latest, is_post_act_in}
use Rattle.risk_journal.specs.ActLists.{reads_of}

pub count_by-append : {X : Type 0} (p : X → Bool) (xs ys : List X)
    → count_by p (xs ++ ys) ≡ count_by p xs + count_by p ys
count_by-append p xs ys = sum_by-append (λ x. cond (p x) 1 0) xs ys

pub count_by-cons : {X : Type 0} (p : X → Bool) (x : X) (xs : List X)
    → count_by p (x ∷ xs) ≡ cond (p x) 1 0 + count_by p xs
count_by-cons p x xs = count_by-append p (x ∷ []) xs ∙ omega arith

pub count_by-skips : (tree : ℕ) (act : Act) (xs : List Act) → is_post_act_in tree act ≡ false
    → posts_in tree (act ∷ xs) ≡ posts_in tree xs
count_by-skips tree act xs skipped = count_by-cons (is_post_act_in tree) act xs
    ∙ rw skipped (omega arith)

pub posts_in-append : (tree : ℕ) (xs ys : List Act)
    → posts_in tree (xs ++ ys) ≡ posts_in tree xs + posts_in tree ys
posts_in-append tree xs ys = count_by-append (is_post_act_in tree) xs ys

pub last_post-append : (tree : ℕ) (xs ys : List Act) → last_post tree (xs ++ ys) ≡ fold
    (latest tree) (last_post tree xs) ys
last_post-append tree xs ys = fold-append (latest tree) 0 xs ys

pub reads_of-append : (xs ys : List Act) → reads_of (xs ++ ys) ≡ reads_of xs ++ reads_of ys
reads_of-append [] ys = refl
reads_of-append (Read tree stamp place value ∷ xs) ys =
    let seen : SeenAt = record { stamp = stamp; place = place; value = value } in ap
    (λ rs. seen ∷ rs) (reads_of-append xs ys)
reads_of-append (Post tree index value ∷ xs) ys = reads_of-append xs ys
reads_of-append (note ∷ xs) ys = reads_of-append xs ys
