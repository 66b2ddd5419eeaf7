-- What a list of legs leaves in one tree: a leg of the tree posts there, and no other does.
use Rattle.std.proofs.Common.{◌≡◌, ℕ, ◌+◌, ◌==◌, List, [], ◌∷◌, fold, refl, ap, sym, ◌∙◌}
use Rattle.std.proofs.Common.{arith, Bool, true, false, cond, Option, Some, None, subst, All}
use Rattle.std.specs.Prelude.{if◌then◌else◌}
use Rattle.std.proofs.lemmas.Bool.{eqb-true}
use Rattle.std.proofs.lemmas.List.Elements.{All-cons, All-nil}
use Rattle.risk_journal.specs.declared.acts.Act.{Act}
use Rattle.risk_journal.specs.ActLists.{posts_in, last_post}
use Rattle.admit_core.specs.Asking.{post_new, post_old, read_root, roots_of, posted_and_read}
use Rattle.admit_core.specs.Legs.{Leg}
use Rattle.admit_core.specs.Tapes.{Tape, after_posting, next_read}
use Rattle.limit_table.specs.Trees.{LimitsValue}
use Rattle.admit_core.proofs.Standings.{standing_of, standing_of-other, posts_in-own, posts_in-other}
use Rattle.admit_core.proofs.Standings.{posts_in-read, last_post-own, last_post-other}
use Rattle.admit_core.proofs.Standings.{last_post-read}

-- what three legs have
pub all_three : (P : Leg → Type 0) (one two three : Leg) → P one → P two → P three
    → All P (one ∷ two ∷ three ∷ [])
all_three P one two three first second third =
    All-cons P one (two ∷ three ∷ []) first
    (All-cons P two (three ∷ []) second (All-cons P three [] third (All-nil P)))

-- the first leg of a tree
abbrev pub leg_in : ℕ → List Leg → Option Leg
leg_in tree [] = None
leg_in tree (leg ∷ legs) = if leg.tree == tree then Some leg else leg_in tree legs

-- no tree has two legs
abbrev pub AreDistinct : List Leg → Type 0
AreDistinct [] = Unit {0}
AreDistinct (leg ∷ legs) = (leg_in leg.tree legs ≡ None) × AreDistinct legs

-- this value of each leg is posted
abbrev pub post_by : (Leg → ℕ) → Tape → Leg → Tape
post_by value before leg = after_posting leg.tree (value leg) before

-- a leg isn't the first of a tree that has none
pub none_in_front : (tree : ℕ) (leg : Leg) (legs : List Leg) → leg_in tree (leg ∷ legs) ≡ None
    → ((leg.tree == tree) ≡ false) × (leg_in tree legs ≡ None)
none_in_front tree leg legs none = by_test (leg.tree == tree) refl none
  where
    by_test : (here : Bool) → (leg.tree == tree) ≡ here
        → cond here (Some leg) (leg_in tree legs) ≡ None
        → ((leg.tree == tree) ≡ false) × (leg_in tree legs ≡ None)
    by_test true is is_none = absurd cc
    by_test false is is_none = (is, is_none)

-- behind the leg of a tree there is none of it
pub none_behind : (tree : ℕ) (leg : Leg) (legs : List Leg) → (leg.tree == tree) ≡ true
    → leg_in leg.tree legs ≡ None → leg_in tree legs ≡ None
none_behind tree leg legs same none =
    ap (λ t. leg_in t legs) (sym (eqb-true leg.tree tree same)) ∙ none

-- a tree keeps its posts and the last of them
pub record KeepsTree (tree : ℕ) (acts after : List Act) : Type 0 where
  pub posts : posts_in tree after ≡ posts_in tree acts
  pub last : last_post tree after ≡ last_post tree acts

-- so many posts more, the last of this value
pub record PostsIn (tree count value : ℕ) (acts after : List Act) : Type 0 where
  pub posts : posts_in tree after ≡ posts_in tree acts + count
  pub last : last_post tree after ≡ value

pub keeps_then : (tree : ℕ) (one two three : List Act) → KeepsTree tree one two
    → KeepsTree tree two three → KeepsTree tree one three
keeps_then tree one two three first second =
    record { posts = second.posts ∙ first.posts; last = second.last ∙ first.last }

-- reads change no posts
pub reads_keep : (tree : ℕ) (roots : List ℕ) (before : Tape)
    → KeepsTree tree before.acts (fold read_root before roots).acts
reads_keep tree [] before = record { posts = refl; last = refl }
reads_keep tree (root ∷ roots) before =
    keeps_then tree before.acts (read_root before root).acts
    (fold read_root (read_root before root) roots).acts (record {
      posts = posts_in-read tree root (next_read before.reads) before.acts;
      last = last_post-read tree root (next_read before.reads) before.acts;
    }) (reads_keep tree roots (read_root before root))

-- posts of legs, whichever of their values it is
module _ (value : Leg → ℕ) where
  -- posts take no read
  pub reads-post_by : (legs : List Leg) (before : Tape)
      → (fold (post_by value) before legs).reads ≡ before.reads
  reads-post_by [] before = refl
  reads-post_by (leg ∷ legs) before = reads-post_by legs (post_by value before leg)

  -- how a tree with no leg stands
  pub standing_of-post_by : (limit tree : ℕ) (legs : List Leg) (before : Tape)
      → leg_in tree legs ≡ None
      → standing_of limit tree (fold (post_by value) before legs).acts
      ≡ standing_of limit tree before.acts
  standing_of-post_by limit tree [] before none = refl
  standing_of-post_by limit tree (leg ∷ legs) before none =
      let both = none_in_front tree leg legs none in
      standing_of-post_by limit tree legs (post_by value before leg) both.1
      ∙ standing_of-other limit tree leg.tree (value leg) before.acts both.0

  -- a tree with no leg
  pub posts_keep : (tree : ℕ) (legs : List Leg) (before : Tape) → leg_in tree legs ≡ None
      → KeepsTree tree before.acts (fold (post_by value) before legs).acts
  posts_keep tree [] before none = record { posts = refl; last = refl }
  posts_keep tree (leg ∷ legs) before none =
      let both = none_in_front tree leg legs none in
      keeps_then tree before.acts (post_by value before leg).acts
      (fold (post_by value) (post_by value before leg) legs).acts (record {
        posts = posts_in-other tree leg.tree (value leg) before.acts both.0;
        last = last_post-other tree leg.tree (value leg) before.acts both.0;
      }) (posts_keep tree legs (post_by value before leg) both.1)

  -- the tree of a leg, by whether the first leg is of it
  leg_posts_by : (tree : ℕ) (own leg : Leg) (legs : List Leg) (before after : Tape)
      → after ≡ fold (post_by value) (post_by value before leg) legs
      → leg_in leg.tree legs ≡ None → (here : Bool) → (leg.tree == tree) ≡ here
      → cond here (Some leg) (leg_in tree legs) ≡ Some own
      → (leg_in tree legs ≡ Some own
      → PostsIn tree 1 (value own) (post_by value before leg).acts after.acts)
      → PostsIn tree 1 (value own) before.acts after.acts
  leg_posts_by tree own leg legs before after after_is apart true is same later =
      let kept : KeepsTree tree (post_by value before leg).acts after.acts =
      subst (λ (t : Tape). KeepsTree tree (post_by value before leg).acts t.acts) (sym after_is)
      (posts_keep tree legs (post_by value before leg) (none_behind tree leg legs is apart)) in
      let equal : leg ≡ own = cc in
      record {
        posts = kept.posts ∙ posts_in-own tree leg.tree (value leg) before.acts is;
        last = kept.last ∙ last_post-own tree leg.tree (value leg) before.acts is
            ∙ ap value equal;
      }
  leg_posts_by tree own leg legs before after after_is apart false is same later =
      record {
        posts = (later same).posts
            ∙ ap (λ n. n + 1) (posts_in-other tree leg.tree (value leg) before.acts is);
        last = (later same).last;
      }

  -- the tree of a leg
  pub leg_posts : (tree : ℕ) (own : Leg) (legs : List Leg) (before : Tape)
      → leg_in tree legs ≡ Some own → AreDistinct legs
      → PostsIn tree 1 (value own) before.acts (fold (post_by value) before legs).acts
  leg_posts tree own [] before at apart = absurd cc
  leg_posts tree own (leg ∷ legs) before at apart =
      leg_posts_by tree own leg legs before (fold (post_by value) before (leg ∷ legs)) refl apart.0
      (leg.tree == tree) refl at
      (λ found. leg_posts tree own legs (post_by value before leg) found apart.1)

-- what asking leaves in one tree
module _ (limits : LimitsValue) (legs : List Leg) (before : Tape) (tree : ℕ) where
  abbrev asked : Tape
  asked = posted_and_read limits legs before

  abbrev posted : Tape
  posted = fold post_new before legs

  pub asked_keeps : leg_in tree legs ≡ None → KeepsTree tree before.acts asked.acts
  asked_keeps none =
      keeps_then tree before.acts posted.acts asked.acts
      (posts_keep (λ leg. leg.new) tree legs before none)
      (reads_keep tree (roots_of limits legs) posted)

  pub asked_posts : (own : Leg) → leg_in tree legs ≡ Some own → AreDistinct legs
      → PostsIn tree 1 own.new before.acts asked.acts
  asked_posts own at apart =
      let post = leg_posts (λ leg. leg.new) tree own legs before at apart in
      let read = reads_keep tree (roots_of limits legs) posted in
      record { posts = read.posts ∙ post.posts; last = read.last ∙ post.last }

  pub back_keeps : leg_in tree legs ≡ None
      → KeepsTree tree before.acts (fold post_old asked legs).acts
  back_keeps none =
      keeps_then tree before.acts asked.acts (fold post_old asked legs).acts (asked_keeps none)
      (posts_keep (λ leg. leg.old) tree legs asked none)

  pub back_posts : (own : Leg) → leg_in tree legs ≡ Some own → AreDistinct legs
      → PostsIn tree 2 own.old before.acts (fold post_old asked legs).acts
  back_posts own at apart =
      let post = asked_posts own at apart in
      let back = leg_posts (λ leg. leg.old) tree own legs asked at apart in
      record { posts = omega (arith, post.posts, back.posts); last = back.last }
