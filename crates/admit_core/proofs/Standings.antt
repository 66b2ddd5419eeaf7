-- How a tree stands as a session's acts go on: its posts there, the last of them, and what is
-- admitted.
use Rattle.std.proofs.Common.{◌≡◌, ℕ, ◌+◌, ◌==◌, List, [], ◌∷◌, ◌++◌, fold, refl, ap, ◌∙◌}
use Rattle.std.proofs.Common.{arith, Bool, true, false, cond}
use Rattle.std.proofs.lemmas.List.Sums.{fold-append}
use Rattle.risk_board.specs.History.{Event}
use Rattle.risk_board.specs.History.Event.{Posted, Saw}
use Rattle.risk_journal.specs.declared.acts.Act.{Act}
use Rattle.risk_journal.specs.declared.acts.Act.TheVariants.{Post, Read}
use Rattle.risk_journal.specs.ActLists.{SeenAt, posts_in, last_post, latest}
use Rattle.risk_journal.specs.ActLists.{events_of}
use Rattle.admit_core.specs.Admitted.{Standing, nothing, after_event, after_post, after_read}
use Rattle.admit_core.specs.Tapes.{with_post, read_act}
use Rattle.admit_core.proofs.ActLemmas.{posts_in-append, last_post-append}

-- an event that counts or doesn't, in front of others
counted_in_front : (here : Bool) (event : Event) (first both later : List Event)
    → both ≡ first ++ later → cond here (event ∷ both) both ≡ cond here
    (event ∷ first) first ++ later
counted_in_front true event first both later is = ap (λ s. event ∷ s) is
counted_in_front false event first both later is = is

-- the events of acts one after another
pub events_of-append : (tree : ℕ) (first later : List Act)
    → events_of tree (first ++ later) ≡ events_of tree first ++ events_of tree later
events_of-append tree [] later = refl
events_of-append tree (Post in_tree index value ∷ first) later =
    counted_in_front (in_tree == tree) (Posted value) (events_of tree first)
    (events_of tree (first ++ later))
    (events_of tree later) (events_of-append tree first later)
events_of-append tree (Read in_tree stamp place value ∷ first) later =
    counted_in_front (in_tree == tree) (Saw stamp place value) (events_of tree first)
    (events_of tree (first ++ later)) (events_of tree later) (events_of-append tree first later)
events_of-append tree (note ∷ first) later = events_of-append tree first later

-- how a session stands in a tree after these acts
abbrev pub standing_of : ℕ → ℕ → List Act → Standing
standing_of limit tree acts = fold (after_event limit) nothing (events_of tree acts)

pub standing_of-append : (limit tree : ℕ) (first later : List Act)
    → standing_of limit tree (first ++ later)
    ≡ fold (after_event limit) (standing_of limit tree first) (events_of tree later)
standing_of-append limit tree first later =
    ap (fold (after_event limit) nothing) (events_of-append tree first later)
    ∙ fold-append (after_event limit) nothing (events_of tree first) (events_of tree later)

-- an event that counts or doesn't
counted : (here : Bool) (limit : ℕ) (event : Event) (standing : Standing)
    → fold (after_event limit) standing (cond here (event ∷ []) [])
    ≡ cond here (after_event limit standing event) standing
counted true limit event standing = refl
counted false limit event standing = refl

pub standing_of-post : (limit tree own index value : ℕ) (acts : List Act)
    → standing_of limit tree (acts ++ Post own index value ∷ [])
    ≡ cond (own == tree) (after_post value (standing_of limit tree acts))
    (standing_of limit tree acts)
standing_of-post limit tree own index value acts =
    standing_of-append limit tree acts (Post own index value ∷ [])
    ∙ counted (own == tree) limit (Posted value) (standing_of limit tree acts)

pub standing_of-read : (limit tree own : ℕ) (seen : SeenAt) (acts : List Act)
    → standing_of limit tree (acts ++ read_act own seen ∷ [])
    ≡ cond (own == tree) (after_read limit seen.value (standing_of limit tree acts))
    (standing_of limit tree acts)
standing_of-read limit tree own seen acts =
    standing_of-append limit tree acts (read_act own seen ∷ [])
    ∙ counted (own == tree) limit (Saw seen.stamp seen.place seen.value)
    (standing_of limit tree acts)

-- a post in another tree
pub standing_of-other : (limit tree own value : ℕ) (acts : List Act) → (own == tree) ≡ false
    → standing_of limit tree (with_post own value acts) ≡ standing_of limit tree acts
standing_of-other limit tree own value acts other =
    let s = standing_of limit tree acts in
    standing_of-post limit tree own _ value acts ∙ ap (λ b. cond b (after_post value s) s) other

-- a post in the tree
pub standing_of-own : (limit tree own value : ℕ) (acts : List Act) → (own == tree) ≡ true
    → standing_of limit tree (with_post own value acts)
    ≡ after_post value (standing_of limit tree acts)
standing_of-own limit tree own value acts same =
    let s = standing_of limit tree acts in
    standing_of-post limit tree own _ value acts ∙ ap (λ b. cond b (after_post value s) s) same

pub posts_in-own : (tree own value : ℕ) (acts : List Act) → (own == tree) ≡ true
    → posts_in tree (with_post own value acts) ≡ posts_in tree acts + 1
posts_in-own tree own value acts same =
    posts_in-append tree acts (Post own (posts_in own acts + 1) value ∷ [])
    ∙ ap (λ b. posts_in tree acts + (0 + cond b 1 0)) same

pub posts_in-other : (tree own value : ℕ) (acts : List Act) → (own == tree) ≡ false
    → posts_in tree (with_post own value acts) ≡ posts_in tree acts
posts_in-other tree own value acts other =
    posts_in-append tree acts (Post own (posts_in own acts + 1) value ∷ [])
    ∙ ap (λ b. posts_in tree acts + (0 + cond b 1 0)) other ∙ omega arith

pub posts_in-read : (tree own : ℕ) (seen : SeenAt) (acts : List Act)
    → posts_in tree (acts ++ read_act own seen ∷ []) ≡ posts_in tree acts
posts_in-read tree own seen acts =
    posts_in-append tree acts (read_act own seen ∷ []) ∙ omega arith

pub last_post-own : (tree own value : ℕ) (acts : List Act) → (own == tree) ≡ true
    → last_post tree (with_post own value acts) ≡ value
last_post-own tree own value acts same =
    last_post-append tree acts (Post own (posts_in own acts + 1) value ∷ [])
    ∙ ap (λ b. cond b value (last_post tree acts)) same

pub last_post-other : (tree own value : ℕ) (acts : List Act) → (own == tree) ≡ false
    → last_post tree (with_post own value acts) ≡ last_post tree acts
last_post-other tree own value acts other =
    last_post-append tree acts (Post own (posts_in own acts + 1) value ∷ [])
    ∙ ap (λ b. cond b value (last_post tree acts)) other

pub last_post-read : (tree own : ℕ) (seen : SeenAt) (acts : List Act)
    → last_post tree (acts ++ read_act own seen ∷ []) ≡ last_post tree acts
last_post-read tree own seen acts = last_post-append tree acts (read_act own seen ∷ [])

-- what stands posted is what was last posted
posted_from : (limit tree : ℕ) (start : Standing) (acts : List Act)
    → (fold (after_event limit) start (events_of tree acts)).posted
    ≡ fold (latest tree) start.posted acts
posted_from limit tree start [] = refl
posted_from limit tree start (Post in_tree index value ∷ acts) =
    by_test (in_tree == tree) (λ from. posted_from limit tree from acts)
  where
    by_test : (here : Bool)
        → ((from : Standing) → (fold (after_event limit) from (events_of tree acts)).posted
        ≡ fold (latest tree) from.posted acts)
        → (fold (after_event limit) start (cond here (Posted value ∷ events_of tree acts)
        (events_of tree acts))).posted ≡ fold (latest tree) (cond here value start.posted) acts
    by_test true later = later (after_post value start)
    by_test false later = later start
posted_from limit tree start (Read in_tree stamp place value ∷ acts) =
    by_test (in_tree == tree) (λ from. posted_from limit tree from acts)
  where
    by_test : (here : Bool)
        → ((from : Standing) → (fold (after_event limit) from (events_of tree acts)).posted
        ≡ fold (latest tree) from.posted acts)
        → (fold (after_event limit) start (cond here (Saw stamp place value ∷ events_of tree acts)
        (events_of tree acts))).posted ≡ fold (latest tree) start.posted acts
    by_test true later = later (after_read limit value start)
    by_test false later = later start
posted_from limit tree start (note ∷ acts) = posted_from limit tree start acts

pub posted-last_post : (limit tree : ℕ) (acts : List Act)
    → (standing_of limit tree acts).posted ≡ last_post tree acts
posted-last_post limit tree acts = posted_from limit tree nothing acts
