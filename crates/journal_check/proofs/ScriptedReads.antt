-- What scripts of a journal's reads make sure of in the acts of a run: where these are the journal's up
-- to a read of one tree, both saw the same; and no post is above the largest value.
use Rattle.std.proofs.Common.{◌≡◌, ⊎_elim, ℕ, ◌==◌, ◌<◌, ◌≤◌, List, [], ◌∷◌, ◌++◌}
use Rattle.std.proofs.Common.{map, drop, refl, sym, ap, ◌∙◌, subst, arith, Bool, true, false, cond}
use Rattle.std.specs.Prelude.{nat_lt, not, All, if◌then◌else◌}
use Rattle.std.specs.List.{flat_map}
use Rattle.std.proofs.lemmas.Bool.{cases_order, lt-ltb, le-ltb, eq-eqb, ne_eqb, cond-true}
use Rattle.std.proofs.lemmas.List.Elements.{All-cons, All-nil, All-head, All-tail}
use Rattle.risk_board.specs.declared.hand.Call.{Call}
use Rattle.risk_board.specs.declared.hand.Call.TheVariants as call
use Rattle.risk_board.specs.declared.hand.Seen.{Seen}
use Rattle.risk_journal.specs.ActLists.{SeenAt, calls_below, calls_at, unplaced}
use Rattle.risk_journal.specs.declared.acts.Act.{Act}
use Rattle.risk_journal.specs.declared.acts.Act.TheVariants.{Post, Read, Sent, Refused, Noted, Ended}
use Rattle.admit_core.specs.Tapes.{read_act}
use Rattle.admit_core.proofs.CallLemmas.{calls_below-append, calls_at-append}
use Rattle.journal_check.specs.Replays.{CallsByScripts}
use Rattle.journal_check.specs.SameActs.{AreSame, IsInTrees}
use Rattle.journal_check.specs.Script.{AnswersByScript, ArePostsCapped, answers_in, seen_there}
use Rattle.journal_check.specs.Script.{seen_elsewhere}
use Rattle.journal_check.specs.PostBounds.{PostsAtMost}
use Rattle.journal_check.proofs.FirstApart.{SeeAlike}

-- a read of the halt tree is one call there, and none below
there_by : (here : Bool) (stamp value : ℕ) (seen : List Seen) (calls : List Call)
    → seen ≡ answers_in calls
    → (if here then record { stamp = stamp; value = value } ∷ [] else []) ++ seen
    ≡ answers_in (cond here (call.Read 0 stamp value ∷ calls) calls)
there_by true stamp value seen calls same =
    let own : Seen = record { stamp = stamp; value = value } in ap (λ more. own ∷ more) same
there_by false stamp value seen calls same = same

elsewhere_by : (here below : Bool) (tree stamp value : ℕ) (seen : List Seen) (calls : List Call)
    → below ≡ not here → seen ≡ answers_in calls
    → (if here then [] else record { stamp = stamp; value = value } ∷ []) ++ seen
    ≡ answers_in (cond below (call.Read tree stamp value ∷ calls) calls)
elsewhere_by true true tree stamp value seen calls is same = absurd cc
elsewhere_by true false tree stamp value seen calls is same = same
elsewhere_by false true tree stamp value seen calls is same =
    let own : Seen = record { stamp = stamp; value = value } in ap (λ more. own ∷ more) same
elsewhere_by false false tree stamp value seen calls is same = absurd cc

-- a post is answered nothing
unanswered : (here : Bool) (tree value : ℕ) (seen : List Seen) (calls : List Call)
    → seen ≡ answers_in calls → seen ≡ answers_in (cond here (call.Post tree value ∷ calls) calls)
unanswered true tree value seen calls same = same
unanswered false tree value seen calls same = same

-- a tree up to the halt tree is below it, or it is the halt tree
below_or_halt : (tree last : ℕ) → tree ≤ last → nat_lt tree last ≡ not (tree == last)
below_or_halt tree last inside =
    ⊎_elim
    (λ (here : tree ≡ last). le-ltb tree last (omega (arith, here))
    ∙ ap not (sym (eq-eqb tree last here)))
    (λ either. ⊎_elim
    (λ (less : tree < last). lt-ltb tree last less
    ∙ ap not (sym (ne_eqb tree last (λ same. omega (arith, same, less)))))
    (λ (far : last < tree). absurd (omega (arith, far, inside))) either)
    (cases_order tree last)

-- what the reads of the halt tree saw, is what its calls are answered
pub there_is : (halt_tree : ℕ) (acts : List Act)
    → flat_map (seen_there halt_tree) acts ≡ answers_in (calls_at halt_tree acts)
there_is halt_tree [] = refl
there_is halt_tree (Post tree index value ∷ acts) =
    unanswered (tree == halt_tree) 0 value (flat_map (seen_there halt_tree) acts)
    (calls_at halt_tree acts) (there_is halt_tree acts)
there_is halt_tree (Read tree stamp place value ∷ acts) =
    there_by (tree == halt_tree) stamp value (flat_map (seen_there halt_tree) acts)
    (calls_at halt_tree acts) (there_is halt_tree acts)
there_is halt_tree (Sent frame ∷ acts) = there_is halt_tree acts
there_is halt_tree (Refused frame code first second ∷ acts) = there_is halt_tree acts
there_is halt_tree (Noted frame code first second ∷ acts) = there_is halt_tree acts
there_is halt_tree (Ended end ∷ acts) = there_is halt_tree acts

-- and what the other reads saw, is what the calls below it are answered
pub elsewhere_is : (halt_tree : ℕ) (acts : List Act) → All (IsInTrees halt_tree) acts
    → flat_map (seen_elsewhere halt_tree) acts ≡ answers_in (calls_below halt_tree acts)
elsewhere_is halt_tree [] all = refl
elsewhere_is halt_tree (Post tree index value ∷ acts) all =
    unanswered (nat_lt tree halt_tree) tree value (flat_map (seen_elsewhere halt_tree) acts)
    (calls_below halt_tree acts)
    (elsewhere_is halt_tree acts
    (All-tail (IsInTrees halt_tree) (Post tree index value) acts all))
elsewhere_is halt_tree (Read tree stamp place value ∷ acts) all =
    elsewhere_by (tree == halt_tree) (nat_lt tree halt_tree) tree stamp value
    (flat_map (seen_elsewhere halt_tree) acts) (calls_below halt_tree acts)
    (below_or_halt tree halt_tree
    (All-head (IsInTrees halt_tree) (Read tree stamp place value) acts all))
    (elsewhere_is halt_tree acts
    (All-tail (IsInTrees halt_tree) (Read tree stamp place value) acts all))
elsewhere_is halt_tree (Sent frame ∷ acts) all =
    elsewhere_is halt_tree acts (All-tail (IsInTrees halt_tree) (Sent frame) acts all)
elsewhere_is halt_tree (Refused frame code one two ∷ acts) all =
    elsewhere_is halt_tree acts
    (All-tail (IsInTrees halt_tree) (Refused frame code one two) acts all)
elsewhere_is halt_tree (Noted frame code one two ∷ acts) all =
    elsewhere_is halt_tree acts
    (All-tail (IsInTrees halt_tree) (Noted frame code one two) acts all)
elsewhere_is halt_tree (Ended end ∷ acts) all =
    elsewhere_is halt_tree acts (All-tail (IsInTrees halt_tree) (Ended end) acts all)

-- calls don't know the places of reads
pub calls_below-unplaced : (count : ℕ) (acts : List Act)
    → calls_below count (map unplaced acts) ≡ calls_below count acts
calls_below-unplaced count [] = refl
calls_below-unplaced count (Post tree index value ∷ acts) =
    ap (λ later. if nat_lt tree count then call.Post tree value ∷ later else later)
    (calls_below-unplaced count acts)
calls_below-unplaced count (Read tree stamp place value ∷ acts) =
    ap (λ later. if nat_lt tree count then call.Read tree stamp value ∷ later else later)
    (calls_below-unplaced count acts)
calls_below-unplaced count (Sent frame ∷ acts) = calls_below-unplaced count acts
calls_below-unplaced count (Refused frame code first second ∷ acts) =
    calls_below-unplaced count acts
calls_below-unplaced count (Noted frame code first second ∷ acts) =
    calls_below-unplaced count acts
calls_below-unplaced count (Ended end ∷ acts) = calls_below-unplaced count acts

pub calls_at-unplaced : (tree : ℕ) (acts : List Act)
    → calls_at tree (map unplaced acts) ≡ calls_at tree acts
calls_at-unplaced tree [] = refl
calls_at-unplaced tree (Post in_tree index value ∷ acts) =
    ap (λ later. if in_tree == tree then call.Post 0 value ∷ later else later)
    (calls_at-unplaced tree acts)
calls_at-unplaced tree (Read in_tree stamp place value ∷ acts) =
    ap (λ later. if in_tree == tree then call.Read 0 stamp value ∷ later else later)
    (calls_at-unplaced tree acts)
calls_at-unplaced tree (Sent frame ∷ acts) = calls_at-unplaced tree acts
calls_at-unplaced tree (Refused frame code first second ∷ acts) = calls_at-unplaced tree acts
calls_at-unplaced tree (Noted frame code first second ∷ acts) = calls_at-unplaced tree acts
calls_at-unplaced tree (Ended end ∷ acts) = calls_at-unplaced tree acts

-- a call that reads
abbrev read_call : ℕ → Seen → Call
read_call tree seen = call.Read tree seen.stamp seen.value

-- behind the same calls a read gets the answer that the script was made of
pub answered_there : (front rest rest_other : List Call) (tree other_tree : ℕ)
    (seen seen_other : Seen)
    → AnswersByScript (answers_in (front ++ read_call other_tree seen_other ∷ rest_other))
    (front ++ read_call tree seen ∷ rest)
    → seen ≡ seen_other
answered_there [] rest rest_other tree other_tree seen seen_other answers =
    let make : ℕ → ℕ → Seen = λ stamp value. record { stamp = stamp; value = value } in
    ap (λ stamp. make stamp seen.value) answers.0 ∙ ap (make seen_other.stamp) answers.1
answered_there (call.Post t v ∷ front) rest rest_other tree other_tree seen seen_other answers =
    answered_there front rest rest_other tree other_tree seen seen_other answers
answered_there (call.Read t s v ∷ front) rest rest_other tree other_tree seen seen_other answers =
    answered_there front rest rest_other tree other_tree seen seen_other answers.2

-- the calls below a number, with a read of such a tree among the acts
below_with : (count tree : ℕ) (front rest : List Act) (seen : SeenAt) → tree < count
    → calls_below count (front ++ read_act tree seen ∷ rest)
    ≡ calls_below count front ++ call.Read tree seen.stamp seen.value ∷ calls_below count rest
below_with count tree front rest seen less =
    calls_below-append count front (read_act tree seen ∷ rest)
    ∙ ap (λ later. calls_below count front ++ later)
    (cond-true (nat_lt tree count)
    (call.Read tree seen.stamp seen.value ∷ calls_below count rest) (calls_below count rest)
    (lt-ltb tree count less))

-- and those in a tree, with a read of it
at_with : (tree : ℕ) (front rest : List Act) (seen : SeenAt)
    → calls_at tree (front ++ read_act tree seen ∷ rest)
    ≡ calls_at tree front ++ call.Read 0 seen.stamp seen.value ∷ calls_at tree rest
at_with tree front rest seen =
    calls_at-append tree front (read_act tree seen ∷ rest)
    ∙ ap (λ later. calls_at tree front ++ later)
    (cond-true (tree == tree)
    (call.Read 0 seen.stamp seen.value ∷ calls_at tree rest) (calls_at tree rest)
    (eq-eqb tree tree refl))

-- an act without its place
act_unplaced : (act : Act) (tree : ℕ) (seen : SeenAt) → unplaced act ≡ read_act tree seen
    → seen.place ≡ 0
act_unplaced (Read t s p v) tree seen is = cc
act_unplaced (Post t i v) tree seen is = absurd cc
act_unplaced (Sent frame) tree seen is = absurd cc
act_unplaced (Refused frame code first second) tree seen is = absurd cc
act_unplaced (Noted frame code first second) tree seen is = absurd cc
act_unplaced (Ended end) tree seen is = absurd cc

-- reads without their places have none
pub no_place : (acts front rest : List Act) (tree : ℕ) (seen : SeenAt)
    → map unplaced acts ≡ front ++ read_act tree seen ∷ rest → seen.place ≡ 0
no_place [] [] rest tree seen is = absurd cc
no_place [] (other ∷ front) rest tree seen is = absurd cc
no_place (act ∷ acts) [] rest tree seen is = act_unplaced act tree seen cc
no_place (act ∷ acts) (other ∷ front) rest tree seen is =
    no_place acts front rest tree seen (ap (drop 1) is)

-- a read among acts in trees up to a last one is of such a tree
in_trees : (last : ℕ) (acts front rest : List Act) (tree : ℕ) (seen : SeenAt)
    → All (IsInTrees last) acts → map unplaced acts ≡ front ++ read_act tree seen ∷ rest
    → tree ≤ last
in_trees last [] [] rest tree seen all is = absurd cc
in_trees last [] (other ∷ front) rest tree seen all is = absurd cc
in_trees last (act ∷ acts) [] rest tree seen all is =
    here act (All-head (IsInTrees last) act acts all) cc
  where
    here : (own : Act) → IsInTrees last own → unplaced own ≡ read_act tree seen → tree ≤ last
    here (Read t s p v) inside same =
        let tree_is : t ≡ tree = cc in
        subst (λ n. n ≤ last) tree_is inside
    here (Post t i v) inside same = absurd cc
    here (Sent frame) inside same = absurd cc
    here (Refused frame code first second) inside same = absurd cc
    here (Noted frame code first second) inside same = absurd cc
    here (Ended end) inside same = absurd cc
in_trees last (act ∷ acts) (other ∷ front) rest tree seen all is =
    in_trees last acts front rest tree seen (All-tail (IsInTrees last) act acts all)
    (ap (drop 1) is)

-- what two reads saw that are the same but for places, and have none
same_seen : (seen other : SeenAt) → seen.place ≡ 0 → other.place ≡ 0
    → seen.stamp ≡ other.stamp → seen.value ≡ other.value → seen ≡ other
same_seen seen other none nor stamp value =
    let make : ℕ → ℕ → ℕ → SeenAt = λ s p v. record { stamp = s; place = p; value = v } in
    let place : seen.place ≡ other.place = none ∙ sym nor in
    ap (λ s. make s seen.place seen.value) stamp
    ∙ ap (λ p. make other.stamp p seen.value) place
    ∙ ap (make other.stamp other.place) value

abbrev seen_of : SeenAt → Seen
seen_of seen = record { stamp = seen.stamp; value = seen.value }

-- Acts of a run over scripts of these acts see what they saw, where they go with them so far.
pub scripts_see_alike : (halt_tree : ℕ) (acts told : List Act)
    → CallsByScripts halt_tree (answers_in (calls_below halt_tree told))
    (answers_in (calls_at halt_tree told)) acts
    → All (IsInTrees halt_tree) told → SeeAlike (map unplaced acts) (map unplaced told)
scripts_see_alike halt_tree acts told calls all front rest rest_other tree seen seen_other is also =
    same_seen seen seen_other (no_place acts front rest tree seen is)
    (no_place told front rest_other tree seen_other also)
    (ap (λ (s : Seen). s.stamp) same) (ap (λ (s : Seen). s.value) same)
  where
    below : tree < halt_tree → seen_of seen ≡ seen_of seen_other
    below less =
        let own = sym (calls_below-unplaced halt_tree acts) ∙ ap (calls_below halt_tree) is
        ∙ below_with halt_tree tree front rest seen less in
        let others = sym (calls_below-unplaced halt_tree told) ∙ ap (calls_below halt_tree) also
        ∙ below_with halt_tree tree front rest_other seen_other less in
        answered_there (calls_below halt_tree front) (calls_below halt_tree rest)
        (calls_below halt_tree rest_other) tree tree (seen_of seen) (seen_of seen_other)
        (subst (AnswersByScript (answers_in (calls_below halt_tree front
        ++ call.Read tree seen_other.stamp seen_other.value ∷ calls_below halt_tree rest_other))) own
        (subst (λ c. AnswersByScript (answers_in c) (calls_below halt_tree acts)) others calls.sum))

    at : tree ≡ halt_tree → seen_of seen ≡ seen_of seen_other
    at here =
        let own = sym (calls_at-unplaced tree acts) ∙ ap (calls_at tree) is
        ∙ at_with tree front rest seen in
        let others = sym (calls_at-unplaced tree told) ∙ ap (calls_at tree) also
        ∙ at_with tree front rest_other seen_other in
        let halt : AnswersByScript (answers_in (calls_at tree told)) (calls_at tree acts) =
        subst (λ t. AnswersByScript (answers_in (calls_at t told)) (calls_at t acts)) (sym here)
        calls.halt in
        answered_there (calls_at tree front) (calls_at tree rest) (calls_at tree rest_other) 0 0
        (seen_of seen) (seen_of seen_other)
        (subst (AnswersByScript (answers_in (calls_at tree front
        ++ call.Read 0 seen_other.stamp seen_other.value ∷ calls_at tree rest_other))) own
        (subst (λ c. AnswersByScript (answers_in c) (calls_at tree acts)) others halt))

    same : seen_of seen ≡ seen_of seen_other
    same =
        ⊎_elim at (λ either. ⊎_elim below
        (λ (far : halt_tree < tree). absurd (omega (
          arith,
          far,
          in_trees halt_tree told front rest_other tree seen_other all also,
        ))) either) (cases_order tree halt_tree)

-- the calls of a hand behind one that is its own or isn't
post_later : (most : ℕ) (here : Bool) (tree value : ℕ) (calls : List Call)
    → ArePostsCapped most (cond here (call.Post tree value ∷ calls) calls)
    → ArePostsCapped most calls
post_later most true tree value calls capped = capped.1
post_later most false tree value calls capped = capped

read_later : (most : ℕ) (here : Bool) (tree stamp value : ℕ) (calls : List Call)
    → ArePostsCapped most (cond here (call.Read tree stamp value ∷ calls) calls)
    → ArePostsCapped most calls
read_later most true tree stamp value calls capped = capped
read_later most false tree stamp value calls capped = capped

-- a post of the hand's own is let through
post_first : (most : ℕ) (here : Bool) (tree value : ℕ) (calls : List Call) → here ≡ true
    → ArePostsCapped most (cond here (call.Post tree value ∷ calls) calls) → value ≤ most
post_first most true tree value calls is capped = capped.0
post_first most false tree value calls is capped = absurd cc

-- and a post is one hand's or the other's
post_low : (most last tree value : ℕ) (below at : List Call) → tree ≤ last
    → ArePostsCapped most (cond (nat_lt tree last) (call.Post tree value ∷ below) below)
    → ArePostsCapped most (cond (tree == last) (call.Post 0 value ∷ at) at) → value ≤ most
post_low most last tree value below at inside capped_below capped_at =
    ⊎_elim
    (λ (here : tree ≡ last). post_first most (tree == last) 0 value at (eq-eqb tree last here)
    capped_at)
    (λ either. ⊎_elim
    (λ (less : tree < last). post_first most (nat_lt tree last) tree value below
    (lt-ltb tree last less) capped_below)
    (λ (far : last < tree). absurd (omega (arith, far, inside))) either)
    (cases_order tree last)

-- posts that both hands let through are within the largest value
capped_here : (most last : ℕ) (acts : List Act) → All (IsInTrees last) acts
    → ArePostsCapped most (calls_below last acts) → ArePostsCapped most (calls_at last acts)
    → All (PostsAtMost most) acts
capped_here most last [] all below at = All-nil (PostsAtMost most)
capped_here most last (Post tree index value ∷ acts) all below at =
    All-cons (PostsAtMost most) (Post tree index value) acts
    (post_low most last tree value (calls_below last acts) (calls_at last acts)
    (All-head (IsInTrees last) (Post tree index value) acts all) below at)
    (capped_here most last acts (All-tail (IsInTrees last) (Post tree index value) acts all)
    (post_later most (nat_lt tree last) tree value (calls_below last acts) below)
    (post_later most (tree == last) 0 value (calls_at last acts) at))
capped_here most last (Read tree stamp place value ∷ acts) all below at =
    All-cons (PostsAtMost most) (Read tree stamp place value) acts tt
    (capped_here most last acts
    (All-tail (IsInTrees last) (Read tree stamp place value) acts all)
    (read_later most (nat_lt tree last) tree stamp value (calls_below last acts) below)
    (read_later most (tree == last) 0 stamp value (calls_at last acts) at))
capped_here most last (Sent frame ∷ acts) all below at =
    All-cons (PostsAtMost most) (Sent frame) acts tt
    (capped_here most last acts (All-tail (IsInTrees last) (Sent frame) acts all) below at)
capped_here most last (Refused frame code one two ∷ acts) all below at =
    All-cons (PostsAtMost most) (Refused frame code one two) acts tt
    (capped_here most last acts
    (All-tail (IsInTrees last) (Refused frame code one two) acts all) below at)
capped_here most last (Noted frame code one two ∷ acts) all below at =
    All-cons (PostsAtMost most) (Noted frame code one two) acts tt
    (capped_here most last acts
    (All-tail (IsInTrees last) (Noted frame code one two) acts all) below at)
capped_here most last (Ended end ∷ acts) all below at =
    All-cons (PostsAtMost most) (Ended end) acts tt
    (capped_here most last acts (All-tail (IsInTrees last) (Ended end) acts all) below at)

-- Acts that are those of a run but for places post no more than its hands let through.
pub capped_alike : (most halt_tree : ℕ) (acts told : List Act) → AreSame acts told
    → All (IsInTrees halt_tree) told → ArePostsCapped most (calls_below halt_tree acts)
    → ArePostsCapped most (calls_at halt_tree acts) → All (PostsAtMost most) told
capped_alike most halt_tree acts told same all below at =
    capped_here most halt_tree told all
    (subst (ArePostsCapped most)
    (sym (calls_below-unplaced halt_tree acts) ∙ ap (calls_below halt_tree) same
    ∙ calls_below-unplaced halt_tree told) below)
    (subst (ArePostsCapped most)
    (sym (calls_at-unplaced halt_tree acts) ∙ ap (calls_at halt_tree) same
    ∙ calls_at-unplaced halt_tree told) at)
