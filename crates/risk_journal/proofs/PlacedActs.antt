-- Acts with their reads' places: what doesn't change.
use Rattle.std.proofs.Common.{◌≡◌, ℕ, ◌+◌, List, [], ◌∷◌, ◌++◌, map, fold, refl, ap, ◌∙◌}
use Rattle.std.proofs.Common.{cond}
use Rattle.risk_journal.specs.declared.acts.Act.{Act}
use Rattle.risk_journal.specs.declared.acts.Act.TheVariants.{Post, Read, Sent, Refused}
use Rattle.risk_journal.specs.declared.acts.Act.TheVariants.{Noted, Ended}
use Rattle.risk_journal.specs.ActLists.{SeenAt, is_post_act_in, posts_in, latest, last_post}
use Rattle.risk_journal.specs.ActLists.{placed, placed_by, reads_of, unplaced}

-- a read with its place by its stamp
abbrev pub seen_placed : (ℕ → ℕ) → SeenAt → SeenAt
seen_placed place seen = record seen { place = place seen.stamp }

-- the reads are the same but for their places
pub reads_of-placed : (place : ℕ → ℕ) (acts : List Act)
    → reads_of (map (placed place) acts) ≡ map (seen_placed place) (reads_of acts)
reads_of-placed place [] = refl
reads_of-placed place (Post tree index value ∷ acts) = reads_of-placed place acts
reads_of-placed place (Read tree stamp at value ∷ acts) =
    let seen : SeenAt = record { stamp = stamp; place = place stamp; value = value } in
    ap (λ reads. seen ∷ reads) (reads_of-placed place acts)
reads_of-placed place (Sent frame ∷ acts) = reads_of-placed place acts
reads_of-placed place (Refused frame code first second ∷ acts) = reads_of-placed place acts
reads_of-placed place (Noted frame code first second ∷ acts) = reads_of-placed place acts
reads_of-placed place (Ended end ∷ acts) = reads_of-placed place acts

-- the reads of acts one after another
pub reads_of-append : (acts more : List Act)
    → reads_of (acts ++ more) ≡ reads_of acts ++ reads_of more
reads_of-append [] more = refl
reads_of-append (Post tree index value ∷ acts) more = reads_of-append acts more
reads_of-append (Read tree stamp at value ∷ acts) more =
    let seen : SeenAt = record { stamp = stamp; place = at; value = value } in
    ap (λ reads. seen ∷ reads) (reads_of-append acts more)
reads_of-append (Sent frame ∷ acts) more = reads_of-append acts more
reads_of-append (Refused frame code first second ∷ acts) more = reads_of-append acts more
reads_of-append (Noted frame code first second ∷ acts) more = reads_of-append acts more
reads_of-append (Ended end ∷ acts) more = reads_of-append acts more

-- a post has no place
is_post_act_in-placed : (place : ℕ → ℕ) (tree : ℕ) (act : Act)
    → is_post_act_in tree (placed place act) ≡ is_post_act_in tree act
is_post_act_in-placed place tree (Post in_tree index value) = refl
is_post_act_in-placed place tree (Read in_tree stamp at value) = refl
is_post_act_in-placed place tree (Sent frame) = refl
is_post_act_in-placed place tree (Refused frame code first second) = refl
is_post_act_in-placed place tree (Noted frame code first second) = refl
is_post_act_in-placed place tree (Ended end) = refl

posts_from-placed : (place : ℕ → ℕ) (tree start : ℕ) (acts : List Act)
    → fold (λ sum act. sum + cond (is_post_act_in tree act) 1 0) start (map (placed place) acts)
    ≡ fold (λ sum act. sum + cond (is_post_act_in tree act) 1 0) start acts
posts_from-placed place tree start [] = refl
posts_from-placed place tree start (act ∷ acts) =
    ap (λ is. fold (λ sum own. sum + cond (is_post_act_in tree own) 1 0) (start + cond is 1 0)
    (map (placed place) acts)) (is_post_act_in-placed place tree act)
    ∙ posts_from-placed place tree (start + cond (is_post_act_in tree act) 1 0) acts

pub posts_in-placed : (place : ℕ → ℕ) (tree : ℕ) (acts : List Act)
    → posts_in tree (map (placed place) acts) ≡ posts_in tree acts
posts_in-placed place tree acts = posts_from-placed place tree 0 acts

latest-placed : (place : ℕ → ℕ) (tree before : ℕ) (act : Act)
    → latest tree before (placed place act) ≡ latest tree before act
latest-placed place tree before (Post in_tree index value) = refl
latest-placed place tree before (Read in_tree stamp at value) = refl
latest-placed place tree before (Sent frame) = refl
latest-placed place tree before (Refused frame code first second) = refl
latest-placed place tree before (Noted frame code first second) = refl
latest-placed place tree before (Ended end) = refl

last_from-placed : (place : ℕ → ℕ) (tree before : ℕ) (acts : List Act)
    → fold (latest tree) before (map (placed place) acts) ≡ fold (latest tree) before acts
last_from-placed place tree before [] = refl
last_from-placed place tree before (act ∷ acts) =
    ap (λ value. fold (latest tree) value (map (placed place) acts))
    (latest-placed place tree before act)
    ∙ last_from-placed place tree (latest tree before act) acts

pub last_post-placed : (place : ℕ → ℕ) (tree : ℕ) (acts : List Act)
    → last_post tree (map (placed place) acts) ≡ last_post tree acts
last_post-placed place tree acts = last_from-placed place tree 0 acts

one_alike : (place : ℕ → ℕ → ℕ) (act : Act) → unplaced (placed_by place act) ≡ unplaced act
one_alike place (Post tree index value) = refl
one_alike place (Read tree stamp before value) = refl
one_alike place (Sent frame) = refl
one_alike place (Refused frame code first second) = refl
one_alike place (Noted frame code first second) = refl
one_alike place (Ended end) = refl

-- acts that were placed differ in the places of their reads alone
pub alike : (place : ℕ → ℕ → ℕ) (acts : List Act)
    → map unplaced (map (placed_by place) acts) ≡ map unplaced acts
alike place [] = refl
alike place (act ∷ acts) =
    ap (λ own. own ∷ map unplaced (map (placed_by place) acts)) (one_alike place act)
    ∙ ap (λ more. unplaced act ∷ more) (alike place acts)
