-- The trees after all acts: each has the posts and the reads that the acts tell of it.
use Rattle.std.proofs.Common.{◌≡◌, ◌≢◌, ℕ, zero, suc, ◌+◌, ◌<◌, ◌≤◌, List, [], ◌∷◌, ◌++◌, length, map}
use Rattle.std.proofs.Common.{refl, ap, sym, subst, ◌∙◌, arith, ⊎_elim, get_or, length-append, length-set}
use Rattle.std.proofs.Common.{get_or-set_same, get_or-set_other, cond, eq-eqb, replicate, append_assoc}
use Rattle.std.proofs.Common.{true, false, ◌==◌, set, drop}
use Rattle.std.proofs.Math.Seq.{set-append_seam, get_or-append_seam}
use Rattle.std.proofs.lemmas.Bool.{ne_eqb}
use Rattle.std.proofs.lemmas.List.{append-nil as append_nil, length-map, get_or-map, drop_more, drop_all}
use Rattle.risk_board.specs.History.{posted}
use Rattle.risk_board.specs.History.Event.{Posted, Saw}
use Rattle.risk_journal.specs.ActLists.{events_of}
use Rattle.risk_journal.specs.declared.acts.Act.{Act}
use Rattle.risk_journal.specs.declared.acts.Act.TheVariants.{Post, Read, Sent, Refused, Noted, Ended}
use Rattle.journal_check.specs.declared.tree_acts.TreeActs.{TreeActs}
use Rattle.journal_check.specs.Buckets.{TreeValue, tree_value, no_tree, empty_tree, begun, with_post, with_read}
use Rattle.journal_check.specs.Buckets.{read_row, changed_at, with_act, with_acts, with_sessions}
use Rattle.journal_check.specs.Buckets.{IsByTree, AreByTree}
use Rattle.journal_check.specs.Trees.{tree_posts}
use Rattle.journal_check.specs.ReadRows.{ReadRow, told_events, session_reads, reads_from}
use Rattle.journal_check.proofs.Cases.{same_or}

-- what an act makes of one tree
abbrev step : ℕ → ℕ → ℕ → TreeValue → Act → TreeValue
step tree session row own (Post in_tree index value) =
    cond (in_tree == tree) (with_post session value own) own
step tree session row own (Read in_tree stamp place value) =
    cond (in_tree == tree) (with_read (read_row row session stamp place value) own) own
step tree session row own (Sent frame) = own
step tree session row own (Refused frame code first second) = own
step tree session row own (Noted frame code first second) = own
step tree session row own (Ended end) = own

abbrev steps : ℕ → ℕ → ℕ → TreeValue → List Act → TreeValue
steps tree session row own [] = own
steps tree session row own (act ∷ acts) =
    steps tree session (row + 1) (step tree session row own act) acts

abbrev all_steps : ℕ → ℕ → ℕ → TreeValue → List (List Act) → TreeValue
all_steps tree session row own [] = own
all_steps tree session row own (did ∷ acts) =
    all_steps tree (session + 1) (row + length did) (steps tree session row (begun own) did) acts

changed_one : (trees : List TreeValue) (at tree : ℕ) (change : TreeValue → TreeValue)
    → tree < length trees
    → get_or (changed_at at change trees) tree no_tree
    ≡ cond (at == tree) (change (get_or trees tree no_tree)) (get_or trees tree no_tree)
changed_one trees at tree change inside = ⊎_elim
    (λ (same : at ≡ tree).
    let new : TreeValue = change (get_or trees at no_tree) in
    let Is : ℕ → Type 0 = λ t. get_or (set trees t (change (get_or trees t no_tree))) tree no_tree
    ≡ cond (t == tree) (change (get_or trees tree no_tree)) (get_or trees tree no_tree) in
    subst Is (sym same)
    (get_or-set_same trees tree (change (get_or trees tree no_tree)) no_tree inside
    ∙ sym (ap (λ b. cond b (change (get_or trees tree no_tree)) (get_or trees tree no_tree))
    (eq-eqb tree tree refl))))
    (λ (apart : at ≢ tree).
    get_or-set_other trees at tree (change (get_or trees at no_tree)) no_tree
    (λ same. apart (sym same))
    ∙ sym (ap (λ b. cond b (change (get_or trees tree no_tree)) (get_or trees tree no_tree))
    (ne_eqb at tree apart)))
    (same_or at tree)

act_one : (session row tree : ℕ) (trees : List TreeValue) (act : Act) → tree < length trees
    → get_or (with_act session row trees act) tree no_tree
    ≡ step tree session row (get_or trees tree no_tree) act
act_one session row tree trees (Post in_tree index value) inside =
    changed_one trees in_tree tree (with_post session value) inside
act_one session row tree trees (Read in_tree stamp place value) inside =
    changed_one trees in_tree tree (with_read (read_row row session stamp place value)) inside
act_one session row tree trees (Sent frame) inside = refl
act_one session row tree trees (Refused frame code first second) inside = refl
act_one session row tree trees (Noted frame code first second) inside = refl
act_one session row tree trees (Ended end) inside = refl

act_count : (session row : ℕ) (trees : List TreeValue) (act : Act)
    → length (with_act session row trees act) ≡ length trees
act_count session row trees (Post in_tree index value) = length-set trees in_tree _
act_count session row trees (Read in_tree stamp place value) = length-set trees in_tree _
act_count session row trees (Sent frame) = refl
act_count session row trees (Refused frame code first second) = refl
act_count session row trees (Noted frame code first second) = refl
act_count session row trees (Ended end) = refl

pub acts_count : (session row : ℕ) (trees : List TreeValue) (acts : List Act)
    → length (with_acts session row trees acts) ≡ length trees
acts_count session row trees [] = refl
acts_count session row trees (act ∷ acts) =
    acts_count session (row + 1) (with_act session row trees act) acts
    ∙ act_count session row trees act

acts_one : (session row tree : ℕ) (trees : List TreeValue) (acts : List Act) → tree < length trees
    → get_or (with_acts session row trees acts) tree no_tree
    ≡ steps tree session row (get_or trees tree no_tree) acts
acts_one session row tree trees [] inside = refl
acts_one session row tree trees (act ∷ acts) inside =
    acts_one session (row + 1) tree (with_act session row trees act) acts
    (omega (arith, inside, act_count session row trees act))
    ∙ ap (λ own. steps tree session (row + 1) own acts) (act_one session row tree trees act inside)

sessions_one : (session row tree : ℕ) (trees : List TreeValue) (acts : List (List Act))
    → tree < length trees
    → get_or (with_sessions session row trees acts) tree no_tree
    ≡ all_steps tree session row (get_or trees tree no_tree) acts
sessions_one session row tree trees [] inside = refl
sessions_one session row tree trees (own ∷ acts) inside =
    let long : length (map begun trees) ≡ length trees = length-map trees begun in
    sessions_one (session + 1) (row + length own) tree
    (with_acts session row (map begun trees) own) acts
    (omega (arith, inside, long, acts_count session row (map begun trees) own))
    ∙ ap (λ one. all_steps tree (session + 1) (row + length own) one acts)
    (acts_one session row tree (map begun trees) own (omega (arith, inside, long))
    ∙ ap (λ one. steps tree session row one own) (get_or-map begun trees tree no_tree no_tree inside))

pub sessions_count : (session row : ℕ) (trees : List TreeValue) (acts : List (List Act))
    → length (with_sessions session row trees acts) ≡ length trees
sessions_count session row trees [] = refl
sessions_count session row trees (own ∷ acts) =
    sessions_count (session + 1) (row + length own) (with_acts session row (map begun trees) own) acts
    ∙ acts_count session row (map begun trees) own ∙ length-map trees begun

module _ (tree session : ℕ) (done : List (List ℕ)) (number : session ≡ length done)
    (rest : List (List ℕ)) where
  seam_get : (posts : List (List ℕ)) (own : List ℕ) → posts ≡ done ++ own ∷ rest
      → get_or posts session [] ≡ own
  seam_get posts own are =
      ap (λ s. get_or s session []) are ∙ ap (λ n. get_or (done ++ own ∷ rest) n []) number
      ∙ get_or-append_seam done own rest []

  seam_set : (posts : List (List ℕ)) (own : List ℕ) (value : ℕ) → posts ≡ done ++ own ∷ rest
      → set posts session (get_or posts session [] ++ value ∷ [])
      ≡ done ++ (own ++ value ∷ []) ∷ rest
  seam_set posts own value are =
      ap (λ s. set posts session (s ++ value ∷ [])) (seam_get posts own are)
      ∙ ap (λ s. set s session (own ++ value ∷ [])) are
      ∙ ap (λ n. set (done ++ own ∷ rest) n (own ++ value ∷ [])) number
      ∙ set-append_seam done own rest (own ++ value ∷ [])

  steps_posts : (row : ℕ) (acts : List Act) (before : TreeValue) (own : List ℕ)
      → before.posts ≡ done ++ own ∷ rest
      → (steps tree session row before acts).posts
      ≡ done ++ (own ++ posted (events_of tree acts)) ∷ rest
  steps_posts row [] before own are = are ∙ ap (λ s. done ++ s ∷ rest) (sym (append_nil own))
  steps_posts row (Post in_tree index value ∷ acts) before own are =
      elim (in_tree == tree) as (λ b.
      (steps tree session (row + 1) (cond b (with_post session value before) before) acts).posts
      ≡ done ++ (own ++ posted (cond b (Posted value ∷ events_of tree acts) (events_of tree acts))) ∷ rest) [
        | true ↦ steps_posts (row + 1) acts (with_post session value before) (own ++ value ∷ [])
            (seam_set before.posts own value are)
            ∙ ap (λ s. done ++ s ∷ rest) (append_assoc own (value ∷ []) (posted (events_of tree acts)))
        | false ↦ steps_posts (row + 1) acts before own are
      ]
  steps_posts row (Read in_tree stamp place value ∷ acts) before own are =
      elim (in_tree == tree) as (λ b.
      (steps tree session (row + 1) (cond b (with_read (read_row row session stamp place value) before) before) acts).posts
      ≡ done ++ (own ++ posted (cond b (Saw stamp place value ∷ events_of tree acts) (events_of tree acts))) ∷ rest) [
        | true ↦ steps_posts (row + 1) acts (with_read (read_row row session stamp place value) before) own are
        | false ↦ steps_posts (row + 1) acts before own are
      ]
  steps_posts row (Sent frame ∷ acts) before own are = steps_posts (row + 1) acts before own are
  steps_posts row (Refused frame code first second ∷ acts) before own are =
      steps_posts (row + 1) acts before own are
  steps_posts row (Noted frame code first second ∷ acts) before own are =
      steps_posts (row + 1) acts before own are
  steps_posts row (Ended end ∷ acts) before own are = steps_posts (row + 1) acts before own are

  steps_reads : (row : ℕ) (acts : List Act) (before : TreeValue) (own : List ℕ)
      → before.posts ≡ done ++ own ∷ rest
      → (steps tree session row before acts).reads
      ≡ before.reads ++ session_reads session (length own) before.least (told_events tree row acts)
  steps_reads row [] before own are = sym (append_nil before.reads)
  steps_reads row (Post in_tree index value ∷ acts) before own are =
      elim (in_tree == tree) as (λ b.
      (steps tree session (row + 1) (cond b (with_post session value before) before) acts).reads
      ≡ before.reads ++ session_reads session (length own) before.least
      (cond b ((row, Posted value) ∷ told_events tree (row + 1) acts) (told_events tree (row + 1) acts))) [
        | true ↦ steps_reads (row + 1) acts (with_post session value before) (own ++ value ∷ [])
            (seam_set before.posts own value are)
            ∙ ap (λ n. before.reads ++ session_reads session n before.least (told_events tree (row + 1) acts))
            (length-append own (value ∷ []))
        | false ↦ steps_reads (row + 1) acts before own are
      ]
  steps_reads row (Read in_tree stamp place value ∷ acts) before own are =
      let read : ℕ → ReadRow = λ made. record {
        row = row;
        session = session;
        made = made;
        least = before.least;
        stamp = stamp;
        place = place;
        value = value;
      } in
      let later : List ReadRow = session_reads session (length own) stamp (told_events tree (row + 1) acts) in
      elim (in_tree == tree) as (λ b.
      (steps tree session (row + 1) (cond b (with_read (read_row row session stamp place value) before) before) acts).reads
      ≡ before.reads ++ session_reads session (length own) before.least
      (cond b ((row, Saw stamp place value) ∷ told_events tree (row + 1) acts) (told_events tree (row + 1) acts))) [
        | true ↦ steps_reads (row + 1) acts (with_read (read_row row session stamp place value) before) own are
            ∙ append_assoc before.reads (read (length (get_or before.posts session [])) ∷ []) later
            ∙ ap (λ s. before.reads ++ read (length s) ∷ later) (seam_get before.posts own are)
        | false ↦ steps_reads (row + 1) acts before own are
      ]
  steps_reads row (Sent frame ∷ acts) before own are = steps_reads (row + 1) acts before own are
  steps_reads row (Refused frame code first second ∷ acts) before own are =
      steps_reads (row + 1) acts before own are
  steps_reads row (Noted frame code first second ∷ acts) before own are =
      steps_reads (row + 1) acts before own are
  steps_reads row (Ended end ∷ acts) before own are = steps_reads (row + 1) acts before own are

all_posts : (tree session row : ℕ) (acts : List (List Act)) (done : List (List ℕ))
    (before : TreeValue) → session ≡ length done
    → before.posts ≡ done ++ replicate (length acts) []
    → (all_steps tree session row before acts).posts ≡ done ++ tree_posts tree acts
all_posts tree session row [] done before number are = are
all_posts tree session row (own ∷ acts) done before number are =
    let did : List ℕ = posted (events_of tree own) in
    all_posts tree (session + 1) (row + length own) acts (done ++ did ∷ [])
    (steps tree session row (begun before) own) (omega (arith, number, length-append done (did ∷ [])))
    (steps_posts tree session done number (replicate (length acts) []) row own (begun before) [] are
    ∙ sym (append_assoc done (did ∷ []) (replicate (length acts) [])))
    ∙ append_assoc done (did ∷ []) (tree_posts tree acts)

all_reads : (tree session row : ℕ) (acts : List (List Act)) (done : List (List ℕ))
    (before : TreeValue) → session ≡ length done
    → before.posts ≡ done ++ replicate (length acts) []
    → (all_steps tree session row before acts).reads
    ≡ before.reads ++ reads_from tree session row acts
all_reads tree session row [] done before number are = sym (append_nil before.reads)
all_reads tree session row (own ∷ acts) done before number are =
    let did : List ℕ = posted (events_of tree own) in
    let here : List ReadRow = session_reads session 0 0 (told_events tree row own) in
    all_reads tree (session + 1) (row + length own) acts (done ++ did ∷ [])
    (steps tree session row (begun before) own) (omega (arith, number, length-append done (did ∷ [])))
    (steps_posts tree session done number (replicate (length acts) []) row own (begun before) [] are
    ∙ sym (append_assoc done (did ∷ []) (replicate (length acts) [])))
    ∙ ap (λ s. s ++ reads_from tree (session + 1) (row + length own) acts)
    (steps_reads tree session done number (replicate (length acts) []) row own (begun before) [] are)
    ∙ append_assoc before.reads here (reads_from tree (session + 1) (row + length own) acts)

get_replicate : {X : Type 0} (count index : ℕ) (x d : X) → index < count
    → get_or (replicate count x) index d ≡ x
get_replicate zero index x d less = absurd (omega (arith, less))
get_replicate (suc count) zero x d less = refl
get_replicate (suc count) (suc index) x d less = get_replicate count index x d (omega (arith, less))

length_replicate : {X : Type 0} (count : ℕ) (x : X) → length (replicate count x) ≡ count
length_replicate zero x = refl
length_replicate (suc count) x = ap suc (length_replicate count x)

-- all acts are told
pub all_told : (count : ℕ) (acts : List (List Act))
    → AreByTree count acts (with_sessions 0 2 (replicate count (empty_tree (length acts))) acts)
all_told count acts tree less =
    let none : TreeValue = empty_tree (length acts) in
    let long = length_replicate count none in
    let one : get_or (with_sessions 0 2 (replicate count none) acts) tree no_tree
    ≡ all_steps tree 0 2 none acts =
    sessions_one 0 2 tree (replicate count none) acts (omega (arith, less, long))
    ∙ ap (λ s. all_steps tree 0 2 s acts) (get_replicate count tree none no_tree less) in
    record {
      posts_are = ap (λ (s : TreeValue). s.posts) one ∙ all_posts tree 0 2 acts [] none refl refl;
      reads_are = ap (λ (s : TreeValue). s.reads) one ∙ all_reads tree 0 2 acts [] none refl refl;
    }

pub told_count : (count : ℕ) (acts : List (List Act))
    → length (with_sessions 0 2 (replicate count (empty_tree (length acts))) acts) ≡ count
told_count count acts =
    sessions_count 0 2 (replicate count (empty_tree (length acts))) acts
    ∙ length_replicate count (empty_tree (length acts))

-- with one act more of a session, the acts that are left are told
pub told_more : (session row : ℕ) (before after : List TreeValue) (acts : List Act) (index : ℕ)
    (d : Act) → index < length acts → after ≡ with_act session row before (get_or acts index d)
    → with_acts session (row + 1) after (drop (index + 1) acts)
    ≡ with_acts session row before (drop index acts)
told_more session row before after acts index d less is =
    ap (λ s. with_acts session (row + 1) s (drop (index + 1) acts)) is
    ∙ ap (with_acts session row before) (sym (drop_more acts index d less))

pub told_to_end : (session row : ℕ) (trees : List TreeValue) (acts : List Act) (index : ℕ)
    → length acts ≤ index → with_acts session row trees (drop index acts) ≡ trees
told_to_end session row trees acts index past =
    ap (with_acts session row trees) (drop_all index acts past)

-- with one session more, those that are left are told
pub session_told : (session row : ℕ) (before begins after : List TreeValue) (acts : List (List Act))
    (index length_is : ℕ) (own : List Act) → index < length acts → get_or acts index [] ≡ own
    → length_is ≡ length own → begins ≡ map begun before
    → after ≡ with_acts session row begins own
    → with_sessions (session + 1) (row + length_is) after (drop (index + 1) acts)
    ≡ with_sessions session row before (drop index acts)
session_told session row before begins after acts index length_is own less at long starts is =
    ap (λ n. with_sessions (session + 1) (row + n) after (drop (index + 1) acts)) long
    ∙ ap (λ s. with_sessions (session + 1) (row + length own) s (drop (index + 1) acts))
    (is ∙ ap (λ b. with_acts session row b own) starts)
    ∙ ap (λ o. with_sessions session row before (o ∷ drop (index + 1) acts)) (sym at)
    ∙ ap (with_sessions session row before) (sym (drop_more acts index [] less))

pub sessions_to_end : (session row : ℕ) (trees : List TreeValue) (acts : List (List Act)) (index : ℕ)
    → length acts ≤ index → with_sessions session row trees (drop index acts) ≡ trees
sessions_to_end session row trees acts index past =
    ap (with_sessions session row trees) (drop_all index acts past)

-- what is kept of a tree is what the acts tell of it
pub kept_tree : (trees : List TreeActs) (acts : List (List Act)) (tree : ℕ) (own : TreeActs)
    → AreByTree (length trees) acts (map tree_value trees) → tree < length trees
    → own ≡ get_or trees tree own → IsByTree tree acts (tree_value own)
kept_tree trees acts tree own all less is =
    subst (IsByTree tree acts)
    (get_or-map tree_value trees tree own no_tree less ∙ ap tree_value (sym is)) (all tree less)
