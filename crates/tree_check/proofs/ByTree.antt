-- Reads in lists by their trees.
use Rattle.std.proofs.Common.{◌≡◌, ℕ, ◌+◌, ◌<◌, ◌≤◌, List, [], ◌∷◌, ◌++◌, length, take, get_or, map, refl, sym}
use Rattle.std.proofs.Common.{ap, ◌∙◌, arith, Bool, true, false, cond, eq-eqb, replicate, take_all, eqb}
use Rattle.std.proofs.Common.{append_assoc, length-take, Vec, Global}
use Rattle.std.specs.List.{flat_map, enumerate_from}
use Rattle.std.proofs.lemmas.Bool.{ne_eqb}
use Rattle.std.proofs.lemmas.List.{append-nil, map-append, take_more, length-map, get_or-map}
use Rattle.risk_board.specs.History.{Event}
use Rattle.risk_board.specs.History.Event.{Posted, Saw}
use Rattle.risk_journal.specs.declared.acts.Act.{Act}
use Rattle.risk_journal.specs.declared.acts.Act.TheVariants.{Post, Read, Sent, Refused, Noted, Ended}
use Rattle.risk_journal.specs.ActLists.{events_of}
use Rattle.trail_replay.specs.Reads.{list_below}
use Rattle.trail_replay.proofs.PreparedTables.{get_or-list_below}
use Rattle.tree_check.specs.declared.read_at.ReadAt.{ReadAt}
use Rattle.tree_check.specs.Buckets.{with_acts}
use Rattle.tree_check.specs.Reads.{own_reads, reads_in, reads_by}
use Rattle.tree_check.proofs.Below.{set_below, same_below, below_same}

-- a post leaves no read
post_reads : (session value : ℕ) (b : Bool) (events : List Event)
    → own_reads session (cond b (Posted value ∷ events) events) ≡ own_reads session events
post_reads session value true events = refl
post_reads session value false events = refl

-- a read in this tree or another
read_reads : (session stamp place value : ℕ) (b : Bool) (events : List Event) (before : List ReadAt)
    → (let read : ReadAt = record { session = session; place = place; value = value } in
    cond b (before ++ read ∷ []) before ++ own_reads session events
    ≡ before ++ own_reads session (cond b (Saw stamp place value ∷ events) events))
read_reads session stamp place value true events before =
    append_assoc before ((record { session = session; place = place; value = value }) ∷ [])
    (own_reads session events)
read_reads session stamp place value false events before = refl

-- the lists with the reads of these acts of a session
pub acts_more : (session trees : ℕ) (before : ℕ → List ReadAt) (acts : List Act)
    → with_acts session (list_below before trees) acts
    ≡ list_below (λ tree. before tree ++ own_reads session (events_of tree acts)) trees
acts_more session trees before [] =
    same_below before (λ tree. before tree ++ []) trees (λ tree below. sym (append-nil (before tree)))
acts_more session trees before (Read tree stamp place value ∷ acts) =
    let read : ReadAt = record { session = session; place = place; value = value } in
    let next : ℕ → List ReadAt = λ t. cond (eqb tree t) (before t ++ read ∷ []) (before t) in
    ap (λ lists. with_acts session lists acts)
    (set_below before next trees tree (get_or (list_below before trees) tree [] ++ read ∷ [])
    (λ below. ap (λ b. cond b (before tree ++ read ∷ []) (before tree)) (eq-eqb tree tree refl)
    ∙ ap (λ xs. xs ++ read ∷ []) (sym (get_or-list_below before trees tree [] below)))
    (λ t below apart. sym (ap (λ b. cond b (before t ++ read ∷ []) (before t))
    (ne_eqb tree t (λ same. apart (sym same))))))
    ∙ acts_more session trees next acts
    ∙ same_below _ _ trees (λ t below.
    read_reads session stamp place value (eqb tree t) (events_of t acts) (before t))
acts_more session trees before (Post tree index value ∷ acts) =
    acts_more session trees before acts
    ∙ same_below _ _ trees (λ t below. ap (λ own. before t ++ own)
    (sym (post_reads session value (eqb tree t) (events_of t acts))))
acts_more session trees before (Sent frame ∷ acts) = acts_more session trees before acts
acts_more session trees before (Refused frame code first second ∷ acts) =
    acts_more session trees before acts
acts_more session trees before (Noted frame code first second ∷ acts) =
    acts_more session trees before acts
acts_more session trees before (Ended end ∷ acts) = acts_more session trees before acts

abbrev reads_from : ℕ → List (List Event) → List ReadAt
reads_from first events =
    flat_map (λ own. own_reads own.0 own.1) (enumerate_from first events)

-- the reads of one session more
from_more : (first : ℕ) (events : List (List Event)) (own : List Event)
    → reads_from first (events ++ own ∷ [])
    ≡ reads_from first events ++ own_reads (first + length events) own
from_more first [] own =
    append-nil (own_reads first own)
    ∙ ap (λ n. own_reads n own) (let same : first ≡ first + 0 = omega arith in same)
from_more first (other ∷ events) own =
    ap (λ r. own_reads first other ++ r) (from_more (first + 1) events own)
    ∙ sym (append_assoc (own_reads first other) (reads_from (first + 1) events)
    (own_reads (first + 1 + length events) own))
    ∙ ap (λ n. (own_reads first other ++ reads_from (first + 1) events) ++ own_reads n own)
    (let same : first + 1 + length events ≡ first + length (other ∷ events) = omega arith in same)

-- the reads of the first so many sessions, by tree
abbrev pub first_reads : List (List Act) → ℕ → ℕ → List ReadAt
first_reads acts count tree = reads_by tree (take count acts)

pub no_sessions : (acts : List (List Act)) (trees : ℕ)
    → replicate trees [] ≡ list_below (first_reads acts 0) trees
no_sessions acts trees = sym (below_same [] trees)

pub session_more : (acts : List (List Act)) (session trees : ℕ) (own : List Act)
    → session < length acts → own ≡ get_or acts session own
    → with_acts session (list_below (first_reads acts session) trees) own
    ≡ list_below (first_reads acts (session + 1)) trees
session_more acts session trees own below is =
    acts_more session trees (first_reads acts session) own
    ∙ same_below _ _ trees (λ tree in_trees. sym (more tree)) where
      count : (tree : ℕ) → 0 + length (map (events_of tree) (take session acts)) ≡ session
      count tree = omega (
        arith,
        length-map (take session acts) (events_of tree),
        length-take session acts,
      )

      more : (tree : ℕ) → first_reads acts (session + 1) tree
          ≡ first_reads acts session tree ++ own_reads session (events_of tree own)
      more tree =
          ap (λ some. reads_in (map (events_of tree) some)) (take_more acts session own below)
          ∙ ap reads_in (map-append (events_of tree) (take session acts)
          (get_or acts session own ∷ []))
          ∙ from_more 0 (map (events_of tree) (take session acts))
          (events_of tree (get_or acts session own))
          ∙ ap (λ n. first_reads acts session tree
          ++ own_reads n (events_of tree (get_or acts session own))) (count tree)
          ∙ ap (λ did. first_reads acts session tree ++ own_reads session (events_of tree did))
          (sym is)

-- the same of the acts as they are kept
pub session_added : (acts : List (Vec Act Global)) (session trees : ℕ) (own : Vec Act Global)
    (did : List Act) → session < length acts → own ≡ get_or acts session own → did ≡ own.items
    → (let kept = map (λ (v : Vec Act Global). v.items) acts in
    with_acts session (list_below (first_reads kept session) trees) did
    ≡ list_below (first_reads kept (session + 1)) trees)
session_added acts session trees own did below is are =
    let kept = map (λ (v : Vec Act Global). v.items) acts in
    session_more kept session trees did
    (omega (arith, below, length-map acts (λ (v : Vec Act Global). v.items)))
    (are ∙ ap (λ (v : Vec Act Global). v.items) is
    ∙ sym (get_or-map (λ (v : Vec Act Global). v.items) acts session own did below))

pub all_sessions : (acts : List (List Act)) (count trees : ℕ) → length acts ≤ count
    → list_below (first_reads acts count) trees ≡ list_below (λ tree. reads_by tree acts) trees
all_sessions acts count trees whole =
    ap (λ some. list_below (λ tree. reads_by tree some) trees) (take_all count acts whole)
