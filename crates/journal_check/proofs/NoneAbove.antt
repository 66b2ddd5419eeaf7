-- Where no act and no line is of a tree above the last, nothing is told of such a tree.
use Rattle.std.proofs.Common.{◌≡◌, ℕ, suc, ◌+◌, ◌<◌, ◌≤◌, List, [], ◌∷◌, ◌++◌, length, refl}
use Rattle.std.proofs.Common.{ap, ◌∙◌, arith, cond, ⊎_elim, get_or, eqb, inl, inr}
use Rattle.std.specs.Prelude.{slice_get, Some}
use Rattle.std.proofs.lemmas.Bool.{ne_eqb}
use Rattle.std.proofs.lemmas.List.{get_or-map, get_or_past, length-map}
use Rattle.std.proofs.lemmas.Option.{slice_get-get_or}
use Rattle.risk_board.specs.declared.hand.Line.{Line}
use Rattle.risk_board.specs.History.{posted}
use Rattle.risk_board.specs.History.Event.{Posted, Saw}
use Rattle.risk_journal.specs.ActLists.{events_of}
use Rattle.risk_journal.specs.declared.acts.Act.{Act}
use Rattle.risk_journal.specs.declared.acts.Act.TheVariants.{Post, Read, Sent, Refused, Noted, Ended}
use Rattle.journal_check.specs.ActFaults.{IsAbove, NoneHas}
use Rattle.journal_check.specs.FarRows.{IsFarRow}
use Rattle.journal_check.specs.LineFaults.{EndsBefore}
use Rattle.journal_check.specs.RowNumbers.{act_row, line_row}
use Rattle.journal_check.specs.ReadRows.{told_events, session_reads, reads_from}
use Rattle.journal_check.specs.Trees.{tree_events, tree_posts, tree_lines}
use Rattle.journal_check.proofs.Cases.{le_or_lt}

-- an event is told of no tree but its own
other_tree : {A : Type 0} (last tree in_tree : ℕ) (event : A) (events : List A) → last < tree
    → ¬ (last < in_tree) → events ≡ [] → cond (eqb in_tree tree) (event ∷ events) events ≡ []
other_tree last tree in_tree event events above near none =
    ap (λ b. cond b (event ∷ events) events)
    (ne_eqb in_tree tree (λ same. near (omega (arith, above, same)))) ∙ none

later_none : {A : Type 0} (Is : A → Type 0) (x : A) (xs : List A) → NoneHas Is (x ∷ xs) → NoneHas Is xs
later_none Is x xs none index item at = none (suc index) item at

events_none : (last tree : ℕ) (acts : List Act) → last < tree → NoneHas (IsAbove last) acts
    → events_of tree acts ≡ []
events_none last tree [] above none = refl
events_none last tree (Post in_tree index value ∷ acts) above none =
    other_tree last tree in_tree (Posted value) (events_of tree acts) above
    (none 0 (Post in_tree index value) refl)
    (events_none last tree acts above (later_none (IsAbove last) _ acts none))
events_none last tree (Read in_tree stamp place value ∷ acts) above none =
    other_tree last tree in_tree (Saw stamp place value) (events_of tree acts) above
    (none 0 (Read in_tree stamp place value) refl)
    (events_none last tree acts above (later_none (IsAbove last) _ acts none))
events_none last tree (Sent frame ∷ acts) above none =
    events_none last tree acts above (later_none (IsAbove last) _ acts none)
events_none last tree (Refused frame code first second ∷ acts) above none =
    events_none last tree acts above (later_none (IsAbove last) _ acts none)
events_none last tree (Noted frame code first second ∷ acts) above none =
    events_none last tree acts above (later_none (IsAbove last) _ acts none)
events_none last tree (Ended end ∷ acts) above none =
    events_none last tree acts above (later_none (IsAbove last) _ acts none)

told_none : (last tree row : ℕ) (acts : List Act) → last < tree → NoneHas (IsAbove last) acts
    → told_events tree row acts ≡ []
told_none last tree row [] above none = refl
told_none last tree row (Post in_tree index value ∷ acts) above none =
    other_tree last tree in_tree (row, Posted value) (told_events tree (row + 1) acts) above
    (none 0 (Post in_tree index value) refl)
    (told_none last tree (row + 1) acts above (later_none (IsAbove last) _ acts none))
told_none last tree row (Read in_tree stamp place value ∷ acts) above none =
    other_tree last tree in_tree (row, Saw stamp place value) (told_events tree (row + 1) acts) above
    (none 0 (Read in_tree stamp place value) refl)
    (told_none last tree (row + 1) acts above (later_none (IsAbove last) _ acts none))
told_none last tree row (Sent frame ∷ acts) above none =
    told_none last tree (row + 1) acts above (later_none (IsAbove last) _ acts none)
told_none last tree row (Refused frame code first second ∷ acts) above none =
    told_none last tree (row + 1) acts above (later_none (IsAbove last) _ acts none)
told_none last tree row (Noted frame code first second ∷ acts) above none =
    told_none last tree (row + 1) acts above (later_none (IsAbove last) _ acts none)
told_none last tree row (Ended end ∷ acts) above none =
    told_none last tree (row + 1) acts above (later_none (IsAbove last) _ acts none)

-- no act of any session is so
abbrev pub NoneInAll : (Act → Type 0) → List (List Act) → Type 0
NoneInAll Is acts = (session : ℕ) (own : List Act) → slice_get acts session ≡ Some own → NoneHas Is own

reads_none : (last tree session row : ℕ) (acts : List (List Act)) → last < tree
    → NoneInAll (IsAbove last) acts → reads_from tree session row acts ≡ []
reads_none last tree session row [] above none = refl
reads_none last tree session row (own ∷ acts) above none =
    ap (λ told. session_reads session 0 0 told ++ reads_from tree (session + 1) (row + length own) acts)
    (told_none last tree row own above (none 0 own refl))
    ∙ reads_none last tree (session + 1) (row + length own) acts above
    (λ later did at. none (suc later) did at)

posts_none : (last tree session : ℕ) (acts : List (List Act)) → last < tree
    → NoneInAll (IsAbove last) acts → get_or (tree_posts tree acts) session [] ≡ []
posts_none last tree session acts above none = ⊎_elim
    (λ (past : length acts ≤ session).
    get_or_past (tree_posts tree acts) session []
    (omega (arith, past, length-map (tree_events tree acts) posted, length-map acts (events_of tree))))
    (λ (less : session < length acts).
    get_or-map posted (tree_events tree acts) session [] []
    (omega (arith, less, length-map acts (events_of tree)))
    ∙ ap posted (get_or-map (events_of tree) acts session [] [] less)
    ∙ ap posted (events_none last tree (get_or acts session []) above
    (none session (get_or acts session []) (slice_get-get_or acts session [] less))))
    (le_or_lt (length acts) session)

empty_or : (own : List Line) → ((line : Line) → slice_get own 0 ≡ Some line → ⊥) → own ≡ []
empty_or [] none = refl
empty_or (line ∷ own) none = absurd (none line refl)

-- so the trees end with the last
pub ends_before : (last : ℕ) (acts : List (List Act)) (lines : List (List Line))
    → NoneInAll (IsAbove last) acts
    → ((tree : ℕ) (line : Line) → last < tree → slice_get (tree_lines tree lines) 0 ≡ Some line → ⊥)
    → EndsBefore (last + 1) acts lines
ends_before last acts lines acts_none lines_none = record {
  lines_none = λ tree past. empty_or (tree_lines tree lines)
      (λ line at. lines_none tree line (omega (arith, past)) at);
  posts_none = λ tree session past. posts_none last tree session acts (omega (arith, past)) acts_none;
  reads_none = λ tree past. reads_none last tree 0 2 acts (omega (arith, past)) acts_none;
}

-- where no row is of a tree above the last, the trees end with it
pub ends_of_near : (last : ℕ) (acts : List (List Act)) (lines : List (List Line))
    → ((row : ℕ) → ¬ IsFarRow last acts lines row) → EndsBefore (last + 1) acts lines
ends_of_near last acts lines near =
    ends_before last acts lines
    (λ session own of_session index act at above. near (act_row acts session index) (inl (record {
      act = act;
      has = record {
        session = session;
        index = index;
        own = own;
        of_session = of_session;
        at = at;
        row_is = refl;
      };
      is = above;
    })))
    (λ tree line far at. near (line_row acts lines tree 0) (inr (record {
      tree = tree;
      place = 0;
      line = line;
      has = record { at = at; row_is = refl };
      far = far;
    })))
