-- A tree that is judged right is legal.
use Rattle.std.proofs.Common.{◌≡◌, ℕ, suc, ◌+◌, ◌<◌, ◌≤◌, List, [], ◌∷◌, length, take}
use Rattle.std.proofs.Common.{refl, ap, sym, subst, ◌∙◌, arith}
use Rattle.std.specs.Prelude.{slice_index_or, slice_get, Some}
use Rattle.std.specs.List.{AllByRecursion}
use Rattle.std.proofs.lemmas.List.{length-map, get_or-map}
use Rattle.std.proofs.lemmas.Option.{slice_get_within, get_or_from_slice_get, slice_get-get_or}
use Rattle.risk_board.specs.declared.hand.Line.{Line}
use Rattle.risk_board.specs.History.{Event, posted, own_lines, IsLegal, ReadsFit, StampsRise, PlacesFollow}
use Rattle.risk_journal.specs.ActLists.{events_of}
use Rattle.risk_journal.specs.declared.acts.Act.{Act}
use Rattle.journal_check.specs.Trees.{tree_events, tree_posts}
use Rattle.journal_check.specs.Judged.{IsJudgedRight}
use Rattle.journal_check.specs.RowNumbers.{count_all}
use Rattle.journal_check.specs.ReadRows.{ReadRow, told_events, session_reads, tree_reads, FitsLines}
use Rattle.journal_check.proofs.LegalLines.{each_once}
use Rattle.journal_check.proofs.LegalReads.{IsIn, session_in, reads_fit, stamps_rise, agree_all}
use Rattle.journal_check.proofs.LegalReads.{places_follow, untold, untold_events}
use Rattle.journal_check.proofs.LineWalk.{has_next}

-- what holds at each place holds of all, item by item
pub all_by_recursion : {X : Type 0} (P : X → Type 0) (items : List X)
    → ((index : ℕ) (item : X) → slice_get items index ≡ Some item → P item)
    → AllByRecursion P items
all_by_recursion P [] each = tt
all_by_recursion P (x ∷ items) each =
    (each 0 x refl, all_by_recursion P items (λ index item at. each (suc index) item at))

-- what a session did in a tree is what its acts tell of it
pub own_acts : (tree session : ℕ) (acts : List (List Act)) (own : List Event)
    → slice_get (tree_events tree acts) session ≡ Some own
    → slice_get acts session ≡ Some (slice_index_or acts session [])
    × (own ≡ events_of tree (slice_index_or acts session []))
own_acts tree session acts own at =
    let less : session < length acts =
    omega (arith, slice_get_within (tree_events tree acts) session own at, length-map acts (events_of tree)) in (
      slice_get-get_or acts session [] less,
      sym (get_or_from_slice_get (tree_events tree acts) session own [] at)
          ∙ get_or-map (events_of tree) acts session [] [] less,
    )

module _ {whole : List ℕ → ℕ} {unit components tree : ℕ} {lines : List Line}
    {acts : List (List Act)} (right : IsJudgedRight whole unit components tree lines acts) where
  own_posts : (session : ℕ) (own : List Event) → slice_get (tree_events tree acts) session ≡ Some own
      → slice_index_or (tree_posts tree acts) session [] ≡ posted own
  own_posts session own at =
      get_or-map posted (tree_events tree acts) session [] []
      (slice_get_within (tree_events tree acts) session own at)
      ∙ ap posted (get_or_from_slice_get (tree_events tree acts) session own [] at)

  first_row : ℕ → ℕ
  first_row session = 2 + count_all (take session acts)

  own_reads : ℕ → List ReadRow
  own_reads session =
      session_reads session 0 0 (told_events tree (first_row session) (slice_index_or acts session []))

  among : (session : ℕ) (own : List Event) → slice_get (tree_events tree acts) session ≡ Some own
      → (read : ReadRow) → IsIn (own_reads session) read → IsIn (tree_reads tree acts) read
  unfolding own_reads first_row
  among session own at read is =
      let number : session ≡ 0 + session = omega arith in
      session_in tree acts 0 2 session session (2 + count_all (take session acts))
      (slice_index_or acts session []) read (own_acts tree session acts own at).0 number refl is

  fits : (session : ℕ) (own : List Event) → slice_get (tree_events tree acts) session ≡ Some own
      → (read : ReadRow) → IsIn (own_reads session) read → FitsLines whole unit components lines read
  fits session own at read is =
      let found = among session own at read is in
      (right.reads found.index read (slice_get_within (tree_reads tree acts) found.index read found.at)
      found.at).fits

  own_told : (session : ℕ) (own : List Event) → slice_get (tree_events tree acts) session ≡ Some own
      → events_of tree (slice_index_or acts session []) ≡ own
  own_told session own at = sym (own_acts tree session acts own at).1

  pub legal_tree : length acts ≤ components
      → IsLegal whole unit components lines (tree_events tree acts)
  unfolding own_reads first_row
  legal_tree few = record {
    few = omega (arith, few, length-map acts (events_of tree));
    sessions = all_by_recursion (λ line. line.session < length (tree_events tree acts)) lines
        (λ index line at.
        let next = right.lines index line (slice_get_within lines index line at) at in
        omega (
          arith,
          has_next (tree_posts tree acts) (take index lines) line next,
          length-map (tree_events tree acts) posted,
        ));
    each = λ session own at.
        let told = told_events tree (first_row session) (slice_index_or acts session []) in
        let same = untold_events tree (first_row session) (slice_index_or acts session [])
        ∙ own_told session own at in
        record {
          each_once = each_once (tree_posts tree acts) lines right.lines right.all session
              ∙ ap (own_lines session 1) (own_posts session own at);
          reads = subst (ReadsFit whole unit components lines session 0) same
              (reads_fit session 0 0 told (fits session own at));
          stamps = subst (StampsRise 0) same (stamps_rise session 0 0 told (fits session own at));
        };
    places = λ one own other others at also.
        let mine = told_events tree (first_row one) (slice_index_or acts one []) in
        let theirs = told_events tree (first_row other) (slice_index_or acts other []) in
        subst (λ (e : List Event). PlacesFollow e others)
        (untold_events tree (first_row one) (slice_index_or acts one []) ∙ own_told one own at)
        (subst (PlacesFollow (untold mine))
        (untold_events tree (first_row other) (slice_index_or acts other []) ∙ own_told other others also)
        (places_follow one 0 0 mine other theirs
        (λ x y first then. agree_all (tree_reads tree acts) right.reads x y
        (among one own at x first) (among other others also y then))));
  }
