-- How far a text was read, row by row, and what that says of the text.
use Rattle.std.proofs.Common.{◌≡◌, ◌≢◌, ℕ, ◌+◌, List, []}
use Rattle.std.proofs.Common.{◌∷◌, ◌++◌, refl, sym, ap, ◌∙◌, arith, rules, subst}
use Rattle.std.proofs.Common.{append_assoc, codes}
use Rattle.std.specs.List.{All}
use Rattle.std.proofs.lemmas.List.{append-nil, length_push}
use Rattle.std.proofs.lemmas.List.{append_cancel_left}
use Rattle.std.proofs.lemmas.List.Concat.{flat_map-append}
use Rattle.std.proofs.lemmas.List.Elements.{All-head, All-cons, All-nil, All-push}
use Rattle.std.proofs.lemmas.List.Elements.{All-from_recursion}
use Rattle.risk_board.specs.declared.hand.Line.{Line}
use Rattle.risk_journal.specs.Reading.{Taken, none_taken, with_row, MayFollow, with_rows}
use Rattle.risk_journal.specs.Reading.{MayAllFollow}
use Rattle.risk_journal.specs.TakenView.{IsRefused, Reached}
use Rattle.risk_journal.specs.Rows.{journal_rows, FitsRow, text_of_row}
use Rattle.risk_journal.specs.JournalText.{journal_text, header_text}
use Rattle.risk_journal.specs.JournalGrammar.{HasEnded, HasFullEnd, IsSound, IsJournal, rows_text}
use Rattle.risk_journal.specs.JournalGrammar.{IsRow}
use Rattle.risk_journal.specs.JournalGrammar.{BeginJournal, IsNoJournal, IsFirstFault}
use Rattle.risk_journal.specs.declared.acts.Act.{Act}
use Rattle.risk_journal.specs.declared.rows.Row.{Row}
use Rattle.risk_journal.proofs.RowBytes.{one_cut, no_lf_at}
use Rattle.risk_journal.proofs.RowTexts.{text_of_rows, journal_text_is, rows_fit, rows_first}
use Rattle.risk_journal.proofs.RowTexts.{bytes_of_row, row_is, first_row}
use Rattle.risk_journal.proofs.RowColumns.{row_text_is}
use Rattle.risk_journal.proofs.Walks.{Leads, leads_on, sessions_lead}
use Rattle.risk_journal.proofs.Walks.{follow_both, follow_later, with_rows-append}
use Rattle.risk_journal.proofs.TreeWalks.{in_trees, Keeps, trees_lead}
use Rattle.risk_journal.proofs.TakenRows.{IsGood, taken_rows}
use Rattle.risk_journal.proofs.TakenSteps.{none_good, took, begun_of, whole_taken}

-- the rows of a sound journal may all follow, and leave it but for empty trees at the end
pub record LeadsJournal (acts : List (List Act)) (lines : List (List Line)) : Type 0 where
  pub kept : List (List Line)
  pub keeps : Keeps lines kept
  pub leads : Leads none_taken (journal_rows acts lines) (in_trees acts kept)

no_trees : Keeps [] []
no_trees = record { empty = 0; is = refl; full = none_full }
  where
    none_full : HasFullEnd (let none : List (List Line) = [] in none)
    none_full [] e = absurd cc
    none_full (x ∷ front) e = absurd cc

pub journal_leads : (acts : List (List Act)) (lines : List (List Line)) → IsSound acts lines
    → LeadsJournal acts lines
journal_leads acts lines sound =
    let sessions = sessions_lead [] acts 0 refl sound.ended in
    let trees = trees_lead acts [] [] lines 0 refl no_trees in
    record {
      kept = trees.kept;
      keeps = trees.keeps;
      leads = leads_on _ _ _ _ _ sessions trees.leads;
    }

-- the header without its LF
abbrev pub header_row : List ℕ
header_row = codes "kind,session,a,b,c,d"

pub header_is_row : IsRow header_row
header_is_row = All-from_recursion (λ byte. byte ≢ 10) header_row (search rules)

pub reached_header : (text rest : List ℕ) → text ≡ header_text ++ rest
    → Reached text rest 2 none_taken
reached_header text rest e = record {
  raw = header_row ∷ [];
  rows = [];
  split = e;
  each = All-cons IsRow header_row [] header_is_row
      (All-nil IsRow);
  count = refl;
  is = refl;
  fit = All-nil FitsRow;
  follow = tt;
  left = refl;
}

raw_push : (raw : List (List ℕ)) (row : List ℕ)
    → rows_text (raw ++ row ∷ []) ≡ rows_text raw ++ (row ++ 10 ∷ [])
raw_push raw row =
    flat_map-append (λ own. own ++ 10 ∷ []) raw (row ∷ [])
    ∙ ap (λ own. rows_text raw ++ own) (append-nil (row ++ 10 ∷ []))

pub reached_next : (text rest : List ℕ) (number : ℕ) (taken : Taken) (line more : List ℕ)
    → (row : Row)
    → Reached text rest number taken → rest ≡ line ++ 10 ∷ more → IsRow line
    → FitsRow row → text_of_row row ≡ line ++ 10 ∷ [] → MayFollow taken row
    → Reached text more (number + 1) (with_row taken row)
reached_next text rest number taken line more row so_far e is fits spelled follow =
    let here : with_rows none_taken so_far.rows ≡ taken = so_far.left in
    let P : Taken → Type 0 = λ own. MayFollow own row in
    record {
      raw = so_far.raw ++ line ∷ [];
      rows = so_far.rows ++ row ∷ [];
      split = so_far.split ∙ ap (λ own. rows_text so_far.raw ++ own) e
          ∙ ap (λ own. rows_text so_far.raw ++ own) (sym (append_assoc line (10 ∷ []) more))
          ∙ sym (append_assoc (rows_text so_far.raw) (line ++ 10 ∷ []) more)
          ∙ ap (λ own. own ++ more) (sym (raw_push so_far.raw line));
      each = All-push IsRow so_far.raw line so_far.each is;
      count = omega (arith, length_push so_far.raw line, so_far.count);
      is = raw_push so_far.raw line
          ∙ ap (λ own. own ++ (line ++ 10 ∷ [])) so_far.is
          ∙ append_assoc header_text (text_of_rows so_far.rows) (line ++ 10 ∷ [])
          ∙ ap (λ own. header_text ++ (text_of_rows so_far.rows ++ own))
          (sym spelled ∙ sym (append-nil (text_of_row row)))
          ∙ ap (λ own. header_text ++ own)
          (sym (flat_map-append text_of_row so_far.rows (row ∷ [])));
      fit = All-push FitsRow so_far.rows row so_far.fit fits;
      follow = follow_both none_taken so_far.rows (row ∷ []) so_far.follow
          (subst P (sym here) follow, tt);
      left = with_rows-append none_taken so_far.rows (row ∷ [])
          ∙ ap (λ own. with_row own row) here;
    }

-- a journal whose text goes on from here: its later rows
pub record GoesOn (taken : Taken) (more : List ℕ) (last : Taken) : Type 0 where
  pub later : List Row
  pub is : more ≡ text_of_rows later
  pub fit : All FitsRow later
  pub follow : MayAllFollow taken later
  pub left : with_rows taken later ≡ last

pub goes_on : (text rest : List ℕ) (number : ℕ) (taken : Taken) (acts : List (List Act))
    (lines : List (List Line)) (more : List ℕ) → (so_far : Reached text rest number taken)
    → (sound : IsSound acts lines) → journal_text acts lines ≡ rows_text so_far.raw ++ more
    → GoesOn taken more (in_trees acts (journal_leads acts lines sound).kept)
goes_on text rest number taken acts lines more so_far sound e =
    let leads = journal_leads acts lines sound in
    let same : text_of_rows so_far.rows ++ more ≡ text_of_rows (journal_rows acts lines) =
    append_cancel_left header_text (text_of_rows so_far.rows ++ more)
    (text_of_rows (journal_rows acts lines))
    (sym (append_assoc header_text (text_of_rows so_far.rows) more)
    ∙ ap (λ own. own ++ more) (sym so_far.is) ∙ sym e ∙ journal_text_is acts lines) in
    let first = rows_first so_far.rows (journal_rows acts lines) more so_far.fit
    (rows_fit acts lines sound) same in
    let P : List Row → Type 0 = λ rows. MayAllFollow none_taken rows in
    let Q : Taken → Type 0 = λ own. MayAllFollow own first.later in
    record {
      later = first.later;
      is = first.is;
      fit = first.fit;
      follow = subst Q so_far.left (follow_later none_taken so_far.rows first.later
          (subst P first.split leads.leads.follow));
      left = ap (λ own. with_rows own first.later) (sym so_far.left)
          ∙ sym (with_rows-append none_taken so_far.rows first.later)
          ∙ ap (with_rows none_taken) (sym first.split) ∙ leads.leads.left;
    }

-- some journal begins with the rows so far
pub begins_here : (text rest : List ℕ) (number : ℕ) (taken : Taken)
    → (so_far : Reached text rest number taken) → BeginJournal so_far.raw
begins_here text rest number taken so_far =
    let whole = took none_taken so_far.rows none_good so_far.fit so_far.follow in
    let some = begun_of (with_rows none_taken so_far.rows) whole.good in
    record {
      acts = some.acts;
      lines = some.lines;
      more = text_of_rows some.later;
      sound = some.sound;
      is = journal_text_is some.acts some.lines
          ∙ ap (λ rows. header_text ++ text_of_rows rows) some.is
          ∙ ap (λ own. header_text ++ own)
          (flat_map-append text_of_row (taken_rows (with_rows none_taken so_far.rows)) some.later)
          ∙ ap (λ rows. header_text ++ (text_of_rows rows ++ text_of_rows some.later)) whole.is
          ∙ sym (append_assoc header_text (text_of_rows so_far.rows) (text_of_rows some.later))
          ∙ ap (λ own. own ++ text_of_rows some.later) (sym so_far.is);
    }

-- a refused row is the next of no journal
no_next : (text rest : List ℕ) (number : ℕ) (taken : Taken) (acts : List (List Act))
    (lines : List (List Line)) (line more : List ℕ) → (so_far : Reached text rest number taken)
    → IsSound acts lines → IsRow line → IsRefused taken line
    → journal_text acts lines ≢ rows_text so_far.raw ++ (line ++ 10 ∷ more)
no_next text rest number taken acts lines line more so_far sound is refused e =
    let on = goes_on text rest number taken acts lines (line ++ 10 ∷ more) so_far sound e in
    none_of on.later on.is on.fit on.follow
  where
    none_of : (later : List Row) → line ++ 10 ∷ more ≡ text_of_rows later → All FitsRow later
        → MayAllFollow taken later → ⊥
    none_of [] spelled fit follow =
        no_lf_at [] line more (All-nil (λ byte. byte ≢ 10)) (sym spelled)
    none_of (row ∷ later) spelled fit follow =
        let fits = All-head FitsRow row later fit in
        let cut = one_cut line (bytes_of_row row) more (text_of_rows later) is (row_is row fits)
        (spelled ∙ first_row row later) in
        refused row fits (row_text_is row ∙ ap (λ own. own ++ 10 ∷ []) (sym cut.0)) follow.0

-- the first fault is a row that is refused
pub fault_in_row : (text rest : List ℕ) (number : ℕ) (taken : Taken) (line more : List ℕ)
    → Reached text rest number taken → rest ≡ line ++ 10 ∷ more → IsRow line → IsRefused taken line
    → IsFirstFault text number
fault_in_row text rest number taken line more so_far e is refused = record {
  rows = so_far.raw;
  rest = rest;
  split = so_far.split;
  each = so_far.each;
  count = so_far.count;
  before = begins_here text rest number taken so_far;
  none = next;
  no_journal = whole;
}
  where
    next : (row after : List ℕ) → IsRow row → rest ≡ row ++ 10 ∷ after
        → ¬ BeginJournal (so_far.raw ++ row ∷ [])
    next row after row_is_one split journal =
        let cut = one_cut line row more after is row_is_one (sym e ∙ split) in
        no_next text rest number taken journal.acts journal.lines line journal.more so_far
        journal.sound is refused
        (journal.is ∙ ap (λ own. own ++ journal.more) (raw_push so_far.raw row)
        ∙ append_assoc (rows_text so_far.raw) (row ++ 10 ∷ []) journal.more
        ∙ ap (λ own. rows_text so_far.raw ++ own) (append_assoc row (10 ∷ []) journal.more)
        ∙ ap (λ own. rows_text so_far.raw ++ (own ++ 10 ∷ journal.more)) (sym cut.0))

    whole : IsNoJournal text
    whole acts lines sound same =
        no_next text rest number taken acts lines line more so_far sound is refused
        (sym same ∙ so_far.split ∙ ap (λ own. rows_text so_far.raw ++ own) e)

pub nothing_in : (later : List Row) → [] ≡ text_of_rows later → later ≡ []
nothing_in [] e = refl
nothing_in (row ∷ later) e =
    absurd (no_lf_at [] (bytes_of_row row) (text_of_rows later) (All-nil (λ byte. byte ≢ 10))
    (e ∙ first_row row later))

-- the first fault is a row that LF doesn't end
pub fault_in_open_row : (text rest : List ℕ) (number : ℕ) (taken : Taken)
    → Reached text rest number taken → IsRow rest → rest ≢ [] → IsFirstFault text number
fault_in_open_row text rest number taken so_far is some = record {
  rows = so_far.raw;
  rest = rest;
  split = so_far.split;
  each = so_far.each;
  count = so_far.count;
  before = begins_here text rest number taken so_far;
  none = λ row more row_is_one e journal. no_lf_at rest row more is e;
  no_journal = whole;
}
  where
    none_of : (later : List Row) → rest ≡ text_of_rows later → ⊥
    none_of [] e = some e
    none_of (row ∷ later) e =
        no_lf_at rest (bytes_of_row row) (text_of_rows later) is (e ∙ first_row row later)

    whole : IsNoJournal text
    whole acts lines sound same =
        let on = goes_on text rest number taken acts lines rest so_far sound
        (sym same ∙ so_far.split) in
        none_of on.later on.is

-- the first fault is that the last session hasn't ended
pub fault_at_end : (text : List ℕ) (number : ℕ) (taken : Taken)
    → Reached text [] number taken → taken.begun ≢ [] → IsFirstFault text number
fault_at_end text number taken so_far going = record {
  rows = so_far.raw;
  rest = [];
  split = so_far.split;
  each = so_far.each;
  count = so_far.count;
  before = begins_here text [] number taken so_far;
  none = λ row more row_is_one e journal.
      no_lf_at [] row more (All-nil (λ byte. byte ≢ 10)) e;
  no_journal = whole;
}
  where
    whole : IsNoJournal text
    whole acts lines sound same =
        let on = goes_on text [] number taken acts lines [] so_far sound
        (sym same ∙ so_far.split) in
        let last : taken ≡ in_trees acts (journal_leads acts lines sound).kept =
        ap (with_rows taken) (sym (nothing_in on.later on.is)) ∙ on.left in
        going (ap (λ (own : Taken). own.begun) last)

-- the text is a journal's
pub whole_text : (text : List ℕ) (number : ℕ) (taken : Taken)
    → Reached text [] number taken → taken.begun ≡ [] → IsJournal text taken.ended taken.trees
whole_text text number taken so_far none =
    let all = took none_taken so_far.rows none_good so_far.fit so_far.follow in
    let good : IsGood taken = subst IsGood so_far.left all.good in
    let whole = whole_taken taken good none in
    let rows : taken_rows taken ≡ so_far.rows = ap taken_rows (sym so_far.left) ∙ all.is in
    record {
      sound = whole.0;
      full = good.full;
      is = so_far.split ∙ append-nil (rows_text so_far.raw) ∙ so_far.is
          ∙ ap (λ own. header_text ++ text_of_rows own) (sym (whole.1 ∙ rows))
          ∙ sym (journal_text_is taken.ended taken.trees);
    }

-- the first fault is that the header isn't there
pub fault_in_header : (text : List ℕ) → ((rest : List ℕ) → text ≢ header_text ++ rest)
    → IsFirstFault text 1
fault_in_header text none_there = record {
  rows = [];
  rest = text;
  split = refl;
  each = All-nil IsRow;
  count = refl;
  before = record { acts = []; lines = []; more = header_text; sound = empty; is = refl };
  none = next;
  no_journal = λ acts lines sound same.
      none_there (text_of_rows (journal_rows acts lines)) (same ∙ journal_text_is acts lines);
}
  where
    empty : IsSound [] []
    empty = record {
      ended = All-nil HasEnded;
      acts_fit = All-nil _;
      lines_fit = All-nil _;
      sessions = omega arith;
      trees = omega arith;
      places = All-nil _;
    }

    next : (row more : List ℕ) → IsRow row → text ≡ row ++ 10 ∷ more → ¬ BeginJournal (row ∷ [])
    next row more row_is_one split journal =
        let text_is = journal_text_is journal.acts journal.lines in
        let rows = text_of_rows (journal_rows journal.acts journal.lines) in
        let begins : row ++ 10 ∷ journal.more ≡ header_row ++ 10 ∷ rows =
        sym (append_assoc row (10 ∷ []) journal.more)
        ∙ ap (λ own. own ++ journal.more) (sym (append-nil (row ++ 10 ∷ [])))
        ∙ sym journal.is ∙ text_is in
        let cut = one_cut row header_row journal.more rows row_is_one header_is_row begins in
        none_there more (split ∙ ap (λ own. own ++ 10 ∷ more) cut.0)
