-- One row more is taken: what was taken stays sound, and its rows are one more.
use Rattle.std.proofs.Common.{◌≡◌, inl, inr, ℕ, ◌+◌, ◌<◌, ◌^◌, List, []}
use Rattle.std.proofs.Common.{◌∷◌, ◌++◌, length, refl, sym, ap, ◌∙◌, arith, map}
use Rattle.std.proofs.Common.{append_assoc, get_or, zero-add}
use Rattle.std.specs.List.{flat_map, enumerate_from, All}
use Rattle.std.proofs.lemmas.List.{append-nil, map-append, length_push}
use Rattle.std.proofs.lemmas.List.Elements.{All-head, All-tail, All-nil, All-push}
use Rattle.risk_board.specs.declared.hand.Line.{Line}
use Rattle.risk_journal.specs.Reading.{Taken, none_taken, with_act, put_line, with_row, MayFollow}
use Rattle.risk_journal.specs.Reading.{with_rows, MayAllFollow}
use Rattle.risk_journal.specs.Rows.{session_rows, journal_rows, FitsRow, FitsAct}
use Rattle.risk_journal.specs.JournalGrammar.{IsNoEnd, HasEnded, HasFullEnd, IsSound}
use Rattle.risk_journal.specs.declared.acts.Act.{Act}
use Rattle.risk_journal.specs.declared.acts.Act.TheVariants.{Post, Read, Sent, Refused, Noted}
use Rattle.risk_journal.specs.declared.acts.Act.TheVariants.{Ended}
use Rattle.risk_journal.specs.declared.acts.End.{End}
use Rattle.risk_journal.specs.declared.acts.End.TheVariants as ending
use Rattle.risk_journal.specs.declared.rows.Row.{Row}
use Rattle.risk_journal.specs.declared.rows.Row.TheVariants.{OfSession, OfTree}
use Rattle.risk_journal.proofs.RowLists.{numbered_push}
use Rattle.risk_journal.proofs.RowTexts.{AllFitAct, AllFitLine, IsShort}
use Rattle.risk_journal.proofs.TreeWalks.{length-put_line}
use Rattle.risk_journal.proofs.TakenRows.{IsGood, taken_rows, trees_rows, row_at}
use Rattle.risk_journal.proofs.TakenRows.{put_row}
use Rattle.risk_journal.proofs.TakenRows.{put_fits, put_short, put_full}

-- a sound state, with one row more
pub record Grows (taken : Taken) (row : Row) (next : Taken) : Type 0 where
  pub good : IsGood next
  pub rows : taken_rows next ≡ taken_rows taken ++ row ∷ []

row_before : (front mid own rest : List Row) → rest ≡ []
    → (front ++ (mid ++ own)) ++ rest ≡ ((front ++ mid) ++ rest) ++ own
row_before front mid own rest e =
    ap (λ last. (front ++ (mid ++ own)) ++ last) e
    ∙ append-nil (front ++ (mid ++ own))
    ∙ sym (append_assoc front mid own)
    ∙ ap (λ all. all ++ own)
    (sym (append-nil (front ++ mid)) ∙ ap (λ last. (front ++ mid) ++ last) (sym e))

going : (taken : Taken) (session : ℕ) (act : Act) → IsNoEnd act → IsGood taken
    → FitsRow (OfSession session act) → MayFollow taken (OfSession session act)
    → Grows taken (OfSession session act) (record taken { begun = taken.begun ++ act ∷ [] })
going taken session act on good fits follow = record {
  good = record {
    ended = good.ended;
    going = All-push IsNoEnd taken.begun act good.going on;
    acts_fit = good.acts_fit;
    begun_fit = All-push FitsAct taken.begun act good.begun_fit fits.1;
    lines_fit = good.lines_fit;
    sessions = good.sessions;
    trees = good.trees;
    places = good.places;
    full = good.full;
    apart = inr (follow.1, omega (arith, follow.0));
  };
  rows =
      ap (λ mid. (flat_map session_rows (enumerate_from 0 taken.ended) ++ mid)
      ++ trees_rows 0 taken.trees)
      (map-append (OfSession (length taken.ended)) taken.begun (act ∷ []))
      ∙ row_before (flat_map session_rows (enumerate_from 0 taken.ended))
      (map (OfSession (length taken.ended)) taken.begun)
      (OfSession (length taken.ended) act ∷ []) (trees_rows 0 taken.trees)
      (ap (trees_rows 0) follow.1)
      ∙ ap (λ number. taken_rows taken ++ OfSession number act ∷ []) (sym follow.0);
}

ending_one : (taken : Taken) (session : ℕ) (end : End) → IsGood taken
    → FitsRow (OfSession session (Ended end)) → MayFollow taken (OfSession session (Ended end))
    → Grows taken (OfSession session (Ended end)) (with_act taken (Ended end))
ending_one taken session end good fits follow =
    let acts = taken.begun ++ Ended end ∷ [] in
    let own : HasEnded acts = record {
      earlier = taken.begun;
      end = end;
      last = refl;
      only = good.going;
    } in
    let fit : All FitsAct acts =
    All-push FitsAct taken.begun (Ended end) good.begun_fit fits.1 in
    let front = flat_map session_rows (enumerate_from 0 taken.ended) in
    let rows = OfSession (length taken.ended) in
    record {
      good = record {
        ended = All-push HasEnded taken.ended acts good.ended own;
        going = All-nil IsNoEnd;
        acts_fit = All-push AllFitAct taken.ended acts good.acts_fit fit;
        begun_fit = All-nil FitsAct;
        lines_fit = good.lines_fit;
        sessions = omega (arith, length_push taken.ended acts, follow.0, fits.0);
        trees = good.trees;
        places = good.places;
        full = good.full;
        apart = inl refl;
      };
      rows =
          ap (λ own_rows. (own_rows ++ []) ++ trees_rows 0 taken.trees)
          (numbered_push session_rows 0 taken.ended acts)
          ∙ ap (λ own_rows. own_rows ++ trees_rows 0 taken.trees)
          (append-nil (front ++ session_rows (0 + length taken.ended, acts)))
          ∙ ap (λ number. (front ++ map (OfSession number) acts) ++ trees_rows 0 taken.trees)
          (zero-add (length taken.ended))
          ∙ ap (λ mid. (front ++ mid) ++ trees_rows 0 taken.trees)
          (map-append rows taken.begun (Ended end ∷ []))
          ∙ row_before front (map rows taken.begun) (rows (Ended end) ∷ [])
          (trees_rows 0 taken.trees) (ap (trees_rows 0) follow.1)
          ∙ ap (λ number. taken_rows taken ++ OfSession number (Ended end) ∷ []) (sym follow.0);
    }

act_grows : (taken : Taken) (session : ℕ) (act : Act) → IsGood taken
    → FitsRow (OfSession session act) → MayFollow taken (OfSession session act)
    → Grows taken (OfSession session act) (with_act taken act)
act_grows taken session (Post tree index value) = going taken session (Post tree index value) tt
act_grows taken session (Read tree stamp place value) =
    going taken session (Read tree stamp place value) tt
act_grows taken session (Sent frame) = going taken session (Sent frame) tt
act_grows taken session (Refused frame code first second) =
    going taken session (Refused frame code first second) tt
act_grows taken session (Noted frame code first second) =
    going taken session (Noted frame code first second) tt
act_grows taken session (Ended end) = ending_one taken session end

line_grows : (taken : Taken) (tree place : ℕ) (line : Line) → IsGood taken
    → FitsRow (OfTree tree place line) → MayFollow taken (OfTree tree place line)
    → Grows taken (OfTree tree place line) (record taken { trees = put_line taken.trees tree line })
line_grows taken tree place line good fits follow =
    let front = flat_map session_rows (enumerate_from 0 taken.ended)
    ++ map (OfSession (length taken.ended)) taken.begun in
    record {
      good = record {
        ended = good.ended;
        going = good.going;
        acts_fit = good.acts_fit;
        begun_fit = good.begun_fit;
        lines_fit = put_fits taken.trees tree line fits.2 good.lines_fit;
        sessions = good.sessions;
        trees = omega (arith, length-put_line taken.trees tree line follow.1, fits.0);
        places = put_short taken.trees tree line (omega (arith, follow.2, fits.1)) good.places;
        full = put_full taken.trees tree line follow.1;
        apart = inl follow.0;
      };
      rows =
          ap (λ rows. front ++ rows) (put_row 0 taken.trees tree line follow.1)
          ∙ sym (append_assoc front (trees_rows 0 taken.trees)
          (row_at (0 + tree) (length (get_or taken.trees tree []) + 1) line))
          ∙ ap (λ number. taken_rows taken
          ++ row_at number (length (get_or taken.trees tree []) + 1) line) (zero-add tree)
          ∙ ap (λ at. taken_rows taken ++ row_at tree at line) (sym follow.2);
    }

row_grows : (taken : Taken) (row : Row) → IsGood taken → FitsRow row → MayFollow taken row
    → Grows taken row (with_row taken row)
row_grows taken (OfSession session act) = act_grows taken session act
row_grows taken (OfTree tree place line) = line_grows taken tree place line

pub none_good : IsGood none_taken
none_good = record {
  ended = All-nil HasEnded;
  going = All-nil IsNoEnd;
  acts_fit = All-nil AllFitAct;
  begun_fit = All-nil FitsAct;
  lines_fit = All-nil AllFitLine;
  sessions = omega arith;
  trees = omega arith;
  places = All-nil IsShort;
  full = none_full;
  apart = inl refl;
}
  where
    none_full : HasFullEnd (let none : List (List Line) = [] in none)
    none_full [] e = absurd cc
    none_full (x ∷ front) e = absurd cc

-- rows that were taken one after another
pub record Took (from : Taken) (rows : List Row) : Type 0 where
  pub good : IsGood (with_rows from rows)
  pub is : taken_rows (with_rows from rows) ≡ taken_rows from ++ rows

pub took : (from : Taken) (rows : List Row) → IsGood from → All FitsRow rows
    → MayAllFollow from rows → Took from rows
took from [] good fit follow = record { good = good; is = sym (append-nil (taken_rows from)) }
took from (row ∷ rows) good fit follow =
    let one = row_grows from row good (All-head FitsRow row rows fit) follow.0 in
    let later = took (with_row from row) rows one.good (All-tail FitsRow row rows fit) follow.1 in
    record {
      good = later.good;
      is = later.is ∙ ap (λ own. own ++ rows) one.rows
          ∙ append_assoc (taken_rows from) (row ∷ []) rows;
    }

-- a sound journal that begins with these rows
pub record Begun (rows : List Row) : Type 0 where
  pub acts : List (List Act)
  pub lines : List (List Line)
  pub later : List Row
  pub sound : IsSound acts lines
  pub is : journal_rows acts lines ≡ rows ++ later

-- where no session goes on, what was taken is a journal
pub whole_taken : (taken : Taken) → IsGood taken → taken.begun ≡ []
    → IsSound taken.ended taken.trees × (journal_rows taken.ended taken.trees ≡ taken_rows taken)
whole_taken taken good e =
    let front = flat_map session_rows (enumerate_from 0 taken.ended) in
    let sound : IsSound taken.ended taken.trees = record {
      ended = good.ended;
      acts_fit = good.acts_fit;
      lines_fit = good.lines_fit;
      sessions = good.sessions;
      trees = good.trees;
      places = good.places;
    } in (
      sound,
      ap (λ own. own ++ trees_rows 0 taken.trees)
          (sym (append-nil front)
          ∙ ap (λ begun. front ++ map (OfSession (length taken.ended)) begun) (sym e)),
    )

closed : (taken : Taken) → IsGood taken → taken.trees ≡ [] → length taken.ended < 2 ^ 32
    → Begun (taken_rows taken)
closed taken good e few =
    let number = length taken.ended in
    let last = Ended ending.Whole in
    let grown = ending_one taken number ending.Whole good (few, tt) (refl, e) in
    let next = with_act taken last in
    let whole = whole_taken next grown.good refl in
    record {
      acts = next.ended;
      lines = next.trees;
      later = OfSession number last ∷ [];
      sound = whole.0;
      is = whole.1 ∙ grown.rows;
    }

pub begun_of : (taken : Taken) → IsGood taken → Begun (taken_rows taken)
begun_of taken good =
    elim good.apart [
      | inl e ↦ (let whole = whole_taken taken good e in
          record {
            acts = taken.ended;
            lines = taken.trees;
            later = [];
            sound = whole.0;
            is = whole.1 ∙ sym (append-nil (taken_rows taken));
          })
      | inr h ↦ closed taken good h.0 h.1
    ]
