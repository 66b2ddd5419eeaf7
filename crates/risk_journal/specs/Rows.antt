-- The rows of a journal behind its header: their columns, their text, and which numbers they hold.
use Rattle.std.specs.Prelude.{ℕ, ◌<◌, ◌^◌, List, [], ◌∷◌, ◌++◌, map, codes, decimal, ⊤}
use Rattle.std.specs.Prelude.{Option, Some, None}
use Rattle.std.specs.List.{flat_map, enumerate_from}
use Rattle.risk_board.specs.declared.hand.Line.{Line}
use Rattle.risk_journal.specs.JournalText.{row_text, act_text, line_text, end_number}
use Rattle.risk_journal.specs.RowCells.{cell_text}
use Rattle.risk_journal.specs.declared.acts.Act.{Act}
use Rattle.risk_journal.specs.declared.acts.Act.TheVariants.{Post, Read, Sent, Refused, Noted}
use Rattle.risk_journal.specs.declared.acts.Act.TheVariants.{Ended}
use Rattle.risk_journal.specs.declared.acts.End.{End}
use Rattle.risk_journal.specs.declared.acts.End.TheVariants as ending
use Rattle.risk_journal.specs.declared.rows.Row.{Row}
use Rattle.risk_journal.specs.declared.rows.Row.TheVariants.{OfSession, OfTree}
use Rattle.risk_journal.specs.declared.rows.Kind.{Kind}
use Rattle.risk_journal.specs.declared.rows.Kind.TheVariants as kind
use Rattle.risk_journal.specs.declared.rows.Columns.{Columns}

-- each number of an end fits its type
abbrev pub FitsEnd : End → Type 0
FitsEnd ending.Whole = ⊤
FitsEnd (ending.Cut place) = place < 2 ^ 64
FitsEnd (ending.Broken place) = place < 2 ^ 64
FitsEnd (ending.TooLong place) = place < 2 ^ 64
FitsEnd ending.ReadFault = ⊤
FitsEnd ending.WriteFault = ⊤
FitsEnd ending.Memory = ⊤

-- each number of an act fits its type
abbrev pub FitsAct : Act → Type 0
FitsAct (Post tree index value) = (tree < 2 ^ 32) × (index < 2 ^ 32) × (value < 2 ^ 64)
FitsAct (Read tree stamp place value) =
    (tree < 2 ^ 32) × (stamp < 2 ^ 32) × (place < 2 ^ 32) × (value < 2 ^ 64)
FitsAct (Sent frame) = frame < 2 ^ 32
FitsAct (Refused frame code first second) =
    (frame < 2 ^ 32) × (code < 2 ^ 8) × (first < 2 ^ 32) × (second < 2 ^ 32)
FitsAct (Noted frame code first second) =
    (frame < 2 ^ 32) × (code < 2 ^ 8) × (first < 2 ^ 32) × (second < 2 ^ 32)
FitsAct (Ended end) = FitsEnd end

-- each number of a line fits its type
abbrev pub FitsLine : Line → Type 0
FitsLine line = (line.session < 2 ^ 32) × (line.index < 2 ^ 32) × (line.value < 2 ^ 64)

-- each number of a row fits its type
abbrev pub FitsRow : Row → Type 0
FitsRow (OfSession session act) = (session < 2 ^ 32) × FitsAct act
FitsRow (OfTree tree place line) = (tree < 2 ^ 32) × (place < 2 ^ 32) × FitsLine line

-- the text of a row
abbrev pub text_of_row : Row → List ℕ
text_of_row (OfSession session act) = act_text session act
text_of_row (OfTree tree place line) = line_text tree place line

-- the rows of a session
abbrev pub session_rows : ℕ × List Act → List Row
session_rows numbered = map (OfSession numbered.0) numbered.1

-- the rows of a tree, its places from 1
abbrev pub tree_rows : ℕ × List Line → List Row
tree_rows numbered =
    map (λ placed. OfTree numbered.0 placed.0 placed.1) (enumerate_from 1 numbered.1)

-- the rows of a journal
abbrev pub journal_rows : List (List Act) → List (List Line) → List Row
journal_rows acts lines =
    flat_map session_rows (enumerate_from 0 acts) ++ flat_map tree_rows (enumerate_from 0 lines)

-- the word of a kind of row
abbrev pub kind_text : Kind → List ℕ
kind_text kind.Post = codes "post"
kind_text kind.Read = codes "read"
kind_text kind.Sent = codes "sent"
kind_text kind.Refused = codes "refused"
kind_text kind.Noted = codes "noted"
kind_text kind.Ended = codes "ended"
kind_text kind.Line = codes "line"

-- the place of an end as a column
abbrev pub end_column : End → Option ℕ
end_column ending.Whole = None
end_column (ending.Cut place) = Some place
end_column (ending.Broken place) = Some place
end_column (ending.TooLong place) = Some place
end_column ending.ReadFault = None
end_column ending.WriteFault = None
end_column ending.Memory = None

-- columns with these last four
abbrev pub columns_in : Kind → ℕ → Option ℕ → Option ℕ → Option ℕ → Option ℕ → Columns
columns_in own number p q r s = record {
  kind = own;
  session = number;
  a = p;
  b = q;
  c = r;
  d = s;
}

-- the columns of an act of a session
abbrev pub act_columns : ℕ → Act → Columns
act_columns session (Post tree index value) = record {
  kind = kind.Post;
  session = session;
  a = Some tree;
  b = Some index;
  c = Some value;
  d = None;
}
act_columns session (Read tree stamp place value) = record {
  kind = kind.Read;
  session = session;
  a = Some tree;
  b = Some stamp;
  c = Some place;
  d = Some value;
}
act_columns session (Sent frame) = record {
  kind = kind.Sent;
  session = session;
  a = Some frame;
  b = None;
  c = None;
  d = None;
}
act_columns session (Refused frame code first second) = record {
  kind = kind.Refused;
  session = session;
  a = Some frame;
  b = Some code;
  c = Some first;
  d = Some second;
}
act_columns session (Noted frame code first second) = record {
  kind = kind.Noted;
  session = session;
  a = Some frame;
  b = Some code;
  c = Some first;
  d = Some second;
}
act_columns session (Ended end) = record {
  kind = kind.Ended;
  session = session;
  a = Some (end_number end);
  b = end_column end;
  c = None;
  d = None;
}

-- the columns of a row
abbrev pub columns_of : Row → Columns
columns_of (OfSession session act) = act_columns session act
columns_of (OfTree tree place line) = record {
  kind = kind.Line;
  session = line.session;
  a = Some tree;
  b = Some place;
  c = Some line.index;
  d = Some line.value;
}

-- a column is empty or a number that fits
abbrev pub FitsColumn : Option ℕ → Type 0
FitsColumn None = ⊤
FitsColumn (Some number) = number < 2 ^ 64

-- each column fits
pub record FitColumns (columns : Columns) : Type 0 where
  pub session : columns.session < 2 ^ 64
  pub a : FitsColumn columns.a
  pub b : FitsColumn columns.b
  pub c : FitsColumn columns.c
  pub d : FitsColumn columns.d

-- the cells of columns
abbrev pub column_cells : Columns → List (List ℕ)
column_cells columns =
    kind_text columns.kind ∷ decimal columns.session ∷ cell_text columns.a ∷ cell_text columns.b
    ∷ cell_text columns.c ∷ cell_text columns.d ∷ []

-- the text of columns
abbrev pub columns_text : Columns → List ℕ
columns_text columns = row_text (column_cells columns)
