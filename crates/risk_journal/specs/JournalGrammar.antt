-- Which texts are a journal's, and otherwise which row is the first that no journal has there.
use Rattle.std.specs.Prelude.{◌≡◌, ◌≢◌, ℕ, ◌+◌, ◌<◌, ◌≤◌, ◌^◌, List, [], ◌∷◌, ◌++◌, length, ⊤}
use Rattle.std.specs.Prelude.{replicate}
use Rattle.std.specs.List.{flat_map, All}
use Rattle.risk_board.specs.declared.hand.Line.{Line}
use Rattle.risk_journal.specs.JournalText.{journal_text}
use Rattle.risk_journal.specs.Rows.{FitsAct, FitsLine}
use Rattle.risk_journal.specs.declared.acts.Act.{Act}
use Rattle.risk_journal.specs.declared.acts.Act.TheVariants.{Post, Read, Sent, Refused, Noted}
use Rattle.risk_journal.specs.declared.acts.Act.TheVariants.{Ended}
use Rattle.risk_journal.specs.declared.acts.End.{End}

-- the act isn't an end
abbrev pub IsNoEnd : Act → Type 0
IsNoEnd (Post tree index value) = ⊤
IsNoEnd (Read tree stamp place value) = ⊤
IsNoEnd (Sent frame) = ⊤
IsNoEnd (Refused frame code first second) = ⊤
IsNoEnd (Noted frame code first second) = ⊤
IsNoEnd (Ended end) = ⊥

-- the acts are those of a session that ended: the last is the only end
pub record HasEnded (acts : List Act) : Type 0 where
  pub earlier : List Act
  pub end : End
  pub last : acts ≡ earlier ++ Ended end ∷ []
  pub only : All IsNoEnd earlier

-- each session has ended, and each number of each row fits its type: the sessions' and the trees'
-- numbers from 0, the places of a tree's lines from 1
pub record IsSound (acts : List (List Act)) (lines : List (List Line)) : Type 0 where
  pub ended : All HasEnded acts
  pub acts_fit : All (λ own. All FitsAct own) acts
  pub lines_fit : All (λ own. All FitsLine own) lines
  pub sessions : length acts ≤ 2 ^ 32
  pub trees : length lines ≤ 2 ^ 32
  pub places : All (λ own. length own < 2 ^ 32) lines

-- the last list isn't empty, if there is one
abbrev pub HasFullEnd : {X : Type 0} → List (List X) → Type 0
HasFullEnd {X} lists = (front : List (List X)) → lists ≢ front ++ [] ∷ []

-- the same trees with the empty ones at the end left off
pub record IsWithoutEmptyEnd (all trees : List (List Line)) : Type 0 where
  pub empty : ℕ
  pub is : all ≡ trees ++ replicate empty []
  pub full : HasFullEnd trees

-- the text is that of a journal with these acts and lines, no empty tree being the last
pub record IsJournal (text : List ℕ) (acts : List (List Act)) (lines : List (List Line))
    : Type 0 where
  pub sound : IsSound acts lines
  pub full : HasFullEnd lines
  pub is : text ≡ journal_text acts lines

-- rows of a text, each with LF behind
abbrev pub rows_text : List (List ℕ) → List ℕ
rows_text rows = flat_map (λ row. row ++ 10 ∷ []) rows

-- a row has no LF in it
abbrev pub IsRow : List ℕ → Type 0
IsRow row = All (λ byte. byte ≢ 10) row

-- some journal's text begins with these rows
pub record BeginJournal (rows : List (List ℕ)) : Type 0 where
  pub acts : List (List Act)
  pub lines : List (List Line)
  pub more : List ℕ
  pub sound : IsSound acts lines
  pub is : journal_text acts lines ≡ rows_text rows ++ more

-- no journal has this text
abbrev pub IsNoJournal : List ℕ → Type 0
IsNoJournal text =
    (acts : List (List Act)) (lines : List (List Line)) → IsSound acts lines
    → text ≢ journal_text acts lines

-- The row with this number, from 1, is the first fault of the text: some journal begins with the
-- rows before it, none with that row too, if a whole row follows, and the text is no journal's.
pub record IsFirstFault (text : List ℕ) (number : ℕ) : Type 0 where
  pub rows : List (List ℕ)
  pub rest : List ℕ
  pub split : text ≡ rows_text rows ++ rest
  pub each : All IsRow rows
  pub count : number ≡ length rows + 1
  pub before : BeginJournal rows
  pub none : (row more : List ℕ) → IsRow row → rest ≡ row ++ 10 ∷ more
      → ¬ BeginJournal (rows ++ row ∷ [])
  pub no_journal : IsNoJournal text
