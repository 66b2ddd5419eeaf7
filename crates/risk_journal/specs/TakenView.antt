-- What a reading has taken, as lists; and a row that is taken by its text.
use Rattle.std.specs.Prelude.{◌≡◌, ℕ, List, [], ◌∷◌, ◌++◌, map, ◌+◌, length}
use Rattle.std.specs.List.{flat_map, All}
use Rattle.risk_journal.specs.JournalText.{header_text}
use Rattle.risk_journal.specs.JournalGrammar.{rows_text, IsRow}
use Rattle.risk_journal.specs.Reading.{Taken, none_taken, with_row, with_rows, MayFollow}
use Rattle.risk_journal.specs.Reading.{MayAllFollow}
use Rattle.risk_journal.specs.Rows.{FitsRow, text_of_row}
use Rattle.risk_journal.specs.SparseTrees.{expand_from}
use Rattle.risk_journal.specs.declared.reading.Reading.{Reading}
use Rattle.risk_journal.specs.declared.rows.Row.{Row}

-- what was taken
abbrev pub taken_of : Reading → Taken
taken_of reading = record {
  ended = map (λ own. own.items) reading.ended.items;
  begun = reading.begun.items;
  trees = expand_from 0 reading.trees.items;
}

-- the row of this text, without its LF, is taken
pub record TakesRow (before : Taken) (line : List ℕ) (after : Taken) : Type 0 where
  pub row : Row
  pub fits : FitsRow row
  pub text : text_of_row row ≡ line ++ 10 ∷ []
  pub follows : MayFollow before row
  pub is : after ≡ with_row before row

-- no row that fits, has this text without its LF and may come next
abbrev pub IsRefused : Taken → List ℕ → Type 0
IsRefused taken line =
    (row : Row) → FitsRow row → text_of_row row ≡ line ++ 10 ∷ [] → ¬ MayFollow taken row

-- the text up to here is these rows, and this was taken of them
pub record Reached (text rest : List ℕ) (number : ℕ) (taken : Taken) : Type 0 where
  pub raw : List (List ℕ)
  pub rows : List Row
  pub split : text ≡ rows_text raw ++ rest
  pub each : All IsRow raw
  pub count : number ≡ length raw + 1
  pub is : rows_text raw ≡ header_text ++ flat_map text_of_row rows
  pub fit : All FitsRow rows
  pub follow : MayAllFollow none_taken rows
  pub left : with_rows none_taken rows ≡ taken
