-- A journal has at most as many rows behind its header as its text has bytes.
use Rattle.std.proofs.Common.{ℕ, ◌+◌, ◌≤◌, List, [], ◌∷◌, ◌++◌, length, ap, arith, length-append}
use Rattle.std.specs.Prelude.{codes, decimal}
use Rattle.std.specs.List.{flat_map, enumerate_from, join_with_byte}
use Rattle.std.proofs.lemmas.List.FromFn.{length-enumerate_from}
use Rattle.risk_board.specs.declared.hand.Line.{Line}
use Rattle.risk_journal.specs.JournalGrammar.{IsJournal}
use Rattle.risk_journal.specs.JournalText.{row_text, act_cells, act_text, line_text, session_text, tree_text}
use Rattle.risk_journal.specs.JournalText.{header_text}
use Rattle.risk_journal.specs.declared.acts.Act.{Act}
use Rattle.journal_check.specs.RowNumbers.{count_all}
use Rattle.journal_check.proofs.Counts.{count-cons}

row_some : (cells : List (List ℕ)) → 1 ≤ length (row_text cells)
row_some cells = omega (arith, length-append (join_with_byte 44 cells) (10 ∷ []))

line_some : (tree place : ℕ) (line : Line) → 1 ≤ length (line_text tree place line)
line_some tree place line =
    row_some (codes "line" ∷ decimal line.session ∷ decimal tree ∷ decimal place ∷ decimal line.index
    ∷ decimal line.value ∷ [])

texts_long : {X : Type 0} (text : X → List ℕ) → ((x : X) → 1 ≤ length (text x)) → (xs : List X)
    → length xs ≤ length (flat_map text xs)
texts_long text some [] = omega arith
texts_long text some (x ∷ xs) =
    omega (arith, some x, texts_long text some xs, length-append (text x) (flat_map text xs))

sessions_long : (first : ℕ) (acts : List (List Act))
    → count_all acts ≤ length (flat_map session_text (enumerate_from first acts))
sessions_long first [] = omega arith
sessions_long first (own ∷ acts) =
    omega (
      arith,
      count-cons own acts,
      texts_long (act_text first) (λ act. row_some (act_cells first act)) own,
      sessions_long (first + 1) acts,
      length-append (flat_map (act_text first) own) (flat_map session_text (enumerate_from (first + 1) acts)),
    )

trees_long : (first : ℕ) (lines : List (List Line))
    → count_all lines ≤ length (flat_map tree_text (enumerate_from first lines))
trees_long first [] = omega arith
trees_long first (own ∷ lines) =
    omega (
      arith,
      count-cons own lines,
      texts_long (λ (placed : ℕ × Line). line_text first placed.0 placed.1) (λ placed. line_some first placed.0 placed.1)
          (enumerate_from 1 own),
      length-enumerate_from 1 own,
      trees_long (first + 1) lines,
      length-append (flat_map (λ (placed : ℕ × Line). line_text first placed.0 placed.1) (enumerate_from 1 own))
          (flat_map tree_text (enumerate_from (first + 1) lines)),
    )

-- the rows are few where the text is short
pub rows_within : (text : List ℕ) (acts : List (List Act)) (lines : List (List Line))
    → IsJournal text acts lines → count_all acts + count_all lines ≤ length text
rows_within text acts lines journal =
    let sessions = flat_map session_text (enumerate_from 0 acts) in
    let trees = flat_map tree_text (enumerate_from 0 lines) in
    omega (
      arith,
      ap length journal.is,
      sessions_long 0 acts,
      trees_long 0 lines,
      length-append header_text sessions,
      length-append (header_text ++ sessions) trees,
    )
