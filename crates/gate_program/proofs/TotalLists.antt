-- Totals of one session and of one tree more, and what the limit file says of a tree.
use Rattle.std.proofs.Common.{◌≡◌, ℕ, suc, ◌+◌, ◌<◌, ◌≤◌, List, [], ◌∷◌, ◌++◌, length, map, take}
use Rattle.std.proofs.Common.{refl, sym, ap}
use Rattle.std.proofs.Common.{◌∙◌, arith, Vec, Global, codes, length-append}
use Rattle.std.proofs.lemmas.List.{map-append, length-map}
use Rattle.std.proofs.lemmas.Option.{slice_get_past, get_or_from_slice_get}
use Rattle.std.specs.Prelude.{Some, slice_get}
use Rattle.std.specs.List.{AllByRecursion}
use Rattle.limit_table.specs.declared.kind.AccountRow.{AccountRow}
use Rattle.limit_table.specs.declared.kind.SymbolRow.{SymbolRow}
use Rattle.limit_table.specs.declared.limits.Limits.{Limits}
use Rattle.limit_table.specs.Places.{account_names, symbol_names}
use Rattle.risk_board.specs.declared.hand.Line.{Line}
use Rattle.risk_journal.specs.declared.acts.Act.{Act}
use Rattle.risk_journal.specs.declared.acts.End.{End}
use Rattle.risk_journal.specs.declared.totals.SessionTotal.{SessionTotal}
use Rattle.risk_journal.specs.declared.totals.TreeTotal.{TreeTotal}
use Rattle.limit_table.specs.Trees.{limit_of, account_limits, symbol_limits, tree_limits}
use Rattle.gate_program.specs.Totals.{session_total, session_totals, tree_total, tree_totals_from}
use Rattle.gate_program.specs.Totals.{or_zero, name_of, tree_names}
use Rattle.gate_files.proofs.Lists.{take_one, map_at, there_still, behind}

-- the totals of one session more
pub session_pushed : (ends : List End) (acts : List (List Act)) (end : End) (own : List Act)
    → length ends ≡ length acts
    → session_totals (ends ++ end ∷ []) (acts ++ own ∷ [])
    ≡ session_totals ends acts ++ session_total end own ∷ []
session_pushed [] [] end own same = refl
session_pushed [] (first ∷ acts) end own same = absurd (omega arith)
session_pushed (first ∷ ends) [] end own same = absurd (omega arith)
session_pushed (e ∷ ends) (a ∷ acts) end own same =
    ap (λ (l : List SessionTotal). session_total e a ∷ l)
    (session_pushed ends acts end own (omega arith))

tree_pushed : (limits : Limits) (sessions tree : ℕ) (lines : List (List Line)) (own : List Line)
    → tree_totals_from limits sessions tree (lines ++ own ∷ [])
    ≡ tree_totals_from limits sessions tree lines
    ++ tree_total limits sessions (tree + length lines) own ∷ []
tree_pushed limits sessions tree [] own =
    ap (λ (n : ℕ). tree_total limits sessions n own ∷ []) (omega arith)
tree_pushed limits sessions tree (first ∷ lines) own =
    ap (λ (l : List TreeTotal). tree_total limits sessions tree first ∷ l)
    (tree_pushed limits sessions (tree + 1) lines own
    ∙ ap (λ (n : ℕ). tree_totals_from limits sessions (tree + 1) lines
    ++ tree_total limits sessions n own ∷ []) (counted tree (length lines))) where
      counted : (a b : ℕ) → a + 1 + b ≡ a + suc b
      counted a b = omega arith

-- the total of one tree more
pub one_tree : (limits : Limits) (sessions place : ℕ) (lines : List (Vec Line Global))
    (own : Vec Line Global) (all pushed : List TreeTotal) (total : TreeTotal) (items : List Line)
    → slice_get lines place ≡ Some own
    → all ≡ tree_totals_from limits sessions 0 (map (λ l. l.items) (take place lines))
    → pushed ≡ all ++ total ∷ [] → total ≡ tree_total limits sessions place items → items ≡
    own.items
    → length (take place lines) ≡ place
    → pushed ≡ tree_totals_from limits sessions 0 (map (λ l. l.items) (take (place + 1) lines))
one_tree limits sessions place lines own all pushed total items at so_far is total_is items_are
    count =
    let before : List (List Line) = map (λ l. l.items) (take place lines) in
    let counted : 0 + length before ≡ place =
    omega (arith, length-map (take place lines) (λ l. l.items), count) in
    is ∙ ap (λ (l : List TreeTotal). l ++ total ∷ []) so_far
    ∙ ap (λ (t : TreeTotal). tree_totals_from limits sessions 0 before ++ t ∷ [])
    (total_is ∙ ap (tree_total limits sessions place) items_are
    ∙ ap (λ (n : ℕ). tree_total limits sessions n own.items) (sym counted))
    ∙ sym (tree_pushed limits sessions 0 before own.items)
    ∙ sym (ap (tree_totals_from limits sessions 0)
    (ap (λ (l : List (Vec Line Global)). map (λ v. v.items) l) (take_one lines place own at)
    ∙ map-append (λ (v : Vec Line Global). v.items) (take place lines) (own ∷ [])))

-- lines of fewer sessions are of more
pub of_more : (few more : ℕ) (lines : List Line) → few ≤ more
    → AllByRecursion (λ line. line.session < few) lines
    → AllByRecursion (λ line. line.session < more) lines
of_more few more [] le all = tt
of_more few more (line ∷ lines) le all = (omega (arith, all.0), of_more few more lines le all.1)

-- the limit of an account's tree
pub account_limit : (limits : Limits) (tree place : ℕ) (row : AccountRow) → tree ≡ suc place
    → slice_get limits.accounts place ≡ Some row → row.limit ≡ or_zero (limit_of limits tree)
account_limit limits tree place row is at =
    sym (ap (λ (n : ℕ). or_zero (limit_of limits n)) is
    ∙ ap or_zero (there_still (account_limits limits.accounts) (symbol_limits limits.symbols) place
    row.limit (map_at (λ (r : AccountRow). r.limit) limits.accounts place row at)))

symbol_at : (limits : Limits) (place : ℕ) (row : SymbolRow) → slice_get limits.symbols place ≡ Some
    row
    → slice_get (account_limits limits.accounts ++ symbol_limits limits.symbols)
    (length limits.accounts + place) ≡ Some row.limit
symbol_at limits place row at =
    ap (λ (n : ℕ). slice_get (account_limits limits.accounts ++ symbol_limits limits.symbols)
    (n + place))
    (sym (length-map limits.accounts (λ (r : AccountRow). r.limit)))
    ∙ behind (account_limits limits.accounts) (symbol_limits limits.symbols) place
    ∙ map_at (λ (r : SymbolRow). r.limit) limits.symbols place row at

-- the limit and the name of a symbol's tree
pub symbol_limit : (limits : Limits) (tree place : ℕ) (row : SymbolRow)
    → tree ≡ suc (length limits.accounts + place)
    → slice_get limits.symbols place ≡ Some row → row.limit ≡ or_zero (limit_of limits tree)
symbol_limit limits tree place row is at =
    sym (ap (λ (n : ℕ). or_zero (limit_of limits n)) is ∙ ap or_zero
    (symbol_at limits place row at))

pub symbol_name : (limits : Limits) (tree place : ℕ) (row : SymbolRow)
    → tree ≡ suc (length limits.accounts + place)
    → slice_get limits.symbols place ≡ Some row → row.name ≡ name_of limits tree
symbol_name limits tree place row is at =
    sym (get_or_from_slice_get (tree_names limits) tree row.name (codes "-")
    (ap (slice_get (tree_names limits)) is
    ∙ ap (λ (n : ℕ). slice_get (account_names limits.accounts ++ symbol_names limits.symbols)
    (n + place))
    (sym (length-map limits.accounts (λ (r : AccountRow). r.name)))
    ∙ behind (account_names limits.accounts) (symbol_names limits.symbols) place
    ∙ map_at (λ (r : SymbolRow). r.name) limits.symbols place row at))

-- the halt tree has no limit
pub halt_limit : (limits : Limits) (tree : ℕ)
    → 1 + length limits.accounts + length limits.symbols ≤ tree → 0 ≡ or_zero (limit_of limits tree)
halt_limit limits tree above =
    sym (ap or_zero (slice_get_past (tree_limits limits) tree (omega (
      arith,
      length-append (account_limits limits.accounts) (symbol_limits limits.symbols),
      length-map limits.accounts (λ row. row.limit),
      length-map limits.symbols (λ row. row.limit),
      above,
    ))))
