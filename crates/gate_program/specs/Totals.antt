-- The totals of a run, from its sessions' acts and ends and the lines of its trees.
use Rattle.std.specs.Prelude.{◌≡◌, ℕ, ◌+◌, ◌^◌, ◌<◌, ◌≤◌, ◌==◌, List, [], ◌∷◌, ◌++◌, length, codes}
use Rattle.std.specs.Prelude.{nat_lt, count_by, All, slice_get}
use Rattle.std.specs.List.{AllByRecursion}
use Rattle.fold_law.specs.declared.limits.TheConstants.{LEAF}
use Rattle.std.specs.Prelude.{Bool, true, false, Option, Some, None, slice_index_or, if◌then◌else◌}
use Rattle.limit_table.specs.Places.{account_names, symbol_names}
use Rattle.limit_table.specs.declared.limits.Limits.{Limits}
use Rattle.risk_board.specs.declared.hand.Line.{Line}
use Rattle.risk_board.specs.History.{array_after, components_of}
use Rattle.risk_journal.specs.declared.acts.Act.{Act}
use Rattle.risk_journal.specs.declared.acts.Act.TheVariants as act
use Rattle.risk_journal.specs.declared.acts.End.{End}
use Rattle.risk_journal.specs.declared.acts.End.TheVariants as ending
use Rattle.risk_journal.specs.declared.totals.SessionTotal.{SessionTotal}
use Rattle.risk_journal.specs.declared.totals.TreeKind.{TreeKind}
use Rattle.risk_journal.specs.declared.totals.TreeKind.TheVariants as kind
use Rattle.risk_journal.specs.declared.totals.TreeTotal.{TreeTotal}
use Rattle.risk_journal.specs.TotalsText.{totals_text}
use Rattle.trail_replay.specs.Arrays.{AreLines}
use Rattle.limit_table.specs.Trees.{halt_tree, fold_of, limit_of}

abbrev pub is_sent : Act → Bool
is_sent (act.Sent frame) = true
is_sent other = false

abbrev pub is_refused : Act → Bool
is_refused (act.Refused frame code first second) = true
is_refused other = false

abbrev pub is_noted : Act → Bool
is_noted (act.Noted frame code first second) = true
is_noted other = false

-- how a session ended, and how many orders it sent and refused and how many frames it noted
abbrev pub session_total : End → List Act → SessionTotal
session_total end acts = record {
  end = end;
  sent = count_by is_sent acts;
  refused = count_by is_refused acts;
  noted = count_by is_noted acts;
}

-- the totals of the sessions, in their order
abbrev pub session_totals : List End → List (List Act) → List SessionTotal
session_totals [] acts = []
session_totals (end ∷ ends) [] = []
session_totals (end ∷ ends) (own ∷ acts) = session_total end own ∷ session_totals ends acts

-- there is a session with this number, and its acts can be counted
pub record IsCountable (ends : List End) (acts : List (List Act)) (session : ℕ) : Type 0 where
  pub ended : session < length ends
  pub acted : session < length acts
  pub few : length (slice_index_or acts session []) < 2 ^ 32

-- the total of the session with this number
abbrev pub total_at : List End → List (List Act) → ℕ → SessionTotal
total_at ends acts session =
    session_total (slice_index_or ends session ending.Whole) (slice_index_or acts session [])

-- what a tree sums up: the firm's is the first, the accounts' and the symbols' follow
abbrev pub kind_of : Limits → ℕ → TreeKind
kind_of limits tree =
    if tree == 0 then kind.Firm
    else (if nat_lt tree (1 + length limits.accounts) then kind.Account
    else (if nat_lt tree (halt_tree limits) then kind.Symbol else kind.Halt))

-- the names of the trees, where the firm's has none
abbrev pub tree_names : Limits → List (List ℕ)
tree_names limits = codes "-" ∷ account_names limits.accounts ++ symbol_names limits.symbols

-- the name of a tree: the halt tree has none
abbrev pub name_of : Limits → ℕ → List ℕ
name_of limits tree = slice_index_or (tree_names limits) tree (codes "-")

abbrev pub or_zero : Option ℕ → ℕ
or_zero None = 0
or_zero (Some n) = n

-- how a tree stands after its lines: its root is the fold of the plain array behind the last of
-- them
abbrev pub tree_total : Limits → ℕ → ℕ → List Line → TreeTotal
tree_total limits sessions tree own = record {
  kind = kind_of limits tree;
  name = name_of limits tree;
  posts = length own;
  root = fold_of limits tree (array_after 0 (components_of sessions) own);
  limit = or_zero (limit_of limits tree);
}

-- the totals of the trees from this one on, in the order of their numbers
abbrev pub tree_totals_from : Limits → ℕ → ℕ → List (List Line) → List TreeTotal
tree_totals_from limits sessions tree [] = []
tree_totals_from limits sessions tree (own ∷ lines) =
    tree_total limits sessions tree own ∷ tree_totals_from limits sessions (tree + 1) lines

-- the text of the totals of a run with these limits
abbrev pub totals_of : Limits → List (List Act) → List End → List (List Line) → ℕ → List ℕ
totals_of limits acts ends lines status =
    totals_text (session_totals ends acts) (tree_totals_from limits (length acts) 0 lines) status

-- the lines of a tree have a total: each is of one of so many sessions and has a leaf value, a `u32`
-- counts them, and the array behind them has leaf values alone
pub record HasTotal (many : ℕ) (own : List Line) : Type 0 where
  pub sessions : AllByRecursion (λ line. line.session < many) own
  pub few : length own < 2 ^ 32
  pub lines : AreLines LEAF own
  pub leaves : All (λ value. value ≤ LEAF) (array_after 0 (components_of many) own)

-- so have those of each tree
abbrev pub HaveTotals : ℕ → List (List Line) → Type 0
HaveTotals sessions lines =
    (tree : ℕ) (own : List Line) → slice_get lines tree ≡ Some own → HasTotal sessions own
