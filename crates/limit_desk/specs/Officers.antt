-- Officer files: what a row sets, and which fault is the first.
use Rattle.std.specs.Prelude.{◌≡◌, ℕ, ◌+◌, ◌-◌, ◌≤◌, ◌⊎◌, List, [], ◌∷◌, length, Option, Some, None}
use Rattle.std.specs.Prelude.{Result, Ok, Err, not, ◌==◌, ◌&&◌, nat_le, nat_lt, if◌then◌else◌, codes}
use Rattle.std.specs.Prelude.{option_map}
use Rattle.std.specs.List.{position}
use Rattle.std.specs.Str.Parse.{digits_value}
use Rattle.limit_table.specs.Columns.{column, is_empty, is_number}
use Rattle.limit_table.specs.Files.{AreRows, BeginsWithRows, IsTooLong, bytes_most}
use Rattle.limit_table.specs.Kinds.{same_text}
use Rattle.limit_table.specs.Trees.{LimitsValue, account_tree, symbol_tree}
use Rattle.limit_table.specs.declared.fault.LimitFault.{LimitFault}
use Rattle.limit_table.specs.declared.fault.LimitFault.TheVariants as fault
use Rattle.limit_desk.specs.declared.least.TheConstants.{OPEN}
use Rattle.limit_desk.specs.declared.officer.OfficerKind.{OfficerKind}
use Rattle.limit_desk.specs.declared.officer.OfficerKind.TheVariants as kind
use Rattle.limit_desk.specs.declared.officer.OfficerRow.{OfficerRow}
use Rattle.limit_desk.specs.declared.officer.OfficerTree.TheVariants as tree

infixl 10 ◌>>=◌
-- the first fault, or what comes of the value
abbrev pub ◌>>=◌ : {A B : Type 0} → Result A LimitFault → (A → Result B LimitFault)
    → Result B LimitFault
(Ok x) >>= f = f x
(Err e) >>= f = Err e

-- the kind with this name
abbrev pub kind_named : List ℕ → Option OfficerKind
kind_named word =
    if same_text word (codes "firm") then Some kind.Firm
    else if same_text word (codes "account") then Some kind.Account
    else if same_text word (codes "symbol") then Some kind.Symbol
    else if same_text word (codes "halt") then Some kind.Halt
    else None

-- a number of 1 to 12 digits, at most so much
abbrev pub value_in : ℕ → ℕ → List ℕ → Result ℕ LimitFault
value_in number most text =
    if is_number text && nat_le (digits_value 10 text) most then Ok (digits_value 10 text)
    else Err (fault.Number number)

-- a number below that of no limit, or `none`
abbrev pub limit_in : ℕ → List ℕ → Result ℕ LimitFault
limit_in number text =
    if same_text text (codes "none") then Ok OPEN else value_in number (OPEN - 1) text

-- the tree of the account of this name
abbrev pub account_named : LimitsValue → List ℕ → Option ℕ
account_named limits name =
    option_map account_tree (position (λ row. same_text row.name name) limits.accounts)

-- the tree of the symbol of this name
abbrev pub symbol_named : LimitsValue → List ℕ → Option ℕ
symbol_named limits name =
    option_map (symbol_tree limits) (position (λ row. same_text row.name name) limits.symbols)

-- a post of the value in the limit tree of this tree, if there is one
abbrev pub named_row : ℕ → Option ℕ → ℕ → Result OfficerRow LimitFault
named_row number None value = Err (fault.Name number)
named_row number (Some place) value = Ok (record { tree = tree.Limit place; value = value })

-- what a row of this kind sets by its name and its third column
abbrev pub row_by : LimitsValue → ℕ → OfficerKind → List ℕ → List ℕ
    → Result OfficerRow LimitFault
row_by limits number kind.Firm name text =
    if not (is_empty name) then Err (fault.RowShape number)
    else (limit_in number text >>= (λ value. named_row number (Some 0) value))
row_by limits number kind.Account name text =
    limit_in number text >>= (λ value. named_row number (account_named limits name) value)
row_by limits number kind.Symbol name text =
    limit_in number text >>= (λ value. named_row number (symbol_named limits name) value)
row_by limits number kind.Halt name text =
    if not (is_empty name) then Err (fault.RowShape number)
    else (value_in number 1 text >>= (λ value. Ok (record { tree = tree.Halt; value = value })))

-- the same where the first column may name no kind
abbrev pub row_named : LimitsValue → ℕ → Option OfficerKind → List ℕ → List ℕ
    → Result OfficerRow LimitFault
row_named limits number None name text = Err (fault.Kind number)
row_named limits number (Some k) name text = row_by limits number k name text

-- what the row with this number, from 1, sets, or the first thing that is wrong with it by itself
abbrev pub row_of : LimitsValue → ℕ → List (List ℕ) → Result OfficerRow LimitFault
row_of limits number fields =
    if not (length fields == 3) then Err (fault.RowShape number)
    else row_named limits number (kind_named (column fields 0)) (column fields 1) (column fields 2)

-- the most rows
abbrev pub rows_most : ℕ
rows_most = 50000

-- the same row, unless there are as many before it already as there may be
abbrev pub row_at : LimitsValue → ℕ → List (List ℕ) → Result OfficerRow LimitFault
row_at limits number fields =
    row_of limits number fields
    >>= (λ row. if nat_lt rows_most number then Err (fault.TooMany number) else Ok row)

-- what the rows from a number on set, in order, or the first fault of the first with one
abbrev pub rows_from : LimitsValue → ℕ → List (List (List ℕ)) → Result (List OfficerRow) LimitFault
rows_from limits number [] = Ok []
rows_from limits number (fields ∷ rows) =
    row_at limits number fields
    >>= (λ row. rows_from limits (number + 1) rows >>= (λ later. Ok (row ∷ later)))

-- these are all the rows of the text, and they set this
pub record IsRead (limits : LimitsValue) (bytes : List ℕ) (set : List OfficerRow) : Type 0 where
  pub rows : List (List (List ℕ))
  pub all : AreRows bytes rows
  pub sets : rows_from limits 1 rows ≡ Ok set

-- the text begins with rows of which one has this fault, and none before it has any
pub record IsRowFault (limits : LimitsValue) (bytes : List ℕ) (why : LimitFault) : Type 0 where
  pub rows : List (List (List ℕ))
  pub begins : BeginsWithRows bytes rows
  pub first : rows_from limits 1 rows ≡ Err why

-- the text is an officer file for these limits, with these posts
abbrev pub IsOfficerFile : LimitsValue → List ℕ → List OfficerRow → Type 0
IsOfficerFile limits bytes set = (length bytes ≤ bytes_most) × IsRead limits bytes set

-- the first fault of a text that is none: its length, or the first row with one
abbrev pub IsFirstFault : LimitsValue → List ℕ → LimitFault → Type 0
IsFirstFault limits bytes why =
    IsTooLong bytes why ⊎ ((length bytes ≤ bytes_most) × IsRowFault limits bytes why)
