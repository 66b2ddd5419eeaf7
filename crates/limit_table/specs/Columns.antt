-- The columns of a row, and the numbers, prices and names in them.
use Rattle.std.specs.Prelude.{ℕ, List, [], length, unwrap_or, Bool, true, false, codes, not}
use Rattle.std.specs.Prelude.{Result, Ok, Err, ◌==◌, ◌&&◌, ◌||◌, if◌then◌else◌, nat_le}
use Rattle.std.specs.List.{list_all}
use Rattle.std.specs.Char.{is_ascii_digit}
use Rattle.std.specs.Str.Parse.{digits_value}
use Rattle.csv.specs.Records.{field_at}
use Rattle.fix_fields.specs.Numbers.{price_of, id_of}
use Rattle.fix_fields.specs.declared.number.Spelling.{Spelling}
use Rattle.limit_table.specs.Kinds.{same_text}
use Rattle.limit_table.specs.declared.columns.Columns.{Columns}
use Rattle.limit_table.specs.declared.kind.Kind.{Kind}
use Rattle.limit_table.specs.declared.kind.Kind.TheVariants as kind
use Rattle.limit_table.specs.declared.kind.Cause.{Cause}
use Rattle.limit_table.specs.declared.kind.Cause.TheVariants as cause

-- the column at a place, which is empty where there is none
abbrev pub column : List (List ℕ) → ℕ → List ℕ
column fields place = unwrap_or (field_at fields place) []

-- the texts of a row's columns: six, and in version 2 the mode behind them
pub record Texts : Type 0 where
  pub kind : List ℕ
  pub name : List ℕ
  pub limit : List ℕ
  pub low : List ℕ
  pub high : List ℕ
  pub size : List ℕ
  pub mode : List ℕ

-- the columns of a row, by name: the mode is empty where there are only six
abbrev pub columns_of : List (List ℕ) → Texts
columns_of fields = record {
  kind = column fields 0;
  name = column fields 1;
  limit = column fields 2;
  low = column fields 3;
  high = column fields 4;
  size = column fields 5;
  mode = column fields 6;
}

-- the texts to which columns point
abbrev pub texts_in : Columns → Texts
texts_in row = record {
  kind = row.kind.now;
  name = row.name.now;
  limit = row.limit.now;
  low = row.low.now;
  high = row.high.now;
  size = row.size.now;
  mode = row.mode.now;
}

-- a row of this kind has a name
abbrev pub has_name : Kind → Bool
has_name kind.Firm = false
has_name kind.Account = true
has_name kind.Symbol = true
has_name kind.Trip = false
has_name kind.Quota = false
has_name kind.Repeat = false
has_name kind.Off = true

-- a row of this kind has prices and a size
abbrev pub has_band : Kind → Bool
has_band kind.Firm = false
has_band kind.Account = false
has_band kind.Symbol = true
has_band kind.Trip = false
has_band kind.Quota = false
has_band kind.Repeat = false
has_band kind.Off = false

-- a row of this kind has a mode
abbrev pub has_mode : Kind → Bool
has_mode kind.Firm = false
has_mode kind.Account = true
has_mode kind.Symbol = false
has_mode kind.Trip = false
has_mode kind.Quota = false
has_mode kind.Repeat = false
has_mode kind.Off = false

-- nothing stands in the column
abbrev pub is_empty : List ℕ → Bool
is_empty text = length text == 0

-- the columns that a row of this kind leaves empty are empty
abbrev pub are_blank : Kind → Texts → Bool
are_blank k row =
    (has_name k || is_empty row.name)
    && (has_band k || (is_empty row.low && is_empty row.high && is_empty row.size))
    && (has_mode k || is_empty row.mode)

-- an account with this mode is net
abbrev pub is_net : List ℕ → Bool
is_net text = same_text text (codes "net")

-- a mode: nothing, `gross` or `net`
abbrev pub is_mode : List ℕ → Bool
is_mode text = is_empty text || same_text text (codes "gross") || is_net text

-- the mode that a row of this kind has is one
abbrev pub is_mode_of : Kind → Texts → Bool
is_mode_of k row = not (has_mode k) || is_mode row.mode

-- 1 to 12 digits
abbrev pub is_number : List ℕ → Bool
is_number text =
    list_all is_ascii_digit text && nat_le 1 (length text) && nat_le (length text) 12

-- a number from `least` to `most`
abbrev pub number_in : ℕ → ℕ → List ℕ → Result ℕ Cause
number_in least most text =
    let value = digits_value 10 text in
    if is_number text && nat_le least value && nat_le value most then Ok value
    else Err cause.Number

-- a text that isn't spelled as it should be has this fault
abbrev pub or_fault : {A : Type 0} → Cause → Result A Spelling → Result A Cause
or_fault c (Ok x) = Ok x
or_fault c (Err e) = Err c

-- a price in ten-thousandths of a currency unit
abbrev pub price_in : List ℕ → Result ℕ Cause
price_in text = or_fault cause.Number (price_of text)

-- a name: 1 to 64 bytes of 32 to 126
abbrev pub name_in : List ℕ → Result (List ℕ) Cause
name_in text = or_fault cause.Name (id_of text)
