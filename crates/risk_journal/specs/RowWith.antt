-- The row that has given columns, if any has them: an empty or too large column counts for 0.
use Rattle.std.specs.Prelude.{ℕ, ◌^◌, Option, Some, None, if◌then◌else◌, nat_lt, nat_eq, ◌==◌}
use Rattle.std.specs.Prelude.{Bool, ◌&&◌}
use Rattle.std.specs.Option.{option_eq}
use Rattle.risk_journal.specs.declared.acts.Act.{Act}
use Rattle.risk_journal.specs.declared.acts.Act.TheVariants.{Post, Read, Sent, Refused, Noted}
use Rattle.risk_journal.specs.declared.acts.Act.TheVariants.{Ended}
use Rattle.risk_journal.specs.declared.acts.End.{End}
use Rattle.risk_journal.specs.declared.acts.End.TheVariants as ending
use Rattle.risk_journal.specs.declared.rows.Row.{Row}
use Rattle.risk_journal.specs.declared.rows.Row.TheVariants.{OfSession, OfTree}
use Rattle.risk_journal.specs.declared.rows.Kind.{Kind}
use Rattle.risk_journal.specs.declared.rows.Kind.TheVariants as kind
use Rattle.risk_journal.specs.declared.rows.Columns.{Columns}

-- a column's number below a bound, or else 0
abbrev pub below : ℕ → Option ℕ → ℕ
below bound None = 0
below bound (Some number) = if nat_lt number bound then number else 0

-- a column's number below 2^32, or else 0
abbrev pub word_of : Option ℕ → ℕ
word_of column = below (2 ^ 32) column

-- a column's number below 2^8, or else 0
abbrev pub byte_of : Option ℕ → ℕ
byte_of column = below (2 ^ 8) column

-- a column's number, or else 0
abbrev pub number_of : Option ℕ → ℕ
number_of None = 0
number_of (Some number) = number

-- the end with this number, and with this place if it has one
abbrev pub end_with : ℕ → ℕ → End
end_with number place =
    if number == 1 then ending.Cut place
    else if number == 2 then ending.Broken place
    else if number == 3 then ending.TooLong place
    else if number == 4 then ending.ReadFault
    else if number == 5 then ending.WriteFault
    else if number == 6 then ending.Memory
    else ending.Whole

-- the act of a kind with these columns
abbrev pub act_of_kind : Kind → Columns → Act
act_of_kind kind.Post columns =
    Post (word_of columns.a) (word_of columns.b) (number_of columns.c)
act_of_kind kind.Read columns =
    Read (word_of columns.a) (word_of columns.b) (word_of columns.c) (number_of columns.d)
act_of_kind kind.Sent columns = Sent (word_of columns.a)
act_of_kind kind.Refused columns =
    Refused (word_of columns.a) (byte_of columns.b) (word_of columns.c) (word_of columns.d)
act_of_kind kind.Noted columns =
    Noted (word_of columns.a) (byte_of columns.b) (word_of columns.c) (word_of columns.d)
act_of_kind kind.Ended columns = Ended (end_with (number_of columns.a) (number_of columns.b))
act_of_kind kind.Line columns = Sent (word_of columns.a)

-- the act with these columns
abbrev pub act_with : Columns → Act
act_with columns = act_of_kind columns.kind columns

-- the row of a kind with these columns
abbrev pub row_of_kind : Kind → Columns → Row
row_of_kind kind.Post columns = OfSession (word_of (Some columns.session)) (act_with columns)
row_of_kind kind.Read columns = OfSession (word_of (Some columns.session)) (act_with columns)
row_of_kind kind.Sent columns = OfSession (word_of (Some columns.session)) (act_with columns)
row_of_kind kind.Refused columns = OfSession (word_of (Some columns.session)) (act_with columns)
row_of_kind kind.Noted columns = OfSession (word_of (Some columns.session)) (act_with columns)
row_of_kind kind.Ended columns = OfSession (word_of (Some columns.session)) (act_with columns)
row_of_kind kind.Line columns =
    OfTree (word_of columns.a) (word_of columns.b) (record {
      session = word_of (Some columns.session);
      index = word_of columns.c;
      value = number_of columns.d;
    })

-- the row with these columns
abbrev pub row_with : Columns → Row
row_with columns = row_of_kind columns.kind columns

-- the numbers of columns are the same
abbrev pub are_same : Columns → Columns → Bool
are_same columns others =
    columns.session == others.session && option_eq nat_eq columns.a others.a
    && option_eq nat_eq columns.b others.b && option_eq nat_eq columns.c others.c
    && option_eq nat_eq columns.d others.d
