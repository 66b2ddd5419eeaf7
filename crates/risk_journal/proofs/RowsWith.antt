-- A row that fits is the row with its columns.
use Rattle.std.proofs.Common.{◌≡◌, ◌≢◌, ℕ, ◌<◌, ◌^◌, refl, sym, ap, ◌∙◌, arith}
use Rattle.std.proofs.Common.{Option, Some, None, Bool, true, false, if◌then◌else◌, nat_eq}
use Rattle.std.proofs.Common.{◌==◌, ◌&&◌}
use Rattle.std.specs.Option.{option_eq}
use Rattle.std.proofs.lemmas.Bool.{false≢true}
use Rattle.std.proofs.lemmas.Bool.Decides.{nat_tests}
use Rattle.risk_journal.specs.JournalText.{end_number}
use Rattle.risk_journal.specs.Rows.{FitsEnd, FitsAct, FitsRow, FitsColumn, FitColumns}
use Rattle.risk_journal.specs.Rows.{end_column, act_columns, columns_of}
use Rattle.risk_journal.specs.RowWith.{below, word_of, byte_of, number_of, end_with, act_of_kind}
use Rattle.risk_journal.specs.RowWith.{act_with, row_of_kind, row_with, are_same}
use Rattle.risk_journal.specs.declared.acts.Act.{Act}
use Rattle.risk_journal.specs.declared.acts.Act.TheVariants.{Post, Read, Sent, Refused, Noted}
use Rattle.risk_journal.specs.declared.acts.Act.TheVariants.{Ended}
use Rattle.risk_journal.specs.declared.acts.End.{End}
use Rattle.risk_journal.specs.declared.acts.End.TheVariants as ending
use Rattle.risk_journal.specs.declared.rows.Row.{Row}
use Rattle.risk_journal.specs.declared.rows.Row.TheVariants.{OfSession, OfTree}
use Rattle.risk_journal.specs.declared.rows.Kind.{Kind}
use Rattle.risk_journal.specs.declared.rows.Kind.TheVariants as kind
use Rattle.risk_journal.specs.declared.rows.Columns.{Columns}

below_is : (bound number : ℕ) → number < bound → below bound (Some number) ≡ number
below_is bound number h = grind (arith, nat_tests)

word_is : (number : ℕ) → number < 2 ^ 32 → word_of (Some number) ≡ number
word_is number h = below_is (2 ^ 32) number h

byte_is : (number : ℕ) → number < 2 ^ 8 → byte_of (Some number) ≡ number
byte_is number h = below_is (2 ^ 8) number h

end_is : (end : End) → end_with (end_number end) (number_of (end_column end)) ≡ end
end_is ending.Whole = refl
end_is (ending.Cut place) = refl
end_is (ending.Broken place) = refl
end_is (ending.TooLong place) = refl
end_is ending.ReadFault = refl
end_is ending.WriteFault = refl
end_is ending.Memory = refl

act_is : (session : ℕ) (act : Act) → FitsAct act → act_with (act_columns session act) ≡ act
act_is session (Post tree index value) h =
    ap (λ own. Post own (word_of (Some index)) value) (word_is tree h.0)
    ∙ ap (λ own. Post tree own value) (word_is index h.1)
act_is session (Read tree stamp place value) h =
    ap (λ own. Read own (word_of (Some stamp)) (word_of (Some place)) value) (word_is tree h.0)
    ∙ ap (λ own. Read tree own (word_of (Some place)) value) (word_is stamp h.1)
    ∙ ap (λ own. Read tree stamp own value) (word_is place h.2)
act_is session (Sent frame) h = ap Sent (word_is frame h)
act_is session (Refused frame code first second) h =
    ap (λ own. Refused own (byte_of (Some code)) (word_of (Some first)) (word_of (Some second)))
    (word_is frame h.0)
    ∙ ap (λ own. Refused frame own (word_of (Some first)) (word_of (Some second)))
    (byte_is code h.1)
    ∙ ap (λ own. Refused frame code own (word_of (Some second))) (word_is first h.2)
    ∙ ap (Refused frame code first) (word_is second h.3)
act_is session (Noted frame code first second) h =
    ap (λ own. Noted own (byte_of (Some code)) (word_of (Some first)) (word_of (Some second)))
    (word_is frame h.0)
    ∙ ap (λ own. Noted frame own (word_of (Some first)) (word_of (Some second))) (byte_is code h.1)
    ∙ ap (λ own. Noted frame code own (word_of (Some second))) (word_is first h.2)
    ∙ ap (Noted frame code first) (word_is second h.3)
act_is session (Ended end) h = ap Ended (end_is end)

act_row_is : (session : ℕ) (act : Act) → session < 2 ^ 32 → FitsAct act
    → row_with (act_columns session act) ≡ OfSession session act
act_row_is session (Post tree index value) small h =
    ap (λ own. OfSession own (act_with (act_columns session (Post tree index value))))
    (word_is session small)
    ∙ ap (OfSession session) (act_is session (Post tree index value) h)
act_row_is session (Read tree stamp place value) small h =
    ap (λ own. OfSession own (act_with (act_columns session (Read tree stamp place value))))
    (word_is session small)
    ∙ ap (OfSession session) (act_is session (Read tree stamp place value) h)
act_row_is session (Sent frame) small h =
    ap (λ own. OfSession own (act_with (act_columns session (Sent frame)))) (word_is session small)
    ∙ ap (OfSession session) (act_is session (Sent frame) h)
act_row_is session (Refused frame code first second) small h =
    ap (λ own. OfSession own (act_with (act_columns session (Refused frame code first second))))
    (word_is session small)
    ∙ ap (OfSession session) (act_is session (Refused frame code first second) h)
act_row_is session (Noted frame code first second) small h =
    ap (λ own. OfSession own (act_with (act_columns session (Noted frame code first second))))
    (word_is session small)
    ∙ ap (OfSession session) (act_is session (Noted frame code first second) h)
act_row_is session (Ended end) small h =
    ap (λ own. OfSession own (act_with (act_columns session (Ended end)))) (word_is session small)
    ∙ ap (OfSession session) (act_is session (Ended end) h)

-- a row that fits is the row with its columns
pub row_with_its_columns : (row : Row) → FitsRow row → row_with (columns_of row) ≡ row
row_with_its_columns (OfSession session act) h = act_row_is session act h.0 h.1
row_with_its_columns (OfTree tree place line) h =
    let row : ℕ → ℕ → ℕ → ℕ → Row = λ t p s i.
    OfTree t p (record { session = s; index = i; value = line.value }) in
    ap (λ own. row own (word_of (Some place)) (word_of (Some line.session))
    (word_of (Some line.index))) (word_is tree h.0)
    ∙ ap (λ own. row tree own (word_of (Some line.session)) (word_of (Some line.index)))
    (word_is place h.1)
    ∙ ap (λ own. row tree place own (word_of (Some line.index))) (word_is line.session h.2.0)
    ∙ ap (row tree place line.session) (word_is line.index h.2.1)

chosen_number : (bound number : ℕ) → 0 < bound → below bound (Some number) < bound
chosen_number bound number some = grind (arith, nat_tests)

below_fits : (bound : ℕ) (column : Option ℕ) → 0 < bound → below bound column < bound
below_fits bound None some = some
below_fits bound (Some number) some = chosen_number bound number some

word_fits : (column : Option ℕ) → word_of column < 2 ^ 32
word_fits column = below_fits (2 ^ 32) column (omega arith)

byte_fits : (column : Option ℕ) → byte_of column < 2 ^ 8
byte_fits column = below_fits (2 ^ 8) column (omega arith)

number_fits : (column : Option ℕ) → FitsColumn column → number_of column < 2 ^ 64
number_fits None h = omega arith
number_fits (Some number) h = h

either_end : (a b : End) → FitsEnd a → FitsEnd b → (test : Bool) → FitsEnd (if test then a else b)
either_end a b first second test =
    elim test as (λ own. FitsEnd (if own then a else b)) [ true ↦ first | false ↦ second ]

end_fits : (number place : ℕ) → place < 2 ^ 64 → FitsEnd (end_with number place)
end_fits number place h =
    let e6 : End = if number == 6 then ending.Memory else ending.Whole in
    let e5 : End = if number == 5 then ending.WriteFault else e6 in
    let e4 : End = if number == 4 then ending.ReadFault else e5 in
    let e3 : End = if number == 3 then ending.TooLong place else e4 in
    let e2 : End = if number == 2 then ending.Broken place else e3 in
    let f6 = either_end ending.Memory ending.Whole tt tt (number == 6) in
    let f5 = either_end ending.WriteFault e6 tt f6 (number == 5) in
    let f4 = either_end ending.ReadFault e5 tt f5 (number == 4) in
    let f3 = either_end (ending.TooLong place) e4 h f4 (number == 3) in
    let f2 = either_end (ending.Broken place) e3 h f3 (number == 2) in
    either_end (ending.Cut place) e2 h f2 (number == 1)

act_of_kind_fits : (k : Kind) (columns : Columns) → FitColumns columns
    → FitsAct (act_of_kind k columns)
act_of_kind_fits kind.Post columns fit =
    (word_fits columns.a, word_fits columns.b, number_fits columns.c fit.c)
act_of_kind_fits kind.Read columns fit =
    (word_fits columns.a, word_fits columns.b, word_fits columns.c, number_fits columns.d fit.d)
act_of_kind_fits kind.Sent columns fit = word_fits columns.a
act_of_kind_fits kind.Refused columns fit =
    (word_fits columns.a, byte_fits columns.b, word_fits columns.c, word_fits columns.d)
act_of_kind_fits kind.Noted columns fit =
    (word_fits columns.a, byte_fits columns.b, word_fits columns.c, word_fits columns.d)
act_of_kind_fits kind.Ended columns fit =
    end_fits (number_of columns.a) (number_of columns.b) (number_fits columns.b fit.b)
act_of_kind_fits kind.Line columns fit = word_fits columns.a

row_of_kind_fits : (k : Kind) (columns : Columns) → FitColumns columns
    → FitsRow (row_of_kind k columns)
row_of_kind_fits kind.Line columns fit = (
  word_fits columns.a,
  word_fits columns.b,
  (
    word_fits (Some columns.session),
    word_fits columns.c,
    number_fits columns.d fit.d,
  ),
)
row_of_kind_fits kind.Post columns fit =
    (word_fits (Some columns.session), act_of_kind_fits columns.kind columns fit)
row_of_kind_fits kind.Read columns fit =
    (word_fits (Some columns.session), act_of_kind_fits columns.kind columns fit)
row_of_kind_fits kind.Sent columns fit =
    (word_fits (Some columns.session), act_of_kind_fits columns.kind columns fit)
row_of_kind_fits kind.Refused columns fit =
    (word_fits (Some columns.session), act_of_kind_fits columns.kind columns fit)
row_of_kind_fits kind.Noted columns fit =
    (word_fits (Some columns.session), act_of_kind_fits columns.kind columns fit)
row_of_kind_fits kind.Ended columns fit =
    (word_fits (Some columns.session), act_of_kind_fits columns.kind columns fit)

-- the row with columns that fit fits
pub row_with_fits : (columns : Columns) → FitColumns columns → FitsRow (row_with columns)
row_with_fits columns fit = row_of_kind_fits columns.kind columns fit

act_kind : (columns : Columns) (session : ℕ) (k : Kind) → k ≢ kind.Line
    → (act_columns session (act_of_kind k columns)).kind ≡ k
act_kind columns session kind.Post other = refl
act_kind columns session kind.Read other = refl
act_kind columns session kind.Sent other = refl
act_kind columns session kind.Refused other = refl
act_kind columns session kind.Noted other = refl
act_kind columns session kind.Ended other = refl
act_kind columns session kind.Line other = absurd (other refl)

session_kind : (columns : Columns) (session : ℕ) (k : Kind) → k ≢ kind.Line → columns.kind ≡ k
    → (act_columns session (act_with columns)).kind ≡ k
session_kind columns session k other e =
    ap (λ own. (act_columns session (act_of_kind own columns)).kind) e
    ∙ act_kind columns session k other

row_kind : (columns : Columns) (k : Kind) → columns.kind ≡ k
    → (columns_of (row_of_kind k columns)).kind ≡ k
row_kind columns kind.Line e = refl
row_kind columns kind.Post e =
    session_kind columns (word_of (Some columns.session)) kind.Post (λ own. cc) e
row_kind columns kind.Read e =
    session_kind columns (word_of (Some columns.session)) kind.Read (λ own. cc) e
row_kind columns kind.Sent e =
    session_kind columns (word_of (Some columns.session)) kind.Sent (λ own. cc) e
row_kind columns kind.Refused e =
    session_kind columns (word_of (Some columns.session)) kind.Refused (λ own. cc) e
row_kind columns kind.Noted e =
    session_kind columns (word_of (Some columns.session)) kind.Noted (λ own. cc) e
row_kind columns kind.Ended e =
    session_kind columns (word_of (Some columns.session)) kind.Ended (λ own. cc) e

same_option : (a b : Option ℕ) → option_eq nat_eq a b ≡ true → a ≡ b
same_option None None e = refl
same_option None (Some n) e = absurd (false≢true e)
same_option (Some m) None e = absurd (false≢true e)
same_option (Some m) (Some n) e = ap Some (grind (arith, nat_tests))

option_itself : (a : Option ℕ) → option_eq nat_eq a a ≡ true
option_itself None = refl
option_itself (Some n) = grind (arith, nat_tests)

both : (a b : Bool) → (a && b) ≡ true → (a ≡ true) × (b ≡ true)
both true b e = (refl, e)
both false b e = absurd (false≢true e)

same_number : (m n : ℕ) → (m == n) ≡ true → m ≡ n
same_number m n e = grind (arith, nat_tests)

itself : (n : ℕ) → (n == n) ≡ true
itself n = grind (arith, nat_tests)

pub same_from_test : (columns others : Columns) → columns.kind ≡ others.kind
    → are_same columns others ≡ true → columns ≡ others
same_from_test columns others kinds e =
    let row : Kind → ℕ → Option ℕ → Option ℕ → Option ℕ → Option ℕ → Columns = λ k s a b c d.
    record { kind = k; session = s; a = a; b = b; c = c; d = d } in
    let four = both _ _ e in
    let three = both _ _ four.0 in
    let two = both _ _ three.0 in
    let one = both _ _ two.0 in
    ap (λ own. row own columns.session columns.a columns.b columns.c columns.d) kinds
    ∙ ap (λ own. row others.kind own columns.a columns.b columns.c columns.d)
    (same_number columns.session others.session one.0)
    ∙ ap (λ own. row others.kind others.session own columns.b columns.c columns.d)
    (same_option columns.a others.a one.1)
    ∙ ap (λ own. row others.kind others.session others.a own columns.c columns.d)
    (same_option columns.b others.b two.1)
    ∙ ap (λ own. row others.kind others.session others.a others.b own columns.d)
    (same_option columns.c others.c three.1)
    ∙ ap (row others.kind others.session others.a others.b others.c)
    (same_option columns.d others.d four.1)

same_itself : (columns : Columns) → are_same columns columns ≡ true
same_itself columns =
    rw (
      itself columns.session,
      option_itself columns.a,
      option_itself columns.b,
      option_itself columns.c,
      option_itself columns.d,
    ) refl

-- the row whose columns these are has them
pub has_columns : (columns : Columns) → are_same (columns_of (row_with columns)) columns ≡ true
    → columns_of (row_with columns) ≡ columns
has_columns columns e =
    same_from_test (columns_of (row_with columns)) columns (row_kind columns columns.kind refl) e

-- a row that fits is found by its columns
pub found_by_columns : (columns : Columns) (row : Row) → FitsRow row → columns_of row ≡ columns
    → are_same (columns_of (row_with columns)) columns ≡ true
found_by_columns columns row fits e =
    let is : row_with columns ≡ row = ap row_with (sym e) ∙ row_with_its_columns row fits in
    ap (λ own. are_same (columns_of own) columns) is
    ∙ ap (λ own. are_same own columns) e ∙ same_itself columns
