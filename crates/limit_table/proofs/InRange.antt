-- What a row sets is in range, and what is in range is set by the row that is written for it.
use Rattle.std.proofs.Common.{◌≡◌, ℕ, ◌≤◌, List, length, refl, ap, sym, ◌∙◌, subst, arith, Bool}
use Rattle.std.proofs.Common.{true, false, Ok, Err, Result, Option, Some, None, decimal}
use Rattle.std.specs.Prelude.{◌==◌, ◌&&◌, ◌||◌, not, if◌then◌else◌, nat_le, nat_lt}
use Rattle.std.specs.List.{list_all}
use Rattle.std.specs.Str.Parse.{digits_value}
use Rattle.std.proofs.lemmas.Bool.{leb-true, ltb-false, or_parts}
use Rattle.std.proofs.lemmas.Bool.Decides.{nat_tests}
use Rattle.csv.specs.Records.{field_at}
use Rattle.fix_fields.specs.Numbers.{is_decimal, begins_with_minus, is_finer, is_outside, scaled}
use Rattle.fix_fields.specs.Numbers.{is_printable}
use Rattle.fix_fields.specs.IdText.{IsId}
use Rattle.fix_fields.specs.declared.number.Spelling.TheVariants.{Form, Range}
use Rattle.limit_table.specs.Columns.{Texts, columns_of, are_blank, is_number, number_in, price_in}
use Rattle.limit_table.specs.Columns.{name_in, is_net, is_mode, is_mode_of}
use Rattle.limit_table.specs.Columns.{or_fault}
use Rattle.limit_table.specs.Kinds.{kind_named, is_crossed}
use Rattle.limit_table.specs.Entries.{◌>>=◌, amount_most, account_in, symbol_in, off_in, count_in}
use Rattle.limit_table.specs.Entries.{entry_by}
use Rattle.limit_table.specs.Entries.{entry_named, entry_of}
use Rattle.limit_table.specs.Printing.{row_of, price_text, mode_text}
use Rattle.limit_table.specs.Ranges.{IsFromTo, IsPrice, IsInRange}
use Rattle.limit_table.specs.Versions.{column_count}
use Rattle.limit_table.specs.declared.version.Version.{Version}
use Rattle.limit_table.specs.declared.version.Version.TheVariants as version
use Rattle.limit_table.specs.declared.kind.AccountRow.{AccountRow}
use Rattle.limit_table.specs.declared.kind.Kind.{Kind}
use Rattle.limit_table.specs.declared.kind.Kind.TheVariants as kind
use Rattle.limit_table.specs.declared.kind.Entry.{Entry}
use Rattle.limit_table.specs.declared.kind.Entry.TheVariants as entry
use Rattle.limit_table.specs.declared.kind.Cause.{Cause}
use Rattle.limit_table.specs.declared.kind.Cause.TheVariants as cause
use Rattle.limit_table.proofs.Spelled.{number_back, price_back, name_back}
use Rattle.limit_table.specs.Entries.{size_most, trip_most, quota_most, off_most}
use Rattle.fix_fields.specs.Numbers.{price_most}

number_by : (a b c : Bool) (v n : ℕ)
    → (if a && b && c then Ok v else Err cause.Number) ≡ Ok n
    → (b ≡ true) × (c ≡ true) × (v ≡ n)
number_by true true true v n h = (refl, refl, cc h)
number_by true true false v n h = (cc h, cc h, cc h)
number_by true false c v n h = (cc h, cc h, cc h)
number_by false b c v n h = (cc h, cc h, cc h)

number_within : (least most n : ℕ) (text : List ℕ) → number_in least most text ≡ Ok n
    → IsFromTo least most n
number_within least most n text h =
    let value = digits_value 10 text in
    let parts = number_by (is_number text) (nat_le least value) (nat_le value most) value n h in
    let low = leb-true least value parts.0 in
    let high = leb-true value most parts.1 in
    (omega (arith, low, parts.2), omega (arith, high, parts.2))

price_parts : (a b c d e : Bool) (v n : ℕ)
    → or_fault cause.Number
    (if not a then Err Form else (if b || c || d || e then Err Range else Ok v)) ≡ Ok n
    → (e ≡ false) × (v ≡ n)
price_parts false b c d e v n h = (cc h, cc h)
price_parts true true c d e v n h = (cc h, cc h)
price_parts true false true d e v n h = (cc h, cc h)
price_parts true false false true e v n h = (cc h, cc h)
price_parts true false false false true v n h = (cc h, cc h)
price_parts true false false false false v n h = (refl, cc h)

price_within : (n : ℕ) (text : List ℕ) → price_in text ≡ Ok n → IsPrice n
price_within n text h =
    let value = scaled 4 text in
    let parts = price_parts (is_decimal text) (begins_with_minus text) (nat_lt 32 (length text))
    (is_finer 4 text) (is_outside price_most value) value n h in
    let sides = or_parts (nat_lt value 1) (nat_lt price_most value) parts.0 in
    let low = ltb-false value 1 sides.0 in
    let high = ltb-false price_most value sides.1 in
    (omega (arith, low, parts.1), omega (arith, high, parts.1))

name_parts : (a b c : Bool) (text name : List ℕ)
    → or_fault cause.Name
    (if not a then Err Form else (if b || c then Err Range else Ok text)) ≡ Ok name
    → (a ≡ true) × (b ≡ false) × (c ≡ false) × (text ≡ name)
name_parts false b c text name h = (cc h, cc h, cc h, cc h)
name_parts true true c text name h = (cc h, cc h, cc h, cc h)
name_parts true false true text name h = (cc h, cc h, cc h, cc h)
name_parts true false false text name h = (refl, refl, refl, cc h)

name_within : (name text : List ℕ) → name_in text ≡ Ok name → IsId name
name_within name text h =
    let parts = name_parts (list_all is_printable text) (length text == 0) (nat_lt 64 (length text))
    text name h in
    let some = parts.1 in
    let low : 1 ≤ length text = grind (arith, nat_tests, some) in
    let is : IsId text = record {
      printable = parts.0;
      least = low;
      most = ltb-false 64 (length text) parts.2;
    } in
    subst IsId parts.3 is

err_is_not_ok : {A : Type 0} (c : Cause) (x : A) → Err c ≡ Ok x → ⊥
err_is_not_ok c x h = cc h

ok_same : {A : Type 0} (x y : A) → ◌≡◌ {A = Result A Cause} (Ok x) (Ok y) → x ≡ y
ok_same x y h = cc h

-- a chain that gives a value has one at its first step
bind_ok : {A B : Type 0} (r : Result A Cause) (f : A → Result B Cause) (y : B)
    → (r >>= f) ≡ Ok y → (x : A) × (r ≡ Ok x) × (f x ≡ Ok y)
bind_ok (Ok x) f y h = (x, refl, h)
bind_ok (Err c) f y h = absurd (err_is_not_ok c y h)

count_range : (least most : ℕ) (make : ℕ → Entry) (row : Texts) (e : Entry)
    → count_in least most make row ≡ Ok e → ((n : ℕ) → IsFromTo least most n → IsInRange (make n))
    → IsInRange e
count_range least most make row e h fits =
    let a = bind_ok (number_in least most row.limit) (λ n. Ok (make n)) e h in
    subst IsInRange (ok_same (make a.0) e a.2)
    (fits a.0 (number_within least most a.0 row.limit a.1))

account_range : (row : Texts) (e : Entry) → account_in row ≡ Ok e → IsInRange e
account_range row e h =
    let set : ℕ → List ℕ → Entry =
    λ limit name.
    entry.Account (record { name = name; limit = limit; net = is_net row.mode }) in
    let a = bind_ok (number_in 0 amount_most row.limit)
    (λ limit. name_in row.name >>= λ name. Ok (set limit name)) e h in
    let b = bind_ok (name_in row.name) (λ name. Ok (set a.0 name)) e a.2 in
    subst IsInRange (ok_same (set a.0 b.0) e b.2)
    (number_within 0 amount_most a.0 row.limit a.1, name_within b.0 row.name b.1)

off_range : (row : Texts) (e : Entry) → off_in row ≡ Ok e → IsInRange e
off_range row e h =
    let set : ℕ → List ℕ → Entry =
    λ from name. entry.Off (record { name = name; from = from }) in
    let a = bind_ok (number_in 0 off_most row.limit)
    (λ from. name_in row.name >>= λ name. Ok (set from name)) e h in
    let b = bind_ok (name_in row.name) (λ name. Ok (set a.0 name)) e a.2 in
    subst IsInRange (ok_same (set a.0 b.0) e b.2)
    (number_within 0 off_most a.0 row.limit a.1, name_within b.0 row.name b.1)

-- a symbol with these columns
abbrev symbol_set : ℕ → ℕ → ℕ → ℕ → List ℕ → Entry
symbol_set limit low high size name =
    entry.Symbol (record { name = name; limit = limit; low = low; high = high; size = size })

symbol_range : (row : Texts) (e : Entry) → symbol_in row ≡ Ok e → is_crossed e ≡ false → IsInRange e
symbol_range row e h uncrossed =
    let a = bind_ok (number_in 0 amount_most row.limit) (λ limit. price_in row.low >>= λ low.
    price_in row.high >>= λ high. number_in 1 size_most row.size >>= λ size.
    name_in row.name >>= λ name. Ok (symbol_set limit low high size name)) e h in
    let b = bind_ok (price_in row.low) (λ low.
    price_in row.high >>= λ high. number_in 1 size_most row.size >>= λ size.
    name_in row.name >>= λ name. Ok (symbol_set a.0 low high size name)) e a.2 in
    let c = bind_ok (price_in row.high) (λ high. number_in 1 size_most row.size >>= λ size.
    name_in row.name >>= λ name. Ok (symbol_set a.0 b.0 high size name)) e b.2 in
    let d = bind_ok (number_in 1 size_most row.size) (λ size.
    name_in row.name >>= λ name. Ok (symbol_set a.0 b.0 c.0 size name)) e c.2 in
    let f = bind_ok (name_in row.name) (λ name. Ok (symbol_set a.0 b.0 c.0 d.0 name)) e d.2 in
    let same = ok_same (symbol_set a.0 b.0 c.0 d.0 f.0) e f.2 in
    let ordered = ltb-false c.0 b.0 (ap is_crossed same ∙ uncrossed) in
    subst IsInRange same (
      number_within 0 amount_most a.0 row.limit a.1,
      price_within b.0 row.low b.1,
      price_within c.0 row.high c.1,
      number_within 1 size_most d.0 row.size d.1,
      name_within f.0 row.name f.1,
      ordered,
    )

by_kind : (k : Kind) (row : Texts) (e : Entry) → entry_by k row ≡ Ok e → is_crossed e ≡ false
    → IsInRange e
by_kind kind.Firm row e h u = count_range 0 amount_most (λ n. entry.Firm n) row e h (λ n r. r)
by_kind kind.Account row e h u = account_range row e h
by_kind kind.Symbol row e h u = symbol_range row e h u
by_kind kind.Trip row e h u = count_range 1 trip_most (λ n. entry.Trip n) row e h (λ n r. r)
by_kind kind.Quota row e h u = count_range 1 quota_most (λ n. entry.Quota n) row e h (λ n r. r)
by_kind kind.Repeat row e h u = count_range 0 64 (λ n. entry.Repeat n) row e h (λ n r. r)
by_kind kind.Off row e h u = off_range row e h

-- no fault at a test
past_test : (b : Bool) (c : Cause) (r : Result Entry Cause) (e : Entry)
    → (if b then Err c else r) ≡ Ok e → r ≡ Ok e
past_test true c r e h = cc h
past_test false c r e h = h

by_name : (o : Option Kind) (row : Texts) (e : Entry) → entry_named o row ≡ Ok e
    → is_crossed e ≡ false → IsInRange e
by_name None row e h u = absurd (err_is_not_ok cause.Kind e h)
by_name (Some k) row e h u =
    let shaped : Result Entry Cause =
    if not (are_blank k row) then Err cause.RowShape else entry_by k row in
    by_kind k row e (past_test (not (are_blank k row)) cause.RowShape (entry_by k row) e
    (past_test (not (is_mode_of k row)) cause.Kind shaped e h)) u

-- what a row sets, with no lowest price above the highest, is in range
pub read_in_range : (v : Version) (row : List (List ℕ)) (e : Entry) → entry_of v row ≡ Ok e
    → is_crossed e ≡ false → IsInRange e
read_in_range v row e h u =
    let named = kind_named (columns_of row).kind in
    by_name named (columns_of row) e (past_test (not (length row == column_count v)) cause.RowShape
    (entry_named named (columns_of row)) e h) u

count_back : (least most n : ℕ) (make : ℕ → Entry) → IsFromTo least most n → most ≤ amount_most
    → (number_in least most (decimal n) >>= λ m. Ok (make m)) ≡ Ok (make n)
count_back least most n make range cap =
    ap (λ (r : Result ℕ Cause). r >>= λ m. Ok (make m)) (number_back least most n range cap)

named_back : (least most n : ℕ) (name : List ℕ) (make : ℕ → List ℕ → Entry) → IsFromTo least most n
    → most ≤ amount_most → IsId name
    → (number_in least most (decimal n) >>= λ m. name_in name >>= λ t. Ok (make m t))
    ≡ Ok (make n name)
named_back least most n name make range cap is =
    ap (λ (r : Result ℕ Cause). r >>= λ m. name_in name >>= λ t. Ok (make m t))
    (number_back least most n range cap)
    ∙ ap (λ (r : Result (List ℕ) Cause). r >>= λ t. Ok (make n t)) (name_back name is)

symbol_back : (limit low high size : ℕ) (name : List ℕ) → IsFromTo 0 amount_most limit → IsPrice low
    → IsPrice high → IsFromTo 1 size_most size → IsId name
    → (number_in 0 amount_most (decimal limit) >>= λ l. price_in (price_text low) >>= λ a.
    price_in (price_text high) >>= λ b. number_in 1 size_most (decimal size) >>= λ s.
    name_in name >>= λ t. Ok (symbol_set l a b s t)) ≡ Ok (symbol_set limit low high size name)
symbol_back limit low high size name in_limit in_low in_high in_size is =
    ap (λ (r : Result ℕ Cause). r >>= λ l. price_in (price_text low) >>= λ a.
    price_in (price_text high) >>= λ b. number_in 1 size_most (decimal size) >>= λ s.
    name_in name >>= λ t. Ok (symbol_set l a b s t))
    (number_back 0 amount_most limit in_limit (omega arith))
    ∙ ap (λ (r : Result ℕ Cause). r >>= λ a. price_in (price_text high) >>= λ b.
    number_in 1 size_most (decimal size) >>= λ s. name_in name >>= λ t.
    Ok (symbol_set limit a b s t)) (price_back low in_low)
    ∙ ap (λ (r : Result ℕ Cause). r >>= λ b. number_in 1 size_most (decimal size) >>= λ s.
    name_in name >>= λ t. Ok (symbol_set limit low b s t)) (price_back high in_high)
    ∙ ap (λ (r : Result ℕ Cause). r >>= λ s. name_in name >>= λ t.
    Ok (symbol_set limit low high s t)) (number_back 1 size_most size in_size (omega arith))
    ∙ ap (λ (r : Result (List ℕ) Cause). r >>= λ t. Ok (symbol_set limit low high size t))
    (name_back name is)

-- a row of this version can tell all of it: version 1 has no mode for a net account
abbrev pub FitsIn : Version → Entry → Type 0
FitsIn version.One (entry.Account row) = row.net ≡ false
FitsIn _ _ = Unit {0}

-- the modes that are written are read as what they were written for
mode_back : (net : Bool) → (is_mode (mode_text net) ≡ true) × (is_net (mode_text net) ≡ net)
mode_back true = (refl, refl)
mode_back false = (refl, refl)

-- an account, whether it is net told by a mode
abbrev account_set : Bool → ℕ → List ℕ → Entry
account_set net limit name = entry.Account (record { name = name; limit = limit; net = net })

account_back : (row : AccountRow) → IsInRange (entry.Account row)
    → entry_of version.Two (row_of version.Two (entry.Account row)) ≡ Ok (entry.Account row)
unfolding field_at
account_back row r =
    let mode = mode_back row.net in
    rw (mode.0, mode.1)
    (named_back 0 amount_most row.limit row.name (account_set row.net) r.0 (omega arith) r.1)

-- the row that is written for what is in range sets that
pub written_sets : (v : Version) (e : Entry) → IsInRange e → FitsIn v e
    → entry_of v (row_of v e) ≡ Ok e
unfolding field_at
written_sets version.One (entry.Firm n) r f =
    count_back 0 amount_most n (λ m. entry.Firm m) r (omega arith)
written_sets version.One (entry.Account row) r f =
    named_back 0 amount_most row.limit row.name (account_set false) r.0 (omega arith) r.1
    ∙ ap (λ b. Ok (account_set b row.limit row.name)) (sym f)
written_sets version.One (entry.Symbol row) r f =
    symbol_back row.limit row.low row.high row.size row.name r.0 r.1 r.2 r.3 r.4
written_sets version.One (entry.Trip n) r f =
    count_back 1 trip_most n (λ m. entry.Trip m) r (omega arith)
written_sets version.One (entry.Quota n) r f =
    count_back 1 quota_most n (λ m. entry.Quota m) r (omega arith)
written_sets version.One (entry.Repeat n) r f =
    count_back 0 64 n (λ m. entry.Repeat m) r (omega arith)
written_sets version.One (entry.Off row) r f =
    named_back 0 off_most row.from row.name
    (λ m t. entry.Off (record { name = t; from = m })) r.0 (omega arith) r.1
written_sets version.Two (entry.Firm n) r f =
    count_back 0 amount_most n (λ m. entry.Firm m) r (omega arith)
written_sets version.Two (entry.Account row) r f = account_back row r
written_sets version.Two (entry.Symbol row) r f =
    symbol_back row.limit row.low row.high row.size row.name r.0 r.1 r.2 r.3 r.4
written_sets version.Two (entry.Trip n) r f =
    count_back 1 trip_most n (λ m. entry.Trip m) r (omega arith)
written_sets version.Two (entry.Quota n) r f =
    count_back 1 quota_most n (λ m. entry.Quota m) r (omega arith)
written_sets version.Two (entry.Repeat n) r f =
    count_back 0 64 n (λ m. entry.Repeat m) r (omega arith)
written_sets version.Two (entry.Off row) r f =
    named_back 0 off_most row.from row.name
    (λ m t. entry.Off (record { name = t; from = m })) r.0 (omega arith) r.1
