-- The rows that are written for limits set these limits.
use Rattle.std.proofs.Common.{◌≡◌, ℕ, List, [], ◌∷◌, ◌++◌, map, refl, ap, ◌∙◌, Bool}
use Rattle.std.proofs.Common.{false, Option, Some, None}
use Rattle.std.specs.Prelude.{unwrap_or, filter_map, find}
use Rattle.std.proofs.lemmas.List.{append-nil}
use Rattle.std.proofs.lemmas.List.Elements.{filter_map-append}
use Rattle.limit_table.specs.Kinds.{kind_of, same_kind}
use Rattle.limit_table.specs.Tables.{account_in, symbol_in, off_in, trip_in, quota_in, repeat_in}
use Rattle.limit_table.specs.Tables.{first_of, trip_of, quota_of, repeat_of, limits_of}
use Rattle.limit_table.specs.Printing.{entries_in, trip_rows}
use Rattle.limit_table.specs.declared.kind.AccountRow.{AccountRow}
use Rattle.limit_table.specs.declared.kind.SymbolRow.{SymbolRow}
use Rattle.limit_table.specs.declared.kind.OffRow.{OffRow}
use Rattle.limit_table.specs.declared.kind.Kind.{Kind}
use Rattle.limit_table.specs.declared.kind.Kind.TheVariants as kind
use Rattle.limit_table.specs.declared.kind.Entry.{Entry}
use Rattle.limit_table.specs.declared.kind.Entry.TheVariants as entry
use Rattle.limit_table.specs.declared.limits.Limits.{Limits}
use Rattle.limit_table.proofs.Listed.{account_rows, symbol_rows, last_rows, joined}
use Rattle.limit_table.specs.Tables.{quota_default}

gather_all : {X Y : Type 0} (g : Y → Option X) (f : X → Y) (xs : List X)
    → ((x : X) → g (f x) ≡ Some x) → filter_map g (map f xs) ≡ xs
gather_all g f [] h = refl
gather_all g f (x ∷ xs) h = rw (h x) (ap (λ (ys : List _). x ∷ ys) (gather_all g f xs h))

gather_none : {X Y Z : Type 0} (g : Y → Option Z) (f : X → Y) (xs : List X)
    → ((x : X) → g (f x) ≡ None) → filter_map g (map f xs) ≡ []
gather_none g f [] h = refl
gather_none g f (x ∷ xs) h = rw (h x) (gather_none g f xs h)

gather_trip : {Z : Type 0} (g : Entry → Option Z) (trip : Option ℕ)
    → ((count : ℕ) → g (entry.Trip count) ≡ None) → filter_map g (trip_rows trip) ≡ []
gather_trip g None h = refl
gather_trip g (Some count) h = rw (h count) refl

-- what the rows of each kind set, after the first row
gathered : {Z : Type 0} (g : Entry → Option Z) (l : Limits) (a b c d : List Z)
    → filter_map g (account_rows l.accounts) ≡ a → filter_map g (symbol_rows l.symbols) ≡ b
    → filter_map g (trip_rows l.trip) ≡ c → filter_map g (last_rows l) ≡ d
    → filter_map g (account_rows l.accounts
    ++ (symbol_rows l.symbols ++ (trip_rows l.trip ++ last_rows l)))
    ≡ a ++ (b ++ (c ++ d))
gathered {Z} g l a b c d is_a is_b is_c is_d =
    let accounts = account_rows l.accounts in
    let symbols = symbol_rows l.symbols in
    let trip = trip_rows l.trip in
    let last = last_rows l in
    filter_map-append g accounts (symbols ++ (trip ++ last))
    ∙ ap (λ (es : List Z). filter_map g accounts ++ es) (filter_map-append g symbols (trip ++ last)
    ∙ ap (λ (es : List Z). filter_map g symbols ++ es) (filter_map-append g trip last))
    ∙ joined (filter_map g accounts) (filter_map g symbols) (filter_map g trip) (filter_map g last)
    a b c d is_a is_b is_c is_d

accounts_listed : (l : Limits) → filter_map account_in (entries_in l) ≡ l.accounts
accounts_listed l =
    gathered account_in l l.accounts [] [] []
    (gather_all account_in (λ row. entry.Account row) l.accounts (λ x. refl))
    (gather_none account_in (λ row. entry.Symbol row) l.symbols (λ x. refl))
    (gather_trip account_in l.trip (λ x. refl))
    (gather_none account_in (λ row. entry.Off row) l.off (λ x. refl))
    ∙ append-nil l.accounts

symbols_listed : (l : Limits) → filter_map symbol_in (entries_in l) ≡ l.symbols
symbols_listed l =
    gathered symbol_in l [] l.symbols [] []
    (gather_none symbol_in (λ row. entry.Account row) l.accounts (λ x. refl))
    (gather_all symbol_in (λ row. entry.Symbol row) l.symbols (λ x. refl))
    (gather_trip symbol_in l.trip (λ x. refl))
    (gather_none symbol_in (λ row. entry.Off row) l.off (λ x. refl))
    ∙ append-nil l.symbols

off_listed : (l : Limits) → filter_map off_in (entries_in l) ≡ l.off
off_listed l =
    gathered off_in l [] [] [] l.off
    (gather_none off_in (λ row. entry.Account row) l.accounts (λ x. refl))
    (gather_none off_in (λ row. entry.Symbol row) l.symbols (λ x. refl))
    (gather_trip off_in l.trip (λ x. refl))
    (gather_all off_in (λ row. entry.Off row) l.off (λ x. refl))

-- rows that fail the test are passed over
find_past : {X : Type 0} (p : Entry → Bool) (f : X → Entry) (xs : List X) (rest : List Entry)
    → ((x : X) → p (f x) ≡ false) → find p (map f xs ++ rest) ≡ find p rest
find_past p f [] rest h = refl
find_past p f (x ∷ xs) rest h = rw (h x) (find_past p f xs rest h)

find_none : {X : Type 0} (p : Entry → Bool) (f : X → Entry) (xs : List X)
    → ((x : X) → p (f x) ≡ false) → find p (map f xs) ≡ None
find_none p f [] h = refl
find_none p f (x ∷ xs) h = rw (h x) (find_none p f xs h)

-- the first row of a kind that is neither the firm nor an account nor a symbol
first_past : (k : Kind) (l : Limits) → same_kind kind.Firm k ≡ false
    → same_kind kind.Account k ≡ false → same_kind kind.Symbol k ≡ false
    → first_of k (entries_in l) ≡ first_of k (trip_rows l.trip ++ last_rows l)
first_past k l firm account symbol =
    let p : Entry → Bool = λ e. same_kind (kind_of e) k in
    let rest = trip_rows l.trip ++ last_rows l in
    let tail = account_rows l.accounts ++ (symbol_rows l.symbols ++ rest) in
    let start : first_of k (entries_in l) ≡ first_of k tail = rw firm refl in
    start
    ∙ find_past p (λ row. entry.Account row) l.accounts (symbol_rows l.symbols ++ rest)
    (λ x. account)
    ∙ find_past p (λ row. entry.Symbol row) l.symbols rest (λ x. symbol)

trip_first : (l : Limits) (trip : Option ℕ)
    → trip_in (first_of kind.Trip (trip_rows trip ++ last_rows l)) ≡ trip
trip_first l None =
    ap trip_in (find_none (λ e. same_kind (kind_of e) kind.Trip) (λ row. entry.Off row) l.off
    (λ x. refl))
trip_first l (Some count) = refl

quota_first : (l : Limits) (trip : Option ℕ)
    → quota_in (first_of kind.Quota (trip_rows trip ++ last_rows l)) ≡ Some l.quota
quota_first l None = refl
quota_first l (Some count) = refl

repeat_first : (l : Limits) (trip : Option ℕ)
    → repeat_in (first_of kind.Repeat (trip_rows trip ++ last_rows l)) ≡ Some l.repeat
repeat_first l None = refl
repeat_first l (Some count) = refl

trip_listed : (l : Limits) → trip_of (entries_in l) ≡ l.trip
trip_listed l = ap trip_in (first_past kind.Trip l refl refl refl) ∙ trip_first l l.trip

quota_listed : (l : Limits) → quota_of (entries_in l) ≡ l.quota
quota_listed l =
    ap (λ (o : Option ℕ). unwrap_or o quota_default)
    (ap quota_in (first_past kind.Quota l refl refl refl) ∙ quota_first l l.trip)

repeat_listed : (l : Limits) → repeat_of (entries_in l) ≡ l.repeat
repeat_listed l =
    ap (λ (o : Option ℕ). unwrap_or o 0)
    (ap repeat_in (first_past kind.Repeat l refl refl refl) ∙ repeat_first l l.trip)

-- limits of these parts
abbrev made_of : ℕ → List AccountRow → List SymbolRow → Option ℕ → ℕ → ℕ → List OffRow → Limits
made_of firm accounts symbols trip quota repeat off = record {
  firm = firm;
  accounts = accounts;
  symbols = symbols;
  trip = trip;
  quota = quota;
  repeat = repeat;
  off = off;
}

-- the rows that are written for limits set these limits
pub limits_listed : (l : Limits) → limits_of (entries_in l) ≡ Some l
limits_listed l =
    let es = entries_in l in
    ap (λ (x : Limits). Some x) (
    ap (λ (a : List AccountRow). made_of l.firm a (filter_map symbol_in es) (trip_of es)
    (quota_of es) (repeat_of es) (filter_map off_in es)) (accounts_listed l)
    ∙ ap (λ (a : List SymbolRow). made_of l.firm l.accounts a (trip_of es)
    (quota_of es) (repeat_of es) (filter_map off_in es)) (symbols_listed l)
    ∙ ap (λ (a : Option ℕ). made_of l.firm l.accounts l.symbols a
    (quota_of es) (repeat_of es) (filter_map off_in es)) (trip_listed l)
    ∙ ap (λ a. made_of l.firm l.accounts l.symbols l.trip a (repeat_of es) (filter_map off_in es))
    (quota_listed l)
    ∙ ap (λ a. made_of l.firm l.accounts l.symbols l.trip l.quota a (filter_map off_in es))
    (repeat_listed l)
    ∙ ap (λ (a : List OffRow). made_of l.firm l.accounts l.symbols l.trip l.quota l.repeat a)
    (off_listed l)
    )
