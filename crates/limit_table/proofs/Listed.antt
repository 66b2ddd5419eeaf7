-- The rows that are written for limits set these limits, and are sound where a file's were.
use Rattle.std.proofs.Common.{◌≡◌, ℕ, List, [], ◌∷◌, ◌++◌, map, refl, sym, ap, ◌∙◌, subst, Bool}
use Rattle.std.proofs.Common.{true, false, Option, Some, None}
use Rattle.std.specs.Prelude.{option_map, filter_map}
use Rattle.std.specs.List.{filter}
use Rattle.std.proofs.lemmas.List.{append-nil}
use Rattle.std.proofs.lemmas.List.Elements.{filter-append}
use Rattle.limit_table.specs.Kinds.{kind_of, same_kind}
use Rattle.limit_table.specs.Tables.{account_in, symbol_in, off_in}
use Rattle.limit_table.specs.Tables.{firm_of, limits_with, limits_of}
use Rattle.limit_table.specs.Printing.{entries_in, trip_rows}
use Rattle.limit_table.specs.declared.kind.AccountRow.{AccountRow}
use Rattle.limit_table.specs.declared.kind.SymbolRow.{SymbolRow}
use Rattle.limit_table.specs.declared.kind.OffRow.{OffRow}
use Rattle.limit_table.specs.declared.kind.Kind.{Kind}
use Rattle.limit_table.specs.declared.kind.Kind.TheVariants as kind
use Rattle.limit_table.specs.declared.kind.Entry.{Entry}
use Rattle.limit_table.specs.declared.kind.Entry.TheVariants as entry
use Rattle.limit_table.specs.declared.limits.Limits.{Limits}
use Rattle.limit_table.proofs.SoundAfter.{of_kind, SoundAfter, sound_of_kind, sound_by_kinds}

-- the rows of accounts, of symbols, of screens, and the last rows
abbrev pub account_rows : List AccountRow → List Entry
account_rows rows = map (λ row. entry.Account row) rows

abbrev pub symbol_rows : List SymbolRow → List Entry
symbol_rows rows = map (λ row. entry.Symbol row) rows

abbrev pub off_rows : List OffRow → List Entry
off_rows rows = map (λ row. entry.Off row) rows

abbrev pub last_rows : Limits → List Entry
last_rows l = entry.Quota l.quota ∷ entry.Repeat l.repeat ∷ off_rows l.off

pub joined : {A : Type 0} (a b c d e f g h : List A) → a ≡ e → b ≡ f → c ≡ g → d ≡ h
    → a ++ (b ++ (c ++ d)) ≡ e ++ (f ++ (g ++ h))
joined a b c d e f g h p q r s = cc (p, q, r, s)

keep_all : {X : Type 0} (p : Entry → Bool) (f : X → Entry) (xs : List X)
    → ((x : X) → p (f x) ≡ true) → filter p (map f xs) ≡ map f xs
keep_all p f [] h = refl
keep_all p f (x ∷ xs) h = rw (h x) (ap (λ (es : List Entry). f x ∷ es) (keep_all p f xs h))

keep_none : {X : Type 0} (p : Entry → Bool) (f : X → Entry) (xs : List X)
    → ((x : X) → p (f x) ≡ false) → filter p (map f xs) ≡ []
keep_none p f [] h = refl
keep_none p f (x ∷ xs) h = rw (h x) (keep_none p f xs h)

keep_trip : (k : Kind) (trip : Option ℕ) → same_kind k kind.Trip ≡ false
    → of_kind k (trip_rows trip) ≡ []
keep_trip k None other = refl
keep_trip k (Some count) other = rw other refl

own_trip : (trip : Option ℕ) → of_kind kind.Trip (trip_rows trip) ≡ trip_rows trip
own_trip None = refl
own_trip (Some count) = refl

kept_parts : (k : Kind) (a b c d : List Entry)
    → of_kind k (a ++ (b ++ (c ++ d)))
    ≡ of_kind k a ++ (of_kind k b ++ (of_kind k c ++ of_kind k d))
kept_parts k a b c d =
    let p : Entry → Bool = λ e. same_kind k (kind_of e) in
    filter-append p a (b ++ (c ++ d))
    ∙ ap (λ (es : List Entry). of_kind k a ++ es) (filter-append p b (c ++ d)
    ∙ ap (λ (es : List Entry). of_kind k b ++ es) (filter-append p c d))

-- the rows of each kind after the first row
kept_rest : (k : Kind) (l : Limits) (a b c d : List Entry) → of_kind k (account_rows l.accounts) ≡ a
    → of_kind k (symbol_rows l.symbols) ≡ b → of_kind k (trip_rows l.trip) ≡ c
    → of_kind k (last_rows l) ≡ d
    → of_kind k (account_rows l.accounts
    ++ (symbol_rows l.symbols ++ (trip_rows l.trip ++ last_rows l)))
    ≡ a ++ (b ++ (c ++ d))
kept_rest k l a b c d is_a is_b is_c is_d =
    kept_parts k (account_rows l.accounts) (symbol_rows l.symbols) (trip_rows l.trip) (last_rows l)
    ∙ joined (of_kind k (account_rows l.accounts)) (of_kind k (symbol_rows l.symbols))
    (of_kind k (trip_rows l.trip)) (of_kind k (last_rows l)) a b c d is_a is_b is_c is_d

-- the rows of one kind among those that are written
abbrev tests : Kind → Entry → Bool
tests k e = same_kind k (kind_of e)

pub firm_part : (l : Limits) → of_kind kind.Firm (entries_in l) ≡ entry.Firm l.firm ∷ []
firm_part l =
    ap (λ (es : List Entry). entry.Firm l.firm ∷ es) (kept_rest kind.Firm l [] [] [] []
    (keep_none (tests kind.Firm) (λ row. entry.Account row) l.accounts (λ x. refl))
    (keep_none (tests kind.Firm) (λ row. entry.Symbol row) l.symbols (λ x. refl))
    (keep_trip kind.Firm l.trip refl)
    (keep_none (tests kind.Firm) (λ row. entry.Off row) l.off (λ x. refl)))

pub account_part : (l : Limits) → of_kind kind.Account (entries_in l) ≡ account_rows l.accounts
account_part l =
    kept_rest kind.Account l (account_rows l.accounts) [] [] []
    (keep_all (tests kind.Account) (λ row. entry.Account row) l.accounts (λ x. refl))
    (keep_none (tests kind.Account) (λ row. entry.Symbol row) l.symbols (λ x. refl))
    (keep_trip kind.Account l.trip refl)
    (keep_none (tests kind.Account) (λ row. entry.Off row) l.off (λ x. refl))
    ∙ append-nil (account_rows l.accounts)

pub symbol_part : (l : Limits) → of_kind kind.Symbol (entries_in l) ≡ symbol_rows l.symbols
symbol_part l =
    kept_rest kind.Symbol l [] (symbol_rows l.symbols) [] []
    (keep_none (tests kind.Symbol) (λ row. entry.Account row) l.accounts (λ x. refl))
    (keep_all (tests kind.Symbol) (λ row. entry.Symbol row) l.symbols (λ x. refl))
    (keep_trip kind.Symbol l.trip refl)
    (keep_none (tests kind.Symbol) (λ row. entry.Off row) l.off (λ x. refl))
    ∙ append-nil (symbol_rows l.symbols)

pub trip_part : (l : Limits) → of_kind kind.Trip (entries_in l) ≡ trip_rows l.trip
trip_part l =
    kept_rest kind.Trip l [] [] (trip_rows l.trip) []
    (keep_none (tests kind.Trip) (λ row. entry.Account row) l.accounts (λ x. refl))
    (keep_none (tests kind.Trip) (λ row. entry.Symbol row) l.symbols (λ x. refl))
    (own_trip l.trip)
    (keep_none (tests kind.Trip) (λ row. entry.Off row) l.off (λ x. refl))
    ∙ append-nil (trip_rows l.trip)

pub quota_part : (l : Limits) → of_kind kind.Quota (entries_in l) ≡ entry.Quota l.quota ∷ []
quota_part l =
    kept_rest kind.Quota l [] [] [] (entry.Quota l.quota ∷ [])
    (keep_none (tests kind.Quota) (λ row. entry.Account row) l.accounts (λ x. refl))
    (keep_none (tests kind.Quota) (λ row. entry.Symbol row) l.symbols (λ x. refl))
    (keep_trip kind.Quota l.trip refl)
    (ap (λ (es : List Entry). entry.Quota l.quota ∷ es)
    (keep_none (tests kind.Quota) (λ row. entry.Off row) l.off (λ x. refl)))

pub repeat_part : (l : Limits) → of_kind kind.Repeat (entries_in l) ≡ entry.Repeat l.repeat ∷ []
repeat_part l =
    kept_rest kind.Repeat l [] [] [] (entry.Repeat l.repeat ∷ [])
    (keep_none (tests kind.Repeat) (λ row. entry.Account row) l.accounts (λ x. refl))
    (keep_none (tests kind.Repeat) (λ row. entry.Symbol row) l.symbols (λ x. refl))
    (keep_trip kind.Repeat l.trip refl)
    (ap (λ (es : List Entry). entry.Repeat l.repeat ∷ es)
    (keep_none (tests kind.Repeat) (λ row. entry.Off row) l.off (λ x. refl)))

pub off_part : (l : Limits) → of_kind kind.Off (entries_in l) ≡ off_rows l.off
off_part l =
    kept_rest kind.Off l [] [] [] (off_rows l.off)
    (keep_none (tests kind.Off) (λ row. entry.Account row) l.accounts (λ x. refl))
    (keep_none (tests kind.Off) (λ row. entry.Symbol row) l.symbols (λ x. refl))
    (keep_trip kind.Off l.trip refl)
    (keep_all (tests kind.Off) (λ row. entry.Off row) l.off (λ x. refl))

-- the rows of one kind among any are those that set such a thing
pub of_accounts : (es : List Entry)
    → of_kind kind.Account es ≡ account_rows (filter_map account_in es)
of_accounts [] = refl
of_accounts (entry.Firm x ∷ es) = of_accounts es
of_accounts (entry.Account x ∷ es) = ap (λ (r : List Entry). entry.Account x ∷ r) (of_accounts es)
of_accounts (entry.Symbol x ∷ es) = of_accounts es
of_accounts (entry.Trip x ∷ es) = of_accounts es
of_accounts (entry.Quota x ∷ es) = of_accounts es
of_accounts (entry.Repeat x ∷ es) = of_accounts es
of_accounts (entry.Off x ∷ es) = of_accounts es

pub of_symbols : (es : List Entry) → of_kind kind.Symbol es ≡ symbol_rows (filter_map symbol_in es)
of_symbols [] = refl
of_symbols (entry.Firm x ∷ es) = of_symbols es
of_symbols (entry.Account x ∷ es) = of_symbols es
of_symbols (entry.Symbol x ∷ es) = ap (λ (r : List Entry). entry.Symbol x ∷ r) (of_symbols es)
of_symbols (entry.Trip x ∷ es) = of_symbols es
of_symbols (entry.Quota x ∷ es) = of_symbols es
of_symbols (entry.Repeat x ∷ es) = of_symbols es
of_symbols (entry.Off x ∷ es) = of_symbols es

pub of_off : (es : List Entry) → of_kind kind.Off es ≡ off_rows (filter_map off_in es)
of_off [] = refl
of_off (entry.Firm x ∷ es) = of_off es
of_off (entry.Account x ∷ es) = of_off es
of_off (entry.Symbol x ∷ es) = of_off es
of_off (entry.Trip x ∷ es) = of_off es
of_off (entry.Quota x ∷ es) = of_off es
of_off (entry.Repeat x ∷ es) = of_off es
of_off (entry.Off x ∷ es) = ap (λ (r : List Entry). entry.Off x ∷ r) (of_off es)

-- rows set these limits
pub record AreSet (es : List Entry) (l : Limits) : Type 0 where
  pub firm : firm_of es ≡ Some l.firm
  pub same : limits_with es l.firm ≡ l

set_by : (es : List Entry) (o : Option ℕ) (l : Limits) → option_map (limits_with es) o ≡ Some l
    → (o ≡ Some l.firm) × (limits_with es l.firm ≡ l)
set_by es None l h = (cc h, cc h)
set_by es (Some firm) l h =
    let same : limits_with es firm ≡ l = cc h in
    let is : firm ≡ l.firm = ap (λ (x : Limits). x.firm) same in
    (ap (λ n. Some n) is, ap (limits_with es) (sym is) ∙ same)

pub rows_set : (es : List Entry) (l : Limits) → limits_of es ≡ Some l → AreSet es l
rows_set es l h =
    let both = set_by es (firm_of es) l h in
    record { firm = both.0; same = both.1 }

pub trip_is_sound : (trip : Option ℕ) → SoundAfter [] (trip_rows trip)
trip_is_sound None = tt
trip_is_sound (Some count) = (refl, tt)

one_is_sound : (es : List Entry) (l : Limits) (k : Kind) → AreSet es l → SoundAfter [] es
    → SoundAfter [] (of_kind k (entries_in l))
one_is_sound es l kind.Firm set s = subst (SoundAfter []) (sym (firm_part l)) (refl, tt)
one_is_sound es l kind.Account set s =
    subst (SoundAfter []) (of_accounts es
    ∙ ap (λ (x : Limits). account_rows x.accounts) set.same ∙ sym (account_part l))
    (sound_of_kind kind.Account [] es s)
one_is_sound es l kind.Symbol set s =
    subst (SoundAfter []) (of_symbols es
    ∙ ap (λ (x : Limits). symbol_rows x.symbols) set.same ∙ sym (symbol_part l))
    (sound_of_kind kind.Symbol [] es s)
one_is_sound es l kind.Trip set s =
    subst (SoundAfter []) (sym (trip_part l)) (trip_is_sound l.trip)
one_is_sound es l kind.Quota set s = subst (SoundAfter []) (sym (quota_part l)) (refl, tt)
one_is_sound es l kind.Repeat set s = subst (SoundAfter []) (sym (repeat_part l)) (refl, tt)
one_is_sound es l kind.Off set s =
    subst (SoundAfter []) (of_off es
    ∙ ap (λ (x : Limits). off_rows x.off) set.same ∙ sym (off_part l))
    (sound_of_kind kind.Off [] es s)

-- the rows that are written are sound where those of a file are
pub listed_is_sound : (es : List Entry) (l : Limits) → AreSet es l → SoundAfter [] es
    → SoundAfter [] (entries_in l)
listed_is_sound es l set s =
    sound_by_kinds [] (entries_in l) (λ k. one_is_sound es l k set s)
