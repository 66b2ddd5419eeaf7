-- No kind has more rows than it may, so there are few rows in all.
use Rattle.std.proofs.Common.{◌≡◌, ℕ, zero, suc, ◌+◌, ◌≤◌, List, [], ◌∷◌, ◌++◌, length, Bool, true}
use Rattle.std.proofs.Common.{false, cond, count_by, refl, sym, ap, subst, ◌∙◌, arith, ◌⊎◌, inl, inr}
use Rattle.std.proofs.Common.{eqb-true, leb-false, zero-add}
use Rattle.std.specs.Prelude.{filter_map, nat_le, fold}
use Rattle.std.proofs.lemmas.Bool.{cases_Bool}
use Rattle.std.specs.List.{cons_option}
use Rattle.limit_table.specs.Kinds.{kind_of, kind_place, same_kind, rows_most}
use Rattle.limit_table.specs.Faults.{count_alike}
use Rattle.limit_table.specs.Tables.{IsFew, account_in, symbol_in, off_in}
use Rattle.limit_table.specs.declared.kind.AccountRow.{AccountRow}
use Rattle.limit_table.specs.declared.kind.SymbolRow.{SymbolRow}
use Rattle.limit_table.specs.declared.kind.OffRow.{OffRow}
use Rattle.limit_table.specs.declared.kind.Kind.{Kind}
use Rattle.limit_table.specs.declared.kind.Kind.TheVariants as kind
use Rattle.limit_table.specs.declared.kind.Entry.{Entry}
use Rattle.limit_table.specs.declared.kind.Entry.TheVariants as entry

-- the kind at a place in the list of kinds
abbrev kind_at : ℕ → Kind
kind_at zero = kind.Firm
kind_at (suc zero) = kind.Account
kind_at (suc (suc zero)) = kind.Symbol
kind_at (suc (suc (suc zero))) = kind.Trip
kind_at (suc (suc (suc (suc zero)))) = kind.Quota
kind_at (suc (suc (suc (suc (suc zero))))) = kind.Repeat
kind_at _ = kind.Off

kind_back : (k : Kind) → kind_at (kind_place k) ≡ k
kind_back kind.Firm = refl
kind_back kind.Account = refl
kind_back kind.Symbol = refl
kind_back kind.Trip = refl
kind_back kind.Quota = refl
kind_back kind.Repeat = refl
kind_back kind.Off = refl

-- kinds at the same place are the same
pub same_kind_is : (a b : Kind) → same_kind a b ≡ true → a ≡ b
same_kind_is a b h =
    sym (kind_back a) ∙ ap kind_at (eqb-true (kind_place a) (kind_place b) h) ∙ kind_back b

-- the row is of this kind
abbrev of_kind : Kind → Entry → Bool
of_kind k row = same_kind k (kind_of row)

-- how much a row adds to a count
abbrev weight : Bool → ℕ
weight b = cond b 1 0

-- a count that began at a number
abbrev count_from : (Entry → Bool) → ℕ → List Entry → ℕ
count_from p n xs = fold (λ a x. a + weight (p x)) n xs

shift : (n w m : ℕ) → n + w + m ≡ n + (0 + w + m)
shift n w m = omega arith

add_none : (n : ℕ) → n ≡ n + 0
add_none n = omega arith

count_from_is : (p : Entry → Bool) (xs : List Entry) (n : ℕ)
    → count_from p n xs ≡ n + count_by p xs
count_from_is p [] n = add_none n
count_from_is p (x ∷ xs) n =
    count_from_is p xs (n + weight (p x)) ∙ shift n (weight (p x)) (count_by p xs)
    ∙ ap (λ m. n + m) (sym (count_from_is p xs (0 + weight (p x))))

pub count_cons : (p : Entry → Bool) (x : Entry) (xs : List Entry)
    → count_by p (x ∷ xs) ≡ weight (p x) + count_by p xs
count_cons p x xs =
    count_from_is p xs (0 + weight (p x)) ∙ ap (λ n. n + count_by p xs) (zero-add (weight (p x)))

count_none : (p : Entry → Bool) → count_by p [] ≡ 0
count_none p = refl

count_snoc : (p : Entry → Bool) (xs : List Entry) (x : Entry)
    → count_by p (xs ++ x ∷ []) ≡ count_by p xs + weight (p x)
count_snoc p [] x = omega (arith, count_cons p x [], count_none p)
count_snoc p (y ∷ ys) x =
    omega (arith, count_snoc p ys x, count_cons p y ys, count_cons p y (ys ++ x ∷ []))

few_kind : (es : List Entry) (e : Entry) (k : Kind) → count_by (of_kind k) es ≤ rows_most k
    → nat_le (rows_most (kind_of e)) (count_alike e es) ≡ false
    → (same_kind k (kind_of e) ≡ true) ⊎ (same_kind k (kind_of e) ≡ false)
    → count_by (of_kind k) (es ++ e ∷ []) ≤ rows_most k
few_kind es e k few room (inl same) =
    let room_of : Kind → Type 0 = λ j. nat_le (rows_most j) (count_by (of_kind j) es) ≡ false in
    let free = subst room_of (sym (same_kind_is k (kind_of e) same)) room in
    let less = leb-false (rows_most k) (count_by (of_kind k) es) free in
    let one : weight (of_kind k e) ≡ 1 = ap weight same in
    omega (arith, count_snoc (of_kind k) es e, one, less)
few_kind es e k few room (inr other) =
    let none : weight (of_kind k e) ≡ 0 = ap weight other in
    omega (arith, count_snoc (of_kind k) es e, none, few)

-- one row more, where there is room for it
pub few_more : (es : List Entry) (e : Entry) → IsFew es
    → nat_le (rows_most (kind_of e)) (count_alike e es) ≡ false → IsFew (es ++ e ∷ [])
few_more es e few room =
    λ k. few_kind es e k (few k) room (cases_Bool (same_kind k (kind_of e)))

pub few_none : IsFew []
few_none = λ k. omega arith

-- each row is of one of the kinds
of_one : (e : Entry)
    → weight (of_kind kind.Firm e) + weight (of_kind kind.Account e)
    + weight (of_kind kind.Symbol e) + weight (of_kind kind.Trip e)
    + weight (of_kind kind.Quota e) + weight (of_kind kind.Repeat e)
    + weight (of_kind kind.Off e) ≡ 1
of_one (entry.Firm x) = refl
of_one (entry.Account x) = refl
of_one (entry.Symbol x) = refl
of_one (entry.Trip x) = refl
of_one (entry.Quota x) = refl
of_one (entry.Repeat x) = refl
of_one (entry.Off x) = refl

-- so the counts of the kinds come to the length
length_counts : (es : List Entry)
    → length es ≡ count_by (of_kind kind.Firm) es + count_by (of_kind kind.Account) es
    + count_by (of_kind kind.Symbol) es + count_by (of_kind kind.Trip) es
    + count_by (of_kind kind.Quota) es + count_by (of_kind kind.Repeat) es
    + count_by (of_kind kind.Off) es
length_counts [] = refl
length_counts (e ∷ es) =
    omega (
      arith,
      length_counts es,
      of_one e,
      count_cons (of_kind kind.Firm) e es,
      count_cons (of_kind kind.Account) e es,
      count_cons (of_kind kind.Symbol) e es,
      count_cons (of_kind kind.Trip) e es,
      count_cons (of_kind kind.Quota) e es,
      count_cons (of_kind kind.Repeat) e es,
      count_cons (of_kind kind.Off) e es,
    )

-- so many rows are the most
pub few_in_all : (es : List Entry) → IsFew es → length es ≤ 520
few_in_all es few =
    omega (
      arith,
      length_counts es,
      few kind.Firm,
      few kind.Account,
      few kind.Symbol,
      few kind.Trip,
      few kind.Quota,
      few kind.Repeat,
      few kind.Off,
    )

one_more : {A : Type 0} (x : A) (xs : List A) → length (x ∷ xs) ≡ 1 + length xs
one_more x xs = omega arith

none_more : {A : Type 0} (xs : List A) → length xs ≡ 0 + length xs
none_more xs = omega arith

account_adds : (e : Entry) (xs : List AccountRow)
    → length (cons_option (account_in e) xs) ≡ weight (of_kind kind.Account e) + length xs
account_adds (entry.Firm x) xs = none_more xs
account_adds (entry.Account x) xs = one_more x xs
account_adds (entry.Symbol x) xs = none_more xs
account_adds (entry.Trip x) xs = none_more xs
account_adds (entry.Quota x) xs = none_more xs
account_adds (entry.Repeat x) xs = none_more xs
account_adds (entry.Off x) xs = none_more xs

symbol_adds : (e : Entry) (xs : List SymbolRow)
    → length (cons_option (symbol_in e) xs) ≡ weight (of_kind kind.Symbol e) + length xs
symbol_adds (entry.Firm x) xs = none_more xs
symbol_adds (entry.Account x) xs = none_more xs
symbol_adds (entry.Symbol x) xs = one_more x xs
symbol_adds (entry.Trip x) xs = none_more xs
symbol_adds (entry.Quota x) xs = none_more xs
symbol_adds (entry.Repeat x) xs = none_more xs
symbol_adds (entry.Off x) xs = none_more xs

off_adds : (e : Entry) (xs : List OffRow)
    → length (cons_option (off_in e) xs) ≡ weight (of_kind kind.Off e) + length xs
off_adds (entry.Firm x) xs = none_more xs
off_adds (entry.Account x) xs = none_more xs
off_adds (entry.Symbol x) xs = none_more xs
off_adds (entry.Trip x) xs = none_more xs
off_adds (entry.Quota x) xs = none_more xs
off_adds (entry.Repeat x) xs = none_more xs
off_adds (entry.Off x) xs = one_more x xs

length_accounts : (es : List Entry)
    → length (filter_map account_in es) ≡ count_by (of_kind kind.Account) es
length_accounts [] = refl
length_accounts (e ∷ es) =
    account_adds e (filter_map account_in es)
    ∙ ap (λ n. weight (of_kind kind.Account e) + n) (length_accounts es)
    ∙ sym (count_cons (of_kind kind.Account) e es)

length_symbols : (es : List Entry)
    → length (filter_map symbol_in es) ≡ count_by (of_kind kind.Symbol) es
length_symbols [] = refl
length_symbols (e ∷ es) =
    symbol_adds e (filter_map symbol_in es)
    ∙ ap (λ n. weight (of_kind kind.Symbol e) + n) (length_symbols es)
    ∙ sym (count_cons (of_kind kind.Symbol) e es)

length_off : (es : List Entry)
    → length (filter_map off_in es) ≡ count_by (of_kind kind.Off) es
length_off [] = refl
length_off (e ∷ es) =
    off_adds e (filter_map off_in es)
    ∙ ap (λ n. weight (of_kind kind.Off e) + n) (length_off es)
    ∙ sym (count_cons (of_kind kind.Off) e es)

pub few_accounts : (es : List Entry) → IsFew es → length (filter_map account_in es) ≤ 100
few_accounts es few = omega (arith, length_accounts es, few kind.Account)

pub few_symbols : (es : List Entry) → IsFew es → length (filter_map symbol_in es) ≤ 400
few_symbols es few = omega (arith, length_symbols es, few kind.Symbol)

pub few_off : (es : List Entry) → IsFew es → length (filter_map off_in es) ≤ 16
few_off es few = omega (arith, length_off es, few kind.Off)
