-- The rows that are written for limits are in range where those of a file are.
use Rattle.std.proofs.Common.{◌≡◌, ℕ, List, [], ◌∷◌, ◌++◌, refl, ap, ◌∙◌, subst, arith, Bool}
use Rattle.std.proofs.Common.{Option, Some, None, inl, inr}
use Rattle.std.specs.Prelude.{unwrap_or, find}
use Rattle.std.specs.List.{All}
use Rattle.std.proofs.lemmas.Bool.{cases_Bool}
use Rattle.std.proofs.lemmas.List.Elements.{All-nil, All-cons, All-append, All-head}
use Rattle.std.proofs.lemmas.List.Elements.{All-tail, All-filter}
use Rattle.limit_table.specs.Kinds.{kind_of, same_kind}
use Rattle.limit_table.specs.Tables.{firm_in, trip_in, quota_in, repeat_in}
use Rattle.limit_table.specs.Tables.{first_of}
use Rattle.limit_table.specs.Printing.{entries_in, trip_rows}
use Rattle.limit_table.specs.Ranges.{IsFromTo, IsInRange}
use Rattle.limit_table.specs.declared.kind.Kind.{Kind}
use Rattle.limit_table.specs.declared.kind.Kind.TheVariants as kind
use Rattle.limit_table.specs.declared.kind.Entry.{Entry}
use Rattle.limit_table.specs.declared.kind.Entry.TheVariants as entry
use Rattle.limit_table.specs.declared.limits.Limits.{Limits}
use Rattle.limit_table.proofs.Listed.{AreSet, account_rows, symbol_rows, off_rows, last_rows}
use Rattle.limit_table.proofs.Listed.{of_accounts, of_symbols, of_off}
use Rattle.limit_table.proofs.SoundAfter.{of_kind}
use Rattle.limit_table.specs.Entries.{quota_most}
use Rattle.limit_table.specs.Tables.{quota_default}

none_found : (e : Entry) → None ≡ Some e → ⊥
none_found e h = cc h

none_set : (n : ℕ) → None ≡ Some n → ⊥
none_set n h = cc h

-- what is found among rows in range is in range
found_in_range : (p : Entry → Bool) (es : List Entry) → All IsInRange es → (e : Entry)
    → find p es ≡ Some e → IsInRange e
found_in_range p [] r e h = absurd (none_found e h)
found_in_range p (x ∷ es) r e h = elim (cases_Bool (p x)) [
  | inl hit ↦
      let is : x ≡ e = cc (rw hit at h) in
      subst IsInRange is (All-head IsInRange x es r)
  | inr miss ↦ found_in_range p es (All-tail IsInRange x es r) e (rw miss at h)
]

-- what is in a row that was found, if one was
abbrev Given : Option Entry → Type 0
Given o = (e : Entry) → o ≡ Some e → IsInRange e

firm_in_range : (o : Option Entry) (firm : ℕ) → Given o → firm_in o ≡ Some firm
    → IsInRange (entry.Firm firm)
firm_in_range None firm r h = absurd (none_set firm h)
firm_in_range (Some (entry.Firm x)) firm r h =
    let is : x ≡ firm = cc h in
    subst (λ n. IsInRange (entry.Firm n)) is (r (entry.Firm x) refl)
firm_in_range (Some (entry.Account x)) firm r h = absurd (none_set firm h)
firm_in_range (Some (entry.Symbol x)) firm r h = absurd (none_set firm h)
firm_in_range (Some (entry.Trip x)) firm r h = absurd (none_set firm h)
firm_in_range (Some (entry.Quota x)) firm r h = absurd (none_set firm h)
firm_in_range (Some (entry.Repeat x)) firm r h = absurd (none_set firm h)
firm_in_range (Some (entry.Off x)) firm r h = absurd (none_set firm h)

trip_in_range : (o : Option Entry) → Given o → All IsInRange (trip_rows (trip_in o))
trip_in_range None r = All-nil IsInRange
trip_in_range (Some (entry.Trip x)) r =
    All-cons IsInRange (entry.Trip x) [] (r (entry.Trip x) refl) (All-nil IsInRange)
trip_in_range (Some (entry.Firm x)) r = All-nil IsInRange
trip_in_range (Some (entry.Account x)) r = All-nil IsInRange
trip_in_range (Some (entry.Symbol x)) r = All-nil IsInRange
trip_in_range (Some (entry.Quota x)) r = All-nil IsInRange
trip_in_range (Some (entry.Repeat x)) r = All-nil IsInRange
trip_in_range (Some (entry.Off x)) r = All-nil IsInRange

default_quota : IsFromTo 1 quota_most quota_default
default_quota = (omega arith, omega arith)

quota_in_range : (o : Option Entry) → Given o → IsFromTo 1 quota_most (unwrap_or (quota_in o) quota_default)
quota_in_range None r = default_quota
quota_in_range (Some (entry.Quota x)) r = r (entry.Quota x) refl
quota_in_range (Some (entry.Firm x)) r = default_quota
quota_in_range (Some (entry.Account x)) r = default_quota
quota_in_range (Some (entry.Symbol x)) r = default_quota
quota_in_range (Some (entry.Trip x)) r = default_quota
quota_in_range (Some (entry.Repeat x)) r = default_quota
quota_in_range (Some (entry.Off x)) r = default_quota

default_repeat : IsFromTo 0 64 0
default_repeat = (omega arith, omega arith)

repeat_in_range : (o : Option Entry) → Given o → IsFromTo 0 64 (unwrap_or (repeat_in o) 0)
repeat_in_range None r = default_repeat
repeat_in_range (Some (entry.Repeat x)) r = r (entry.Repeat x) refl
repeat_in_range (Some (entry.Firm x)) r = default_repeat
repeat_in_range (Some (entry.Account x)) r = default_repeat
repeat_in_range (Some (entry.Symbol x)) r = default_repeat
repeat_in_range (Some (entry.Trip x)) r = default_repeat
repeat_in_range (Some (entry.Quota x)) r = default_repeat
repeat_in_range (Some (entry.Off x)) r = default_repeat

-- the rows that are written are in range where those of a file are
pub listed_in_range : (es : List Entry) (l : Limits) → AreSet es l → All IsInRange es
    → All IsInRange (entries_in l)
listed_in_range es l set r =
    let first : (k : Kind) → Given (first_of k es) =
    λ k. found_in_range (λ e. same_kind (kind_of e) k) es r in
    let firm = firm_in_range (first_of kind.Firm es) l.firm (first kind.Firm) set.firm in
    let kept : (k : Kind) → All IsInRange (of_kind k es) =
    λ k. All-filter (λ e. same_kind k (kind_of e)) IsInRange es r in
    let accounts : All IsInRange (account_rows l.accounts) =
    subst (λ (x : List Entry). All IsInRange x) (of_accounts es
    ∙ ap (λ (x : Limits). account_rows x.accounts) set.same) (kept kind.Account) in
    let symbols : All IsInRange (symbol_rows l.symbols) =
    subst (λ (x : List Entry). All IsInRange x) (of_symbols es
    ∙ ap (λ (x : Limits). symbol_rows x.symbols) set.same) (kept kind.Symbol) in
    let off : All IsInRange (off_rows l.off) =
    subst (λ (x : List Entry). All IsInRange x) (of_off es
    ∙ ap (λ (x : Limits). off_rows x.off) set.same) (kept kind.Off) in
    let trip : All IsInRange (trip_rows l.trip) =
    subst (λ (x : Limits). All IsInRange (trip_rows x.trip)) set.same
    (trip_in_range (first_of kind.Trip es) (first kind.Trip)) in
    let quota : IsFromTo 1 quota_most l.quota =
    subst (λ (x : Limits). IsFromTo 1 quota_most x.quota) set.same
    (quota_in_range (first_of kind.Quota es) (first kind.Quota)) in
    let repeat : IsFromTo 0 64 l.repeat =
    subst (λ (x : Limits). IsFromTo 0 64 x.repeat) set.same
    (repeat_in_range (first_of kind.Repeat es) (first kind.Repeat)) in
    let behind = trip_rows l.trip ++ last_rows l in
    let tail = symbol_rows l.symbols ++ behind in
    let last : All IsInRange (last_rows l) =
    All-cons IsInRange (entry.Quota l.quota) (entry.Repeat l.repeat ∷ off_rows l.off) quota
    (All-cons IsInRange (entry.Repeat l.repeat) (off_rows l.off) repeat off) in
    let after_symbols = All-append IsInRange (trip_rows l.trip) (last_rows l) trip last in
    let after_firm = All-append IsInRange (symbol_rows l.symbols) behind symbols after_symbols in
    All-cons IsInRange (entry.Firm l.firm) (account_rows l.accounts ++ tail) firm
    (All-append IsInRange (account_rows l.accounts) tail accounts after_firm)
