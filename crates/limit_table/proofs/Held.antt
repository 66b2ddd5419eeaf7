-- What a file can hold is few of each kind.
use Rattle.std.proofs.Common.{◌≡◌, ℕ, ◌≤◌, List, length, Option, Some, None, sym, ap, subst}
use Rattle.std.specs.Prelude.{option_map, unwrap_or, filter_map}
use Rattle.limit_table.specs.Tables.{IsFew, limits_with, firm_of, account_in, symbol_in, off_in}
use Rattle.limit_table.specs.Files.{HoldsEntries, IsHeldByFile}
use Rattle.limit_table.specs.Versions.{version_of, body_of}
use Rattle.limit_table.specs.declared.kind.Entry.{Entry}
use Rattle.limit_table.specs.declared.limits.Limits.{Limits}
use Rattle.limit_table.proofs.Few.{few_accounts, few_symbols, few_off}
use Rattle.limit_table.proofs.Sound.{sound_is_few}

-- sound rows are few of each kind
pub holds_few : (bytes : List ℕ) (entries : List Entry) → HoldsEntries bytes entries → IsFew entries
holds_few bytes entries h =
    subst IsFew (sym h.sets.set)
    (sound_is_few (version_of h.rows) (body_of h.rows) h.sets.sound)

accounts_set : (entries : List Entry) (o : Option ℕ) (limits : Limits)
    → option_map (limits_with entries) o ≡ Some limits
    → filter_map account_in entries ≡ limits.accounts
accounts_set entries None limits h = cc h
accounts_set entries (Some firm) limits h =
    ap (λ (l : Option Limits). (unwrap_or l limits).accounts) h

symbols_set : (entries : List Entry) (o : Option ℕ) (limits : Limits)
    → option_map (limits_with entries) o ≡ Some limits
    → filter_map symbol_in entries ≡ limits.symbols
symbols_set entries None limits h = cc h
symbols_set entries (Some firm) limits h =
    ap (λ (l : Option Limits). (unwrap_or l limits).symbols) h

off_set : (entries : List Entry) (o : Option ℕ) (limits : Limits)
    → option_map (limits_with entries) o ≡ Some limits
    → filter_map off_in entries ≡ limits.off
off_set entries None limits h = cc h
off_set entries (Some firm) limits h =
    ap (λ (l : Option Limits). (unwrap_or l limits).off) h

pub held_accounts : (limits : Limits) → IsHeldByFile limits → length limits.accounts ≤ 100
held_accounts limits (bytes, file) =
    let set = accounts_set file.entries (firm_of file.entries) limits file.set in
    subst (λ n. n ≤ 100) (ap length set)
    (few_accounts file.entries (holds_few bytes file.entries file.holds))

pub held_symbols : (limits : Limits) → IsHeldByFile limits → length limits.symbols ≤ 400
held_symbols limits (bytes, file) =
    let set = symbols_set file.entries (firm_of file.entries) limits file.set in
    subst (λ n. n ≤ 400) (ap length set)
    (few_symbols file.entries (holds_few bytes file.entries file.holds))

pub held_off : (limits : Limits) → IsHeldByFile limits → length limits.off ≤ 16
held_off limits (bytes, file) =
    let set = off_set file.entries (firm_of file.entries) limits file.set in
    subst (λ n. n ≤ 16) (ap length set)
    (few_off file.entries (holds_few bytes file.entries file.holds))
