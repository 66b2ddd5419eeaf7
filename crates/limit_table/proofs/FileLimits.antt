-- The limits that a file can hold are those that are in range, few of each kind and named apart.
use Rattle.std.proofs.Common.{◌≡◌, List, [], refl, sym, subst, arith}
use Rattle.std.proofs.lemmas.List.{length-map}
use Rattle.std.specs.List.{All, IsDistinct}
use Rattle.std.proofs.lemmas.List.Elements.{All-filter}
use Rattle.limit_table.specs.Kinds.{kind_of, same_kind, same_text}
use Rattle.limit_table.specs.Printing.{entries_in, file_text}
use Rattle.limit_table.specs.Files.{IsHeldByFile}
use Rattle.limit_table.specs.FileLimits.{AreFileLimits}
use Rattle.limit_table.specs.Ranges.{IsInRange}
use Rattle.limit_table.specs.declared.kind.Kind.{Kind}
use Rattle.limit_table.specs.declared.kind.Kind.TheVariants as kind
use Rattle.limit_table.specs.declared.kind.Entry.{Entry}
use Rattle.limit_table.specs.declared.kind.Entry.TheVariants as entry
use Rattle.limit_table.specs.declared.limits.Limits.{Limits}
use Rattle.limit_table.proofs.Held.{held_accounts, held_symbols, held_off}
use Rattle.limit_table.proofs.SoundAfter.{SoundAfter, of_kind, sound_of_kind, sound_by_kinds}
use Rattle.limit_table.proofs.Listed.{account_part, symbol_part, off_part, firm_part, trip_part}
use Rattle.limit_table.proofs.Listed.{quota_part, repeat_part, trip_is_sound}
use Rattle.limit_table.proofs.Listed.{account_rows, symbol_rows, off_rows}
use Rattle.limit_table.proofs.Printed.{AreHeld, held_rows, written_is_file}
use Rattle.limit_table.proofs.Distinct.{sound_is_distinct, distinct_is_sound}

none_are_distinct : IsDistinct same_text []
unfolding IsDistinct
none_are_distinct = tt

-- the names of a file's limits are few and different
pub held_is_file_limits : (l : Limits) → IsHeldByFile l → AreFileLimits l
held_is_file_limits l held =
    let rows = held_rows l held in
    let kept : (k : Kind) → SoundAfter [] (of_kind k (entries_in l)) =
    λ k. sound_of_kind k [] (entries_in l) rows.sound in
    let accounts = sound_is_distinct (λ row. entry.Account row) (λ row. row.name) (λ x y. refl) []
    l.accounts none_are_distinct (subst (SoundAfter []) (account_part l) (kept kind.Account)) in
    let symbols = sound_is_distinct (λ row. entry.Symbol row) (λ row. row.name) (λ x y. refl) []
    l.symbols none_are_distinct (subst (SoundAfter []) (symbol_part l) (kept kind.Symbol)) in
    let off = sound_is_distinct (λ row. entry.Off row) (λ row. row.name) (λ x y. refl) []
    l.off none_are_distinct (subst (SoundAfter []) (off_part l) (kept kind.Off)) in
    record {
      in_range = rows.in_range;
      accounts = record {
        few = omega (arith, held_accounts l held, length-map l.accounts (λ row. row.name));
        distinct = accounts;
      };
      symbols = record {
        few = omega (arith, held_symbols l held, length-map l.symbols (λ row. row.name));
        distinct = symbols;
      };
      off = record {
        few = omega (arith, held_off l held, length-map l.off (λ row. row.name));
        distinct = off;
      };
    }

-- the rows of a kind among rows in range are in range
kind_in_range : (k : Kind) (l : Limits) (part : List Entry) → of_kind k (entries_in l) ≡ part
    → All IsInRange (entries_in l) → All IsInRange part
kind_in_range k l part is r =
    subst (λ (es : List Entry). All IsInRange es) is
    (All-filter (λ e. same_kind k (kind_of e)) IsInRange (entries_in l) r)

part_is_sound : (l : Limits) → AreFileLimits l → (k : Kind)
    → SoundAfter [] (of_kind k (entries_in l))
part_is_sound l f kind.Firm = subst (SoundAfter []) (sym (firm_part l)) (refl, tt)
part_is_sound l f kind.Account =
    subst (SoundAfter []) (sym (account_part l))
    (distinct_is_sound (λ row. entry.Account row) (λ row. row.name) (λ x y. refl) 100 (λ x. refl)
    [] l.accounts f.accounts.distinct
    (omega (arith, f.accounts.few, length-map l.accounts (λ row. row.name)))
    (kind_in_range kind.Account l (account_rows l.accounts) (account_part l) f.in_range))
part_is_sound l f kind.Symbol =
    subst (SoundAfter []) (sym (symbol_part l))
    (distinct_is_sound (λ row. entry.Symbol row) (λ row. row.name) (λ x y. refl) 400 (λ x. refl)
    [] l.symbols f.symbols.distinct
    (omega (arith, f.symbols.few, length-map l.symbols (λ row. row.name)))
    (kind_in_range kind.Symbol l (symbol_rows l.symbols) (symbol_part l) f.in_range))
part_is_sound l f kind.Trip = subst (SoundAfter []) (sym (trip_part l)) (trip_is_sound l.trip)
part_is_sound l f kind.Quota = subst (SoundAfter []) (sym (quota_part l)) (refl, tt)
part_is_sound l f kind.Repeat = subst (SoundAfter []) (sym (repeat_part l)) (refl, tt)
part_is_sound l f kind.Off =
    subst (SoundAfter []) (sym (off_part l))
    (distinct_is_sound (λ row. entry.Off row) (λ row. row.name) (λ x y. refl) 16 (λ x. refl)
    [] l.off f.off.distinct
    (omega (arith, f.off.few, length-map l.off (λ row. row.name)))
    (kind_in_range kind.Off l (off_rows l.off) (off_part l) f.in_range))

-- limits in range, few of each kind and named apart are held by the file that is written for them
pub file_limits_are_held : (l : Limits) → AreFileLimits l → IsHeldByFile l
file_limits_are_held l f =
    let rows : AreHeld l = record {
      sound = sound_by_kinds [] (entries_in l) (part_is_sound l f);
      in_range = f.in_range;
    } in
    (file_text l, written_is_file l rows)
