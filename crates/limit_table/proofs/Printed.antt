-- What is written for limits that a file can hold is a limit file with these limits.
use Rattle.std.proofs.Common.{◌≡◌, ℕ, List, [], ◌∷◌, ◌++◌, map, refl, sym, subst, arith}
use Rattle.std.proofs.Common.{length-append, Bool, true, false, Option, Some, None}
use Rattle.std.proofs.lemmas.Bool.{or_parts}
use Rattle.std.proofs.lemmas.List.Elements.{All-nil, All-cons, All-append}
use Rattle.std.specs.Prelude.{if◌then◌else◌}
use Rattle.std.specs.List.{All, flat_map, list_any}
use Rattle.csv.specs.Records.{field_at}
use Rattle.limit_table.specs.Files.{IsLimitFile, IsHeldByFile}
use Rattle.limit_table.specs.Printing.{entries_in, row_of, text_of, file_text, trip_rows}
use Rattle.limit_table.specs.Printing.{version_text, written_version}
use Rattle.limit_table.specs.Ranges.{IsInRange}
use Rattle.limit_table.specs.Tables.{IsFew}
use Rattle.limit_table.specs.Versions.{version_of, body_of}
use Rattle.limit_table.specs.declared.version.Version.{Version}
use Rattle.limit_table.specs.declared.version.Version.TheVariants as version
use Rattle.limit_table.specs.declared.kind.AccountRow.{AccountRow}
use Rattle.limit_table.specs.declared.kind.Entry.{Entry}
use Rattle.limit_table.specs.declared.kind.Entry.TheVariants as entry
use Rattle.limit_table.specs.declared.limits.Limits.{Limits}
use Rattle.limit_table.proofs.Few.{few_in_all}
use Rattle.limit_table.proofs.Sound.{sound_is_few}
use Rattle.limit_table.proofs.SoundAfter.{SoundAfter, read_rows, write_rows}
use Rattle.limit_table.proofs.Listed.{rows_set, listed_is_sound, account_rows, symbol_rows}
use Rattle.limit_table.proofs.Listed.{off_rows, last_rows}
use Rattle.limit_table.proofs.ListedSets.{limits_listed}
use Rattle.limit_table.proofs.ListedRanges.{listed_in_range}
use Rattle.limit_table.proofs.FileText.{rows_in, rows_are_read, rows_size, version_text_size}
use Rattle.limit_table.proofs.InRange.{FitsIn}

-- the rows for limits that a file can hold are sound and in range
pub record AreHeld (l : Limits) : Type 0 where
  pub sound : SoundAfter [] (entries_in l)
  pub in_range : All IsInRange (entries_in l)

pub held_rows : (l : Limits) → IsHeldByFile l → AreHeld l
held_rows l (bytes, file) =
    let es = file.entries in
    let rows = file.holds.rows in
    let read = read_rows (version_of rows) [] (body_of rows) file.holds.sets.sound in
    let set = rows_set es l file.set in
    let sound : SoundAfter [] es =
    subst (λ (x : List Entry). SoundAfter [] x) (sym file.holds.sets.set) read.sound in
    let in_range : All IsInRange es =
    subst (λ (x : List Entry). All IsInRange x) (sym file.holds.sets.set) read.in_range in
    record { sound = listed_is_sound es l set sound; in_range = listed_in_range es l set in_range }

-- rows that version 1 tells whole, whatever they set
fit_whole : {X : Type 0} (f : X → Entry) (xs : List X)
    → ((x : X) → FitsIn version.One (f x)) → All (FitsIn version.One) (map f xs)
fit_whole f [] fit = All-nil (FitsIn version.One)
fit_whole f (x ∷ xs) fit =
    All-cons (FitsIn version.One) (f x) (map f xs) (fit x) (fit_whole f xs fit)

-- accounts of which none is net
gross_fit : (rows : List AccountRow) → list_any (λ row. row.net) rows ≡ false
    → All (FitsIn version.One) (account_rows rows)
gross_fit [] none = All-nil (FitsIn version.One)
gross_fit (row ∷ rows) none =
    let parts = or_parts row.net (list_any (λ (own : AccountRow). own.net) rows) none in
    All-cons (FitsIn version.One) (entry.Account row) (account_rows rows) parts.0
    (gross_fit rows parts.1)

trip_fits : (trip : Option ℕ) → All (FitsIn version.One) (trip_rows trip)
trip_fits None = All-nil (FitsIn version.One)
trip_fits (Some count) =
    All-cons (FitsIn version.One) (entry.Trip count) [] tt (All-nil (FitsIn version.One))

-- where no account is net, version 1 tells all
first_fits : (l : Limits) → list_any (λ row. row.net) l.accounts ≡ false
    → All (FitsIn version.One) (entries_in l)
first_fits l none =
    let P : Entry → Type 0 = FitsIn version.One in
    let off = fit_whole (λ row. entry.Off row) l.off (λ row. tt) in
    let last : All P (last_rows l) =
    All-cons P (entry.Quota l.quota) (entry.Repeat l.repeat ∷ off_rows l.off) tt
    (All-cons P (entry.Repeat l.repeat) (off_rows l.off) tt off) in
    let behind = trip_rows l.trip ++ last_rows l in
    let after_symbols = All-append P (trip_rows l.trip) (last_rows l) (trip_fits l.trip) last in
    let after_firm = All-append P (symbol_rows l.symbols) behind
    (fit_whole (λ row. entry.Symbol row) l.symbols (λ row. tt)) after_symbols in
    All-cons P (entry.Firm l.firm) (account_rows l.accounts ++ (symbol_rows l.symbols ++ behind)) tt
    (All-append P (account_rows l.accounts) (symbol_rows l.symbols ++ behind)
    (gross_fit l.accounts none) after_firm)

-- the version in which limits are written tells all of them
all_fit : (l : Limits) → All (FitsIn (written_version l)) (entries_in l)
all_fit l = by (list_any (λ row. row.net) l.accounts) refl
  where
    by : (net : Bool) → list_any (λ row. row.net) l.accounts ≡ net
        → All (FitsIn (if net then version.Two else version.One)) (entries_in l)
    by true is = λ k d inside. tt
    by false is = first_fits l is

-- the rows that are written tell their version
tell_version : (v : Version) (firm : ℕ) (es : List Entry)
    → (version_of (rows_in v (entry.Firm firm ∷ es)) ≡ v)
    × (body_of (rows_in v (entry.Firm firm ∷ es)) ≡ map (row_of v) (entry.Firm firm ∷ es))
unfolding field_at
tell_version version.One firm es = (refl, refl)
tell_version version.Two firm es = (refl, refl)

-- what is written of such rows is a limit file with these limits
pub written_is_file : (l : Limits) → AreHeld l → IsLimitFile (file_text l) l
written_is_file l rows =
    let es = entries_in l in
    let v = written_version l in
    let written = write_rows v es rows.sound rows.in_range (all_fit l) in
    let few = few_in_all es
    (subst IsFew written.set (sound_is_few v (map (row_of v) es) written.sound)) in
    let rest : List Entry =
    account_rows l.accounts ++ (symbol_rows l.symbols ++ (trip_rows l.trip ++ last_rows l)) in
    let told = tell_version v l.firm rest in
    record {
      few = omega (
        arith,
        rows_size v es rows.in_range,
        few,
        version_text_size v,
        length-append (version_text v) (flat_map (text_of v) es),
      );
      entries = es;
      holds = record {
        rows = rows_in v es;
        all = rows_are_read l;
        sets = record {
          sound = rw (told.0, told.1) written.sound;
          set = rw (told.0, told.1) (sym written.set);
        };
      };
      set = limits_listed l;
    }

pub printed_is_file : (l : Limits) → IsHeldByFile l → IsLimitFile (file_text l) l
printed_is_file l held = written_is_file l (held_rows l held)
