-- The rows that a reader has read so far, and what they set.
use Rattle.std.proofs.Common.{◌≡◌, ℕ, ◌+◌, ◌<◌, ◌≤◌, List, [], ◌∷◌, ◌++◌, length, refl, sym, ap, subst, ◌∙◌}
use Rattle.std.proofs.Common.{arith, Ok, Err, Option, Some, Bor, Bool, true, false, length-append}
use Rattle.std.proofs.Common.{inl, inr}
use Rattle.std.proofs.lemmas.Bool.{cases_Bool}
use Rattle.csv.specs.Reading.{Reached, ReadRecord, default_config, source_of, strip_bom}
use Rattle.csv.specs.declared.reader.Reader.{Reader}
use Rattle.csv.specs.declared.parser.State.TheVariants as state
use Rattle.csv.proofs.ReadFacts.{rows-end, rows-more}
use Rattle.limit_table.specs.Faults.{entries_of, row_after}
use Rattle.limit_table.specs.Files.{AreSound, HoldsEntries, SetEntries, IsLastFault, IsRowFault}
use Rattle.limit_table.specs.Files.{fault_at}
use Rattle.limit_table.specs.RowsSoFar.{StandsFor, rows_most}
use Rattle.limit_table.specs.Versions.{version_of, body_of, is_version_row}
use Rattle.limit_table.specs.declared.fault.LimitFault.{LimitFault}
use Rattle.limit_table.specs.declared.so_far.SoFar.{SoFar}
use Rattle.limit_table.specs.declared.version.Version.{Version}
use Rattle.limit_table.specs.declared.kind.Entry.{Entry}
use Rattle.limit_table.specs.declared.kind.Cause.{Cause}
use Rattle.limit_table.proofs.Few.{few_in_all}
use Rattle.limit_table.proofs.Sound.{Row, after_ok, entries_more, sound_more, sound_is_few}

pub no_place : {A : Type 0} (k : ℕ) → k < 0 → A
no_place k h = absurd (omega arith)

-- a row that isn't the first one that tells the version stands behind the others
pub record StandsBehind (rows : List Row) (row : Row) : Type 0 where
  pub version : version_of (rows ++ row ∷ []) ≡ version_of rows
  pub body : body_of (rows ++ row ∷ []) ≡ body_of rows ++ row ∷ []

first_behind : (row : Row) (tells : Bool) → is_version_row row ≡ tells → tells ≡ false
    → StandsBehind [] row
first_behind row true is none = cc none
first_behind row false is none = record { version = rw is refl; body = rw is refl }

later_behind : (first : Row) (rows : List Row) (row : Row) (tells : Bool)
    → is_version_row first ≡ tells → StandsBehind (first ∷ rows) row
later_behind first rows row true is = record { version = refl; body = rw is refl }
later_behind first rows row false is = record { version = refl; body = rw is refl }

pub behind_none : (row : Row) → is_version_row row ≡ false → StandsBehind [] row
behind_none row none = first_behind row (is_version_row row) refl none

pub behind_some : (rows : List Row) (row : Row) → 0 < length rows → StandsBehind rows row
behind_some [] row some = no_place 0 some
behind_some (first ∷ rows) row some = later_behind first rows row (is_version_row first) refl

-- one row more is sound
pub one_more_set : (rows : List Row) (row : Row) (entries : List Entry) (e : Entry)
    → StandsBehind rows row → SetEntries rows entries
    → row_after (version_of rows) entries row ≡ Ok e
    → SetEntries (rows ++ row ∷ []) (entries ++ e ∷ [])
one_more_set rows row entries e behind sets h =
    let v = version_of rows in
    let after : row_after v (entries_of v (body_of rows)) row ≡ Ok e =
    subst (λ (es : List Entry). row_after v es row ≡ Ok e) sets.set h in
    let parts = after_ok v (entries_of v (body_of rows)) row e after in
    let more : AreSound v (body_of rows ++ row ∷ []) =
    sound_more v (body_of rows) row e sets.sound after in
    let set : entries ++ e ∷ [] ≡ entries_of v (body_of rows ++ row ∷ []) =
    ap (λ (es : List Entry). es ++ e ∷ []) sets.set
    ∙ sym (entries_more v (body_of rows) row e parts.0) in
    record {
      sound = rw (behind.version, behind.body) more;
      set = rw (behind.version, behind.body) set;
    }

-- one row more has a fault
pub last_fault : (rows : List Row) (row : Row) (entries : List Entry) (c : Cause)
    → StandsBehind rows row → SetEntries rows entries
    → row_after (version_of rows) entries row ≡ Err c
    → IsLastFault (rows ++ row ∷ []) (fault_at (length rows + 1) c)
last_fault rows row entries c behind sets h =
    let v = version_of rows in
    let after : row_after v (entries_of v (body_of rows)) row ≡ Err c =
    subst (λ (es : List Entry). row_after v es row ≡ Err c) sets.set h in
    record {
      earlier = body_of rows;
      row = row;
      last = behind.body;
      sound = rw behind.version sets.sound;
      wrong = c;
      cause = rw behind.version after;
      fault = ap (λ n. fault_at n c) (sym (length-append rows (row ∷ [])));
    }

pub behind_first : (rows : List Row) (row : Row) → length rows ≡ 0
    → is_version_row row ≡ false → StandsBehind rows row
behind_first [] row none other = behind_none row other
behind_first (first ∷ rows) row none other = absurd (omega (arith, none))

-- what stands for the rows so far, and the next row
module _ (before : SoFar) (rows : List Row) (row : Row) (stands : StandsFor before rows)
    (behind : StandsBehind rows row) where
  pub next_stands : (next : SoFar) (e : Entry)
      → row_after before.version before.entries.items row ≡ Ok e
      → next.count ≡ before.count + 1 → next.version ≡ before.version
      → next.entries.items ≡ before.entries.items ++ e ∷ [] → StandsFor next (rows ++ row ∷ [])
  next_stands next e h count same items = record {
    count = omega (arith, count, stands.count, length-append rows (row ∷ []));
    version = same ∙ stands.version ∙ sym behind.version;
    each = omega (
      arith,
      ap length items,
      ap length behind.body,
      stands.each,
      length-append before.entries.items (e ∷ []),
      length-append (body_of rows) (row ∷ []),
    );
    sets = rw items (one_more_set rows row before.entries.items e behind stands.sets
        (subst (λ (v : Version). row_after v before.entries.items row ≡ Ok e) stands.version h));
  }

  pub next_fault : (c : Cause) (why : LimitFault)
      → row_after before.version before.entries.items row ≡ Err c
      → why ≡ fault_at (before.count + 1) c → IsLastFault (rows ++ row ∷ []) why
  next_fault c why h is =
      let at = is ∙ ap (λ n. fault_at (n + 1) c) stands.count in
      rw at (last_fault rows row before.entries.items c behind stands.sets
      (subst (λ (v : Version). row_after v before.entries.items row ≡ Err c) stands.version h))

-- a reader of bytes
abbrev pub Bytes : Type 0
Bytes = Reader (Bor (List ℕ))

-- what a reader of bytes reads from
abbrev pub source : Bytes → Option (List ℕ)
source reader = source_of (λ (s : Bor (List ℕ)). Some s.now) reader

-- so far the text is these rows, for which this stands
pub record IsSoFar (text : List ℕ) (reader : Bytes) (so_far : SoFar) : Type 0 where
  pub rows : List Row
  pub left : List ℕ
  pub config : reader.config ≡ default_config
  pub source : source reader ≡ Some left
  pub reached : Reached default_config state.StartRecord (strip_bom text) rows reader.state left
  pub stands : StandsFor so_far rows

-- before the first row
pub before_first_row : (text : List ℕ) (reader : Bytes) (so_far : SoFar)
    → reader.config ≡ default_config → source reader ≡ Some (strip_bom text)
    → reader.state ≡ state.StartRecord → StandsFor so_far [] → IsSoFar text reader so_far
unfolding Reached
before_first_row text reader so_far config known first stands = record {
  rows = [];
  left = strip_bom text;
  config = config;
  source = known;
  reached = (sym first, refl);
  stands = stands;
}

-- the rows that set something are all but one at most
rows_of_body : (rows : List Row) → length rows ≤ length (body_of rows) + 1
rows_of_body [] = omega arith
rows_of_body (first ∷ rows) = elim (cases_Bool (is_version_row first)) [
  | inl tells ↦ rw tells (omega arith)
  | inr other ↦ rw other (omega arith)
]

-- so many rows are the most
pub few_so_far : (text : List ℕ) (reader : Bytes) (so_far : SoFar)
    → IsSoFar text reader so_far → so_far.count ≤ rows_most
few_so_far text reader so_far s =
    let v = version_of s.rows in
    let few : length so_far.entries.items ≤ 520 =
    subst (λ (es : List Entry). length es ≤ 520) (sym s.stands.sets.set)
    (few_in_all (entries_of v (body_of s.rows))
    (sound_is_few v (body_of s.rows) s.stands.sets.sound)) in
    omega (arith, few, s.stands.count, s.stands.each, rows_of_body s.rows)

-- the rows are all
pub all_read : (text : List ℕ) (a b : Bytes) (so_far : SoFar) (f : List (List ℕ))
    → IsSoFar text a so_far → ReadRecord (λ (s : Bor (List ℕ)). Some s.now) a b false f
    → HoldsEntries text so_far.entries.items
all_read text a b so_far f s read = record {
  rows = s.rows;
  all = (
    a.state,
    s.left,
    s.reached,
    rows-end (λ (s : Bor (List ℕ)). Some s.now) a b f default_config s.left s.config s.source read,
  );
  sets = s.stands.sets;
}

-- the next row is sound
pub row_read : (text : List ℕ) (a b : Bytes) (so_far next : SoFar) (f : List (List ℕ))
    → (s : IsSoFar text a so_far) → ReadRecord (λ (s : Bor (List ℕ)). Some s.now) a b true f
    → b.config ≡ a.config → StandsFor next (s.rows ++ f ∷ []) → IsSoFar text b next
row_read text a b so_far next f s read same stands =
    let more = rows-more (λ (s : Bor (List ℕ)). Some s.now) a b f default_config state.StartRecord
    (strip_bom text) s.left s.rows s.config s.source s.reached read in
    record {
      rows = s.rows ++ f ∷ [];
      left = more.0;
      config = same ∙ s.config;
      source = more.1;
      reached = more.2;
      stands = stands;
    }

-- the next row has a fault
pub fault_read : (text : List ℕ) (a b : Bytes) (so_far : SoFar) (f : List (List ℕ))
    (why : LimitFault) (s : IsSoFar text a so_far)
    → ReadRecord (λ (s : Bor (List ℕ)). Some s.now) a b true f
    → IsLastFault (s.rows ++ f ∷ []) why → IsRowFault text why
fault_read text a b so_far f why s read last =
    let more = rows-more (λ (s : Bor (List ℕ)). Some s.now) a b f default_config state.StartRecord
    (strip_bom text) s.left s.rows s.config s.source s.reached read in
    record {
      rows = s.rows ++ f ∷ [];
      begins = (b.state, more.0, more.2);
      last = last;
    }
