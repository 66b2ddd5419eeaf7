-- The rows that a reader has read so far, and what they set.
use Rattle.std.proofs.Common.{◌≡◌, ℕ, ◌+◌, ◌≤◌, List, [], ◌∷◌, ◌++◌, length, refl, sym, subst, ◌∙◌}
use Rattle.std.proofs.Common.{arith, Ok, Err, Option, Some, Bor, true, false, length-append}
use Rattle.csv.specs.Reading.{Reached, ReadRecord, default_config, source_of, strip_bom}
use Rattle.csv.specs.declared.reader.Reader.{Reader}
use Rattle.csv.specs.declared.parser.State.TheVariants as state
use Rattle.csv.proofs.ReadFacts.{rows-end, rows-more}
use Rattle.limit_table.specs.Trees.{LimitsValue}
use Rattle.limit_table.specs.declared.fault.LimitFault.{LimitFault}
use Rattle.limit_desk.specs.declared.officer.OfficerRow.{OfficerRow}
use Rattle.limit_desk.specs.Officers.{row_at, rows_from, rows_most, IsRead, IsRowFault}
use Rattle.limit_desk.proofs.OfficerRows.{Row, at_few, one_more, one_wrong, as_many}

-- a reader of bytes
abbrev pub Bytes : Type 0
Bytes = Reader (Bor (List ℕ))

-- what a reader of bytes reads from
abbrev pub source : Bytes → Option (List ℕ)
source reader = source_of (λ (s : Bor (List ℕ)). Some s.now) reader

-- so far the text is rows that set this
pub record IsSoFar (limits : LimitsValue) (text : List ℕ) (reader : Bytes) (set : List OfficerRow)
    : Type 0 where
  pub rows : List Row
  pub left : List ℕ
  pub config : reader.config ≡ default_config
  pub source : source reader ≡ Some left
  pub reached : Reached default_config state.StartRecord (strip_bom text) rows reader.state left
  pub sets : rows_from limits 1 rows ≡ Ok set
  pub few : length set ≤ rows_most

-- before the first row
pub before_first_row : (limits : LimitsValue) (text : List ℕ) (reader : Bytes)
    → reader.config ≡ default_config → source reader ≡ Some (strip_bom text)
    → reader.state ≡ state.StartRecord → IsSoFar limits text reader []
unfolding Reached
before_first_row limits text reader config known first = record {
  rows = [];
  left = strip_bom text;
  config = config;
  source = known;
  reached = (sym first, refl);
  sets = refl;
  few = omega arith;
}

module _ (limits : LimitsValue) (text : List ℕ) (a b : Bytes) (set : List OfficerRow)
    (f : Row) (s : IsSoFar limits text a set) where
  -- the number of the next row
  next_is : 1 + length s.rows ≡ length set + 1
  next_is = omega (arith, as_many limits 1 s.rows set s.sets)

  -- the rows are all
  pub all_read : ReadRecord (λ (s : Bor (List ℕ)). Some s.now) a b false f → IsRead limits text set
  all_read read = record {
    rows = s.rows;
    all = (
      a.state,
      s.left,
      s.reached,
      rows-end (λ (s : Bor (List ℕ)). Some s.now) a b f default_config s.left s.config s.source read,
    );
    sets = s.sets;
  }

  -- the next row is sound
  pub row_read : (row : OfficerRow) → ReadRecord (λ (s : Bor (List ℕ)). Some s.now) a b true f
      → b.config ≡ a.config → row_at limits (length set + 1) f ≡ Ok row
      → IsSoFar limits text b (set ++ row ∷ [])
  row_read row read same at =
      let more = rows-more (λ (s : Bor (List ℕ)). Some s.now) a b f default_config state.StartRecord
      (strip_bom text) s.left s.rows s.config s.source s.reached read in
      record {
        rows = s.rows ++ f ∷ [];
        left = more.0;
        config = same ∙ s.config;
        source = more.1;
        reached = more.2;
        sets = one_more limits 1 s.rows f set row s.sets
            (subst (λ k. row_at limits k f ≡ Ok row) (sym next_is) at);
        few = omega (arith, at_few limits (length set + 1) f row at, length-append set (row ∷ []));
      }

  -- the next row has a fault
  pub fault_read : (why : LimitFault) → ReadRecord (λ (s : Bor (List ℕ)). Some s.now) a b true f
      → row_at limits (length set + 1) f ≡ Err why → IsRowFault limits text why
  fault_read why read at =
      let more = rows-more (λ (s : Bor (List ℕ)). Some s.now) a b f default_config state.StartRecord
      (strip_bom text) s.left s.rows s.config s.source s.reached read in
      record {
        rows = s.rows ++ f ∷ [];
        begins = (b.state, more.0, more.2);
        first = one_wrong limits 1 s.rows f set why s.sets
            (subst (λ k. row_at limits k f ≡ Err why) (sym next_is) at);
      }
