-- The limit file of a load, read.
use Rattle.std.proofs.Common.{◌≡◌, ℕ, ◌<◌, zero, suc, List, [], ◌∷◌, codes, refl, arith, below_more}
use Rattle.std.proofs.Common.{Bool, true, false, ◌&&◌}
use Rattle.std.specs.Prelude.{is_ok}
use Rattle.csv.specs.Machine.{next_record}
use Rattle.csv.specs.Reading.{Reached, strip_bom}
use Rattle.csv.specs.Records.{field_at}
use Rattle.csv.specs.declared.parser.State.TheVariants as state
use Rattle.limit_table.specs.Faults.{row_at, entries_of}
use Rattle.limit_table.specs.Files.{AreRows, AreSound, IsLimitFile}
use Rattle.limit_table.specs.Versions.{version_of, body_of}
use Rattle.make_load.specs.Loads.{limit_text}
use Rattle.make_load.specs.LoadLimits.{load_limits}

abbrev account_row : List ℕ → List (List ℕ)
account_row name = codes "account" ∷ name ∷ codes "800000" ∷ [] ∷ [] ∷ [] ∷ []

abbrev symbol_row : List ℕ → List (List ℕ)
symbol_row name =
    codes "symbol" ∷ name ∷ codes "500000" ∷ codes "1" ∷ codes "100" ∷ codes "1000" ∷ []

abbrev rows : List (List (List ℕ))
rows =
    (codes "firm" ∷ [] ∷ codes "2000000" ∷ [] ∷ [] ∷ [] ∷ [])
    ∷ account_row (codes "A0") ∷ account_row (codes "A1") ∷ account_row (codes "A2")
    ∷ account_row (codes "A3")
    ∷ symbol_row (codes "S0") ∷ symbol_row (codes "S1") ∷ symbol_row (codes "S2")
    ∷ symbol_row (codes "S3") ∷ symbol_row (codes "S4") ∷ symbol_row (codes "S5")
    ∷ symbol_row (codes "S6") ∷ symbol_row (codes "S7")
    ∷ (codes "quota" ∷ [] ∷ codes "200000" ∷ [] ∷ [] ∷ [] ∷ []) ∷ []

-- the text is these rows
are_rows : AreRows limit_text rows
unfolding Reached next_record strip_bom
are_rows = (state.StartRecord, [], (_, refl, refl, (_, refl, refl, (_, refl, refl, (_, refl, refl, (_, refl, refl, (_, refl, refl, (_, refl, refl, (_, refl, refl, (_, refl, refl, (_, refl, refl, (_, refl, refl, (_, refl, refl, (_, refl, refl, (_, refl, refl, (refl, refl))))))))))))))), refl)

-- each of the first so many rows is sound
abbrev all_sound : ℕ → Bool
all_sound zero = true
all_sound (suc n) = is_ok (row_at (version_of rows) rows n) && all_sound n

split_and : (a b : Bool) → (a && b) ≡ true → (a ≡ true) × (b ≡ true)
split_and true true h = (refl, refl)
split_and true false h = absurd cc
split_and false b h = absurd cc

is_sound : (n : ℕ) → all_sound n ≡ true → (place : ℕ) → place < n
    → is_ok (row_at (version_of rows) rows place) ≡ true
is_sound zero all place below = absurd (omega arith)
is_sound (suc n) all place below =
    let both = split_and (is_ok (row_at (version_of rows) rows n)) (all_sound n) all in
    below_more (λ k. is_ok (row_at (version_of rows) rows k) ≡ true) n (is_sound n both.1) both.0 place
    (omega (arith, below))

are_sound : AreSound (version_of rows) (body_of rows)
unfolding field_at
are_sound = λ place below. is_sound 14 refl place below

-- the limit file of a load sets the load's limits
pub limits_are_set : IsLimitFile limit_text load_limits
unfolding field_at
limits_are_set = record {
  few = omega arith;
  entries = entries_of (version_of rows) (body_of rows);
  holds = record {
    rows = rows;
    all = are_rows;
    sets = record { sound = are_sound; set = refl };
  };
  set = refl;
}
