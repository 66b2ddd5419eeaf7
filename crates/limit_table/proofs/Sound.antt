-- Sound rows, and one more.
use Rattle.std.proofs.Common.{◌≡◌, ℕ, zero, suc, ◌+◌, ◌-◌, ◌<◌, ◌≤◌, List, [], ◌∷◌, ◌++◌, length, take}
use Rattle.std.proofs.Common.{get_or, refl, sym, ap, subst, ◌∙◌, arith, Bool, true, false, Result, Ok}
use Rattle.std.proofs.Common.{Err, Option, Some, None, below_more, take_all, length-append}
use Rattle.std.proofs.lemmas.List.Elements.{filter_map-append}
use Rattle.std.proofs.lemmas.List.{take_more, take-append-le, get_or_append_left}
use Rattle.std.proofs.lemmas.List.{get_or-append_right}
use Rattle.std.specs.Prelude.{nat_le, IsOk, if◌then◌else◌}
use Rattle.std.specs.List.{list_any, cons_option}
use Rattle.std.specs.Result.{is_ok, result_ok}
use Rattle.limit_table.specs.Kinds.{kind_of, is_crossed, rows_most}
use Rattle.limit_table.specs.Entries.{entry_of, ◌>>=◌}
use Rattle.limit_table.specs.Faults.{same_key, count_alike, entry_fault, unless_fault, row_after}
use Rattle.limit_table.specs.Faults.{entries_of, row_at}
use Rattle.limit_table.specs.Tables.{IsFew}
use Rattle.limit_table.specs.Files.{AreSound}
use Rattle.limit_table.specs.declared.version.Version.{Version}
use Rattle.limit_table.specs.declared.kind.Entry.{Entry}
use Rattle.limit_table.specs.declared.kind.Cause.{Cause}
use Rattle.limit_table.specs.declared.kind.Cause.TheVariants as cause
use Rattle.limit_table.proofs.Few.{few_more, few_none}

-- a row
abbrev pub Row : Type 0
Row = List (List ℕ)

zero_is : (n : ℕ) → n - n ≡ 0
zero_is n = omega arith

suc_is : (n : ℕ) → suc n ≡ n + 1
suc_is n = omega arith

take_none : (rows : List Row) → take 0 rows ≡ []
take_none [] = refl
take_none (row ∷ rows) = refl

false_is_not_true : false ≡ true → ⊥
false_is_not_true h = cc h

unless_ok : (x e : Entry) (o : Option Cause) → unless_fault x o ≡ Ok e → (x ≡ e) × (o ≡ None)
unless_ok x e None h = (cc h, refl)
unless_ok x e (Some c) h = (cc h, cc h)

after_by : (r : Result Entry Cause) (es : List Entry) (e : Entry)
    → (r >>= λ x. unless_fault x (entry_fault es x)) ≡ Ok e
    → (r ≡ Ok e) × (entry_fault es e ≡ None)
after_by (Err c) es e h = (cc h, cc h)
after_by (Ok x) es e h =
    let both = unless_ok x e (entry_fault es x) h in
    (ap (λ z. Ok z) both.0, subst (λ z. entry_fault es z ≡ None) both.0 both.1)

fine_by : (a b c : Bool)
    → (if a then Some cause.Repeated else if b then Some cause.TooMany
    else if c then Some cause.Band else None) ≡ None
    → (a ≡ false) × (b ≡ false) × (c ≡ false)
fine_by true b c h = (cc h, cc h, cc h)
fine_by false true c h = (cc h, cc h, cc h)
fine_by false false true h = (cc h, cc h, cc h)
fine_by false false false h = (refl, refl, refl)

-- no row before has the same key, there is room for the row, and its prices are in order
pub record IsFine (es : List Entry) (e : Entry) : Type 0 where
  pub new : list_any (same_key e) es ≡ false
  pub room : nat_le (rows_most (kind_of e)) (count_alike e es) ≡ false
  pub ordered : is_crossed e ≡ false

pub no_fault : (es : List Entry) (e : Entry) → entry_fault es e ≡ None → IsFine es e
no_fault es e h =
    let parts = fine_by (list_any (same_key e) es)
    (nat_le (rows_most (kind_of e)) (count_alike e es)) (is_crossed e) h in
    record { new = parts.0; room = parts.1; ordered = parts.2 }

pub some_entry : (r : Result Entry Cause) → IsOk r → (e : Entry) × (r ≡ Ok e)
some_entry (Ok e) h = (e, refl)
some_entry (Err c) h = absurd (false_is_not_true h)

-- in a file of this version
module _ (v : Version) where
  -- a row that is sound after others is sound by itself, and nothing is wrong with it after them
  pub after_ok : (es : List Entry) (row : Row) (e : Entry) → row_after v es row ≡ Ok e
      → (entry_of v row ≡ Ok e) × (entry_fault es e ≡ None)
  after_ok es row e h = after_by (entry_of v row) es e h

  -- the rows set one thing more
  pub entries_more : (rows : List Row) (row : Row) (e : Entry) → entry_of v row ≡ Ok e
      → entries_of v (rows ++ row ∷ []) ≡ entries_of v rows ++ e ∷ []
  entries_more rows row e h =
      let set : Row → Option Entry = λ r. result_ok (entry_of v r) in
      filter_map-append set rows (row ∷ [])
      ∙ ap (λ (r : Result Entry Cause). entries_of v rows ++ cons_option (result_ok r) []) h

  -- the rows before stay as they were
  pub front_stays : (rows : List Row) (row : Row) (k : ℕ) → k < length rows
      → row_at v (rows ++ row ∷ []) k ≡ row_at v rows k
  front_stays rows row k h =
      let front : take k (rows ++ row ∷ []) ≡ take k rows =
      take-append-le k rows (row ∷ []) (omega arith) in
      let here : get_or (rows ++ row ∷ []) k [] ≡ get_or rows k [] =
      get_or_append_left rows (row ∷ []) [] k h in
      ap (λ (xs : List Row). row_after v (entries_of v xs) (get_or (rows ++ row ∷ []) k [])) front
      ∙ ap (λ (r : Row). row_after v (entries_of v (take k rows)) r) here

  -- the last row, after those before it
  pub last_is : (rows : List Row) (row : Row)
      → row_at v (rows ++ row ∷ []) (length rows) ≡ row_after v (entries_of v rows) row
  last_is rows row =
      let front : take (length rows) (rows ++ row ∷ []) ≡ rows =
      take-append-le (length rows) rows (row ∷ []) (omega arith)
      ∙ take_all (length rows) rows (omega arith) in
      let here : get_or (rows ++ row ∷ []) (length rows) [] ≡ row =
      get_or-append_right rows (row ∷ []) (length rows) (length rows) [] refl (omega arith)
      ∙ ap (λ n. get_or (row ∷ []) n []) (zero_is (length rows)) in
      ap (λ (xs : List Row). row_after v (entries_of v xs) (get_or (rows ++ row ∷ []) (length rows) []))
      front
      ∙ ap (λ (r : Row). row_after v (entries_of v rows) r) here

  -- one row more
  pub sound_more : (rows : List Row) (row : Row) (e : Entry) → AreSound v rows
      → row_after v (entries_of v rows) row ≡ Ok e → AreSound v (rows ++ row ∷ [])
  sound_more rows row e sound h =
      let more = rows ++ row ∷ [] in
      let good : ℕ → Type 0 = λ k. IsOk (row_at v more k) in
      let all = below_more good (length rows)
      (λ k less. ap is_ok (front_stays rows row k less) ∙ sound k less)
      (ap is_ok (last_is rows row) ∙ ap is_ok h) in
      let size : length more ≡ length rows + 1 = length-append rows (row ∷ []) in
      λ k less. all k (subst (λ n. k < n) size less)

  -- sound rows are few of each kind
  few_below : (rows : List Row) (n : ℕ) → n ≤ length rows → AreSound v rows
      → IsFew (entries_of v (take n rows))
  few_below rows zero le sound =
      subst (λ (xs : List Row). IsFew (entries_of v xs)) (sym (take_none rows)) few_none
  few_below rows (suc n) le sound =
      let here = get_or rows n [] in
      let good = some_entry (row_at v rows n) (sound n (omega arith)) in
      let parts = after_ok (entries_of v (take n rows)) here good.0 good.1 in
      let few = few_below rows n (omega arith) sound in
      let more = few_more (entries_of v (take n rows)) good.0 few
      (no_fault (entries_of v (take n rows)) good.0 parts.1).room in
      let split : take (suc n) rows ≡ take n rows ++ here ∷ [] =
      ap (λ m. take m rows) (suc_is n) ∙ take_more rows n [] (omega arith) in
      let set = ap (entries_of v) split ∙ entries_more (take n rows) here good.0 parts.0 in
      subst IsFew (sym set) more

  pub sound_is_few : (rows : List Row) → AreSound v rows → IsFew (entries_of v rows)
  sound_is_few rows sound =
      subst (λ (xs : List Row). IsFew (entries_of v xs)) (take_all (length rows) rows (omega arith))
      (few_below rows (length rows) (omega arith) sound)
