-- A text has one list of rows, so it has one answer.
use Rattle.std.proofs.Common.{◌≡◌, ℕ, ◌+◌, ◌-◌, ◌<◌, ◌≤◌, List, [], ◌∷◌, ◌++◌, length, take, get_or, refl, sym}
use Rattle.std.proofs.Common.{ap, subst, ◌∙◌, arith, Bool, true, false, Err, Option, Some, None}
use Rattle.std.proofs.Common.{Result}
use Rattle.std.proofs.Common.{◌⊎◌, inl, inr, take_all, length-append, append_assoc}
use Rattle.std.proofs.lemmas.List.{take-append-le, get_or-append_right, append-nil}
use Rattle.std.specs.Prelude.{IsOk, unwrap_or, option_map}
use Rattle.std.specs.Result.{is_ok}
use Rattle.csv.specs.Machine.{Read, next_record}
use Rattle.csv.specs.Reading.{Reached, default_config, strip_bom}
use Rattle.csv.specs.declared.parser.State.{State}
use Rattle.csv.specs.declared.parser.State.TheVariants as state
use Rattle.limit_table.specs.Faults.{entries_of, row_at, row_after}
use Rattle.limit_table.specs.Tables.{limits_of, firm_of, limits_with}
use Rattle.limit_table.specs.Files.{HoldsEntries, IsLimitFile, IsRowFault, IsFirstFault}
use Rattle.limit_table.specs.Files.{bytes_most, fault_at, AreRows, IsLastFault}
use Rattle.limit_table.specs.Versions.{version_of, body_of, is_version_row}
use Rattle.limit_table.specs.declared.version.Version.{Version}
use Rattle.limit_table.specs.declared.kind.Entry.{Entry}
use Rattle.limit_table.specs.declared.kind.Cause.{Cause}
use Rattle.limit_table.specs.declared.fault.LimitFault.{LimitFault}
use Rattle.limit_table.specs.declared.limits.Limits.{Limits}
use Rattle.limit_table.proofs.Sound.{front_stays, last_is}

-- a row
abbrev Row : Type 0
Row = List (List ℕ)

none_is_not_some : {A : Type 0} (x : A) → None ≡ Some x → ⊥
none_is_not_some x h = cc h

false_is_not_true : false ≡ true → ⊥
false_is_not_true h = cc h

cons_same : (a b : Row) (xs ys : List Row) → a ≡ b → xs ≡ ys → a ∷ xs ≡ b ∷ ys
cons_same a b xs ys h g = ap (λ (z : Row). z ∷ xs) h ∙ ap (λ (zs : List Row). b ∷ zs) g

-- one list goes on where the other ends
abbrev Continues : List Row → List Row → Type 0
Continues rows all = (rest : List Row) × (all ≡ rows ++ rest)

-- of two lists of rows that a text begins with, one continues the other
compare : (s : State) (xs : List ℕ) (rows all : List Row) (s2 s3 : State) (ys zs : List ℕ)
    → Reached default_config s xs rows s2 ys → Reached default_config s xs all s3 zs
    → Continues rows all ⊎ Continues all rows
unfolding Reached
compare s xs [] all s2 s3 ys zs h g = inl (all, refl)
compare s xs (r ∷ rs) [] s2 s3 ys zs h g = inr (r ∷ rs, refl)
compare s xs (r ∷ rs) (a ∷ others) s2 s3 ys zs h g =
    let same : h.0 ≡ g.0 = ap (λ (o : Option Read). unwrap_or o h.0) (sym h.1 ∙ g.1) in
    let first : a ≡ r = g.2 ∙ ap (λ (q : Read). q.0) (sym same) ∙ sym h.2 in
    let moved : Reached default_config h.0.1 h.0.2 others s3 zs =
    subst (λ (q : Read). Reached default_config q.1 q.2 others s3 zs) (sym same) g.3 in
    elim (compare h.0.1 h.0.2 rs others s2 s3 ys zs h.3 moved) [
      | inl more ↦ inl (more.0, cons_same a r others (rs ++ more.0) first more.1)
      | inr less ↦ inr (less.0, cons_same r a rs (others ++ less.0) (sym first) less.1)
    ]

-- the rows that a text begins with are the first of all its rows
front : (s : State) (xs : List ℕ) (rows all : List Row) (s2 s3 : State) (ys zs : List ℕ)
    → Reached default_config s xs rows s2 ys → Reached default_config s xs all s3 zs
    → next_record default_config s3 [] [] zs ≡ None → Continues rows all
unfolding Reached
front s xs [] all s2 s3 ys zs h g none = (all, refl)
front s xs (r ∷ rs) [] s2 s3 ys zs h g none =
    let there : next_record default_config s [] [] zs ≡ None =
    subst (λ t. next_record default_config t [] [] zs ≡ None) (sym g.0) none in
    let here : next_record default_config s [] [] xs ≡ None =
    subst (λ (z : List ℕ). next_record default_config s [] [] z ≡ None) (sym g.1) there in
    absurd (none_is_not_some h.0 (sym here ∙ h.1))
front s xs (r ∷ rs) (a ∷ others) s2 s3 ys zs h g none =
    let same : h.0 ≡ g.0 = ap (λ (o : Option Read). unwrap_or o h.0) (sym h.1 ∙ g.1) in
    let first : a ≡ r = g.2 ∙ ap (λ (q : Read). q.0) (sym same) ∙ sym h.2 in
    let moved : Reached default_config h.0.1 h.0.2 others s3 zs =
    subst (λ (q : Read). Reached default_config q.1 q.2 others s3 zs) (sym same) g.3 in
    let more = front h.0.1 h.0.2 rs others s2 s3 ys zs h.3 moved none in
    (more.0, cons_same a r others (rs ++ more.0) first more.1)

no_rest : (xs rest : List Row) → length (xs ++ rest) ≤ length xs → xs ++ rest ≡ xs
no_rest xs [] h = append-nil xs
no_rest xs (r ∷ rest) h = absurd (omega (arith, length-append xs (r ∷ rest)))

-- a text has one list of rows
one_list : (bytes : List ℕ) (a b : List Row) → AreRows bytes a → AreRows bytes b → a ≡ b
one_list bytes a b h g =
    let there = front state.StartRecord (strip_bom bytes) a b h.0 g.0 h.1 g.1 h.2 g.2 g.3 in
    let back = front state.StartRecord (strip_bom bytes) b a g.0 h.0 g.1 h.1 g.2 h.2 h.3 in
    let longer : length b ≤ length a =
    omega (arith, ap length back.1, length-append b back.0) in
    let short : length (a ++ there.0) ≤ length a =
    subst (λ (xs : List Row). length xs ≤ length a) there.1 longer in
    sym (there.1 ∙ no_rest a there.0 short)

-- so its rows set one list of things
one_set : (bytes : List ℕ) (a b : List Entry) → HoldsEntries bytes a → HoldsEntries bytes b → a ≡ b
one_set bytes a b h g =
    h.sets.set
    ∙ ap (λ (rows : List Row). entries_of (version_of rows) (body_of rows))
    (one_list bytes h.rows g.rows h.all g.all)
    ∙ sym g.sets.set

minus_self : (n : ℕ) → n - n ≡ 0
minus_self n = omega arith

not_ok : (r : Result Entry Cause) (c : Cause) → r ≡ Err c → IsOk r → ⊥
not_ok r c h good = false_is_not_true (sym (ap is_ok h) ∙ good)

longer_than : (rows earlier : List Row) (row : Row) → Continues (earlier ++ row ∷ []) rows
    → length earlier < length rows
longer_than rows earlier row more =
    omega (
      arith,
      ap length more.1,
      length-append (earlier ++ row ∷ []) more.0,
      length-append earlier (row ∷ []),
    )

-- in a file of this version
module _ (v : Version) where
  -- the row in the middle, after the rows before it
  pub here_is : (earlier : List Row) (row : Row) (rest : List Row)
      → row_at v (earlier ++ row ∷ rest) (length earlier) ≡ row_after v (entries_of v earlier) row
  here_is earlier row rest =
      let before : take (length earlier) (earlier ++ row ∷ rest) ≡ earlier =
      take-append-le (length earlier) earlier (row ∷ rest) (omega arith)
      ∙ take_all (length earlier) earlier (omega arith) in
      let here : get_or (earlier ++ row ∷ rest) (length earlier) [] ≡ row =
      get_or-append_right earlier (row ∷ rest) (length earlier) (length earlier) [] refl (omega arith)
      ∙ ap (λ n. get_or (row ∷ rest) n []) (minus_self (length earlier)) in
      ap (λ (xs : List Row).
      row_after v (entries_of v xs) (get_or (earlier ++ row ∷ rest) (length earlier) [])) before
      ∙ ap (λ (r : Row). row_after v (entries_of v earlier) r) here

  -- where a fault stands, the row at that place has it
  fault_here : (rows earlier : List Row) (row : Row) (c : Cause) → Continues (earlier ++ row ∷ []) rows
      → row_after v (entries_of v earlier) row ≡ Err c → row_at v rows (length earlier) ≡ Err c
  fault_here rows earlier row c more h =
      let split = more.1 ∙ append_assoc earlier (row ∷ []) more.0 in
      ap (λ (xs : List Row). row_at v xs (length earlier)) split
      ∙ here_is earlier row more.0 ∙ h

-- more rows keep the version, and stand behind those that set something
record GrowsBy (rows all rest : List Row) : Type 0 where
  pub version : version_of all ≡ version_of rows
  pub body : body_of all ≡ body_of rows ++ rest

first_grows : (row : Row) (rows rest : List Row) (tells : Bool) → is_version_row row ≡ tells
    → GrowsBy (row ∷ rows) (row ∷ (rows ++ rest)) rest
first_grows row rows rest true is = record { version = refl; body = rw is refl }
first_grows row rows rest false is = record { version = refl; body = rw is refl }

grows : (rows rest : List Row) (row : Row) (earlier : List Row)
    → body_of rows ≡ earlier ++ row ∷ [] → GrowsBy rows (rows ++ rest) rest
grows [] rest row earlier last =
    absurd (omega (arith, ap length last, length-append earlier (row ∷ [])))
grows (first ∷ rows) rest row earlier last =
    first_grows first rows rest (is_version_row first) refl

-- a row that has a fault among all rows
record StandsAmong (all : List Row) (why : LimitFault) (rows : List Row)
    (fault : IsLastFault rows why) : Type 0 where
  pub rest : List Row
  pub is : all ≡ rows ++ rest
  pub same : version_of all ≡ version_of rows
  pub more : body_of all ≡ (fault.earlier ++ fault.row ∷ []) ++ rest
  pub wrong : row_at (version_of all) (body_of all) (length fault.earlier) ≡ Err fault.wrong
  pub before : length fault.earlier < length (body_of all)

stands_among : (all rows : List Row) (why : LimitFault) (fault : IsLastFault rows why)
    → Continues rows all → StandsAmong all why rows fault
stands_among all rows why fault more =
    let rest = more.0 in
    let grown = grows rows rest fault.row fault.earlier fault.last in
    let same : version_of all ≡ version_of rows = ap version_of more.1 ∙ grown.version in
    let body : body_of all ≡ (fault.earlier ++ fault.row ∷ []) ++ rest =
    ap body_of more.1 ∙ grown.body ∙ ap (λ (xs : List Row). xs ++ rest) fault.last in
    let cause : row_after (version_of all) (entries_of (version_of all) fault.earlier) fault.row
    ≡ Err fault.wrong =
    ap (λ (v : Version). row_after v (entries_of v fault.earlier) fault.row) same ∙ fault.cause in
    record {
      rest = rest;
      is = more.1;
      same = same;
      more = body;
      wrong = fault_here (version_of all) (body_of all) fault.earlier fault.row fault.wrong
          (rest, body) cause;
      before = longer_than (body_of all) fault.earlier fault.row (rest, body);
    }

-- sound rows have no fault
sound_has_none : (bytes : List ℕ) (entries : List Entry) (why : LimitFault)
    → HoldsEntries bytes entries → IsRowFault bytes why → ⊥
sound_has_none bytes entries why h f =
    let more = front state.StartRecord (strip_bom bytes) f.rows h.rows
    f.begins.0 h.all.0 f.begins.1 h.all.1 f.begins.2 h.all.2 h.all.3 in
    let stands = stands_among h.rows f.rows why f.last more in
    not_ok (row_at (version_of h.rows) (body_of h.rows) (length f.last.earlier)) f.last.wrong
    stands.wrong (h.sets.sound (length f.last.earlier) stands.before)

err_same : (a b : Cause) (r : Result Entry Cause) → r ≡ Err a → r ≡ Err b → a ≡ b
err_same a b r h g = cc (sym h ∙ g)

below_or_at : (n m : ℕ) → n < m + 1 → (n < m) ⊎ (n ≡ m)
below_or_at n m h = grind arith

-- of two faults of rows, one of which continues the other, both are the same
same_fault : (a b : LimitFault) (rows all : List Row) (f : IsLastFault rows a)
    (g : IsLastFault all b) → Continues rows all → a ≡ b
same_fault a b rows all f g continues =
    let v = version_of all in
    let n = length f.earlier in
    let m = length g.earlier in
    let stands = stands_among all rows a f continues in
    let body : body_of all ≡ g.earlier ++ g.row ∷ [] = g.last in
    let wrong : row_at v (g.earlier ++ g.row ∷ []) n ≡ Err f.wrong =
    subst (λ (xs : List Row). row_at v xs n ≡ Err f.wrong) body stands.wrong in
    let less : n < m + 1 =
    omega (arith, stands.before, ap length body, length-append g.earlier (g.row ∷ [])) in
    elim (below_or_at n m less) [
      | inl before ↦ absurd (not_ok (row_at v g.earlier n) f.wrong
          (sym (front_stays v g.earlier g.row n before) ∙ wrong) (g.sound n before))
      | inr there ↦
          let last : row_at v (g.earlier ++ g.row ∷ []) m ≡ Err g.wrong =
          last_is v g.earlier g.row ∙ g.cause in
          let same : f.wrong ≡ g.wrong =
          err_same f.wrong g.wrong (row_at v (g.earlier ++ g.row ∷ []) m)
          (subst (λ k. row_at v (g.earlier ++ g.row ∷ []) k ≡ Err f.wrong) there wrong) last in
          let none : length stands.rest ≡ 0 = omega (
            arith,
            ap length body,
            ap length stands.more,
            there,
            length-append g.earlier (g.row ∷ []),
            length-append f.earlier (f.row ∷ []),
            length-append (f.earlier ++ f.row ∷ []) stands.rest,
          ) in
          let many : length rows ≡ length all =
          omega (arith, none, ap length stands.is, length-append rows stands.rest) in
          f.fault ∙ ap (λ k. fault_at k f.wrong) many
          ∙ ap (λ (c : Cause). fault_at (length all) c) same ∙ sym g.fault
    ]

one_row_fault : (bytes : List ℕ) (a b : LimitFault) → IsRowFault bytes a → IsRowFault bytes b → a ≡ b
one_row_fault bytes a b f g =
    elim (compare state.StartRecord (strip_bom bytes) f.rows g.rows f.begins.0 g.begins.0
    f.begins.1 g.begins.1 f.begins.2 g.begins.2) [
      | inl more ↦ same_fault a b f.rows g.rows f.last g.last more
      | inr less ↦ sym (same_fault b a g.rows f.rows g.last f.last less)
    ]

-- a text holds one set of limits
pub one_limits : (bytes : List ℕ) (a b : Limits) → IsLimitFile bytes a → IsLimitFile bytes b → a ≡ b
one_limits bytes a b f g =
    let same = ap limits_of (one_set bytes f.entries g.entries f.holds g.holds) in
    ap (λ (o : Option Limits). unwrap_or o a) (sym f.set ∙ same ∙ g.set)

firm_is_set : (entries : List Entry) (o : Option ℕ) (limits : Limits)
    → firm_of entries ≡ None → limits_of entries ≡ Some limits → ⊥
firm_is_set entries o limits none set =
    none_is_not_some limits (sym (ap (option_map (limits_with entries)) none) ∙ set)

too_long : (n : ℕ) → n ≤ bytes_most → bytes_most < n → ⊥
too_long n few long = omega arith

-- a limit file has no fault
pub not_both : (bytes : List ℕ) (limits : Limits) (why : LimitFault)
    → IsLimitFile bytes limits → IsFirstFault bytes why → ⊥
not_both bytes limits why f (inl long) = too_long (length bytes) f.few long.long
not_both bytes limits why f (inr (inl row)) = sound_has_none bytes f.entries why f.holds row.1
not_both bytes limits why f (inr (inr lacks)) =
    let same = one_set bytes f.entries lacks.entries f.holds lacks.holds in
    firm_is_set f.entries None limits (ap firm_of same ∙ lacks.none) f.set

-- a text has one first fault
pub one_fault : (bytes : List ℕ) (a b : LimitFault) → IsFirstFault bytes a → IsFirstFault bytes b → a ≡ b
one_fault bytes a b (inl f) (inl g) = f.fault ∙ sym g.fault
one_fault bytes a b (inl f) (inr (inl g)) = absurd (too_long (length bytes) g.0 f.long)
one_fault bytes a b (inl f) (inr (inr g)) = absurd (too_long (length bytes) g.few f.long)
one_fault bytes a b (inr (inl f)) (inl g) = absurd (too_long (length bytes) f.0 g.long)
one_fault bytes a b (inr (inl f)) (inr (inl g)) = one_row_fault bytes a b f.1 g.1
one_fault bytes a b (inr (inl f)) (inr (inr g)) =
    absurd (sound_has_none bytes g.entries a g.holds f.1)
one_fault bytes a b (inr (inr f)) (inl g) = absurd (too_long (length bytes) f.few g.long)
one_fault bytes a b (inr (inr f)) (inr (inl g)) =
    absurd (sound_has_none bytes f.entries b f.holds g.1)
one_fault bytes a b (inr (inr f)) (inr (inr g)) = f.fault ∙ sym g.fault
