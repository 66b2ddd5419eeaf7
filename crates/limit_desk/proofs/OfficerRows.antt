-- What rows set, one row after the other.
use Rattle.std.proofs.Common.{◌≡◌, ℕ, ◌+◌, ◌≤◌, List, [], ◌∷◌, ◌++◌, length, refl, sym, ap, subst, ◌∙◌}
use Rattle.std.proofs.Common.{arith, Result, Ok, Err, Bool, true, false, cond}
use Rattle.std.specs.Prelude.{nat_lt}
use Rattle.std.proofs.lemmas.Bool.{ltb-false}
use Rattle.limit_table.specs.Trees.{LimitsValue}
use Rattle.limit_table.specs.declared.fault.LimitFault.{LimitFault}
use Rattle.limit_table.specs.declared.fault.LimitFault.TheVariants as fault
use Rattle.limit_desk.specs.declared.officer.OfficerRow.{OfficerRow}
use Rattle.limit_desk.specs.Officers.{◌>>=◌, row_of, row_at, rows_from, rows_most}

-- a row of a file, and rows
abbrev pub Row : Type 0
Row = List (List ℕ)

-- what comes of a value that is there
pub bind_is : {A B : Type 0} (r : Result A LimitFault) (x : A) (f : A → Result B LimitFault)
    → r ≡ Ok x → (r >>= f) ≡ f x
bind_is r x f is = ap (λ o. o >>= f) is

pub bind_not : {A B : Type 0} (r : Result A LimitFault) (why : LimitFault)
    (f : A → Result B LimitFault) → r ≡ Err why → (r >>= f) ≡ Err why
bind_not r why f is = ap (λ o. o >>= f) is

-- the two values where both are there
pub bind_ok : {A B : Type 0} (r : Result A LimitFault) (f : A → Result B LimitFault) (y : B)
    → (r >>= f) ≡ Ok y → (x : A) × (r ≡ Ok x) × (f x ≡ Ok y)
bind_ok (Ok x) f y h = (x, refl, h)
bind_ok (Err e) f y h = cc h

-- what a sound list of rows sets
abbrev Posts : Type 0
Posts = Result (List OfficerRow) LimitFault

same_ok : (x y : List OfficerRow) (a b : Posts) → a ≡ Ok x → b ≡ Ok y → a ≡ b → x ≡ y
same_ok x y a b first second h = cc (h, first, second)

-- a row that is sound is among those that there may be
few_if : (above : Bool) (row other : OfficerRow) (why : LimitFault)
    → cond above (Err why) (Ok row) ≡ Ok other → above ≡ false
few_if true row other why h = cc h
few_if false row other why h = refl

pub at_few : (limits : LimitsValue) (number : ℕ) (fields : Row) (row : OfficerRow)
    → row_at limits number fields ≡ Ok row → number ≤ rows_most
at_few limits number fields row h =
    let both = bind_ok (row_of limits number fields) _ row h in
    ltb-false _ _ (few_if (nat_lt rows_most number) both.0 row (fault.TooMany number) both.2)

-- one row more is sound
pub one_more : (limits : LimitsValue) (number : ℕ) (rows : List Row) (fields : Row)
    (set : List OfficerRow) (row : OfficerRow) → rows_from limits number rows ≡ Ok set
    → row_at limits (number + length rows) fields ≡ Ok row
    → rows_from limits number (rows ++ fields ∷ []) ≡ Ok (set ++ row ∷ [])
one_more limits number [] fields set row h at =
    let here : row_at limits number fields ≡ Ok row =
    subst (λ k. row_at limits k fields ≡ Ok row) (omega arith) at in
    bind_is (row_at limits number fields) row _ here
    ∙ ap (λ (s : List OfficerRow). Ok (s ++ row ∷ [])) (same_ok [] set (Ok []) (Ok set) refl refl h)
one_more limits number (first ∷ rows) fields set row h at =
    let one = bind_ok (row_at limits number first) _ set h in
    let two = bind_ok (rows_from limits (number + 1) rows) _ set one.2 in
    let later : row_at limits (number + 1 + length rows) fields ≡ Ok row =
    subst (λ k. row_at limits k fields ≡ Ok row) (omega arith) at in
    let more = one_more limits (number + 1) rows fields two.0 row two.1 later in
    bind_is (row_at limits number first) one.0 _ one.1
    ∙ bind_is (rows_from limits (number + 1) (rows ++ fields ∷ [])) (two.0 ++ row ∷ []) _ more
    ∙ ap (λ (s : List OfficerRow). Ok (s ++ row ∷ [])) (same_ok (one.0 ∷ two.0) set (Ok (one.0 ∷ two.0)) (Ok set) refl refl two.2)

-- one row more has a fault
pub one_wrong : (limits : LimitsValue) (number : ℕ) (rows : List Row) (fields : Row)
    (set : List OfficerRow) (why : LimitFault) → rows_from limits number rows ≡ Ok set
    → row_at limits (number + length rows) fields ≡ Err why
    → rows_from limits number (rows ++ fields ∷ []) ≡ Err why
one_wrong limits number [] fields set why h at =
    bind_not (row_at limits number fields) why _
    (subst (λ k. row_at limits k fields ≡ Err why) (omega arith) at)
one_wrong limits number (first ∷ rows) fields set why h at =
    let one = bind_ok (row_at limits number first) _ set h in
    let two = bind_ok (rows_from limits (number + 1) rows) _ set one.2 in
    let later : row_at limits (number + 1 + length rows) fields ≡ Err why =
    subst (λ k. row_at limits k fields ≡ Err why) (omega arith) at in
    let more = one_wrong limits (number + 1) rows fields two.0 why two.1 later in
    bind_is (row_at limits number first) one.0 _ one.1
    ∙ bind_not (rows_from limits (number + 1) (rows ++ fields ∷ [])) why _ more

-- rows set as many things
pub as_many : (limits : LimitsValue) (number : ℕ) (rows : List Row) (set : List OfficerRow)
    → rows_from limits number rows ≡ Ok set → length set ≡ length rows
as_many limits number [] set h = ap length (sym (same_ok [] set (Ok []) (Ok set) refl refl h))
as_many limits number (first ∷ rows) set h =
    let one = bind_ok (row_at limits number first) _ set h in
    let two = bind_ok (rows_from limits (number + 1) rows) _ set one.2 in
    omega (
      arith,
      ap length (same_ok (one.0 ∷ two.0) set (Ok (one.0 ∷ two.0)) (Ok set) refl refl two.2),
      as_many limits (number + 1) rows two.0 two.1,
    )

-- the first fault of some rows is that of more rows
pub fault_stays : (limits : LimitsValue) (number : ℕ) (rows rest : List Row) (why : LimitFault)
    → rows_from limits number rows ≡ Err why → rows_from limits number (rows ++ rest) ≡ Err why
fault_stays limits number [] rest why h = cc h
fault_stays limits number (first ∷ rows) rest why h =
    by_first (row_at limits number first) (rows_from limits (number + 1) rows)
    (rows_from limits (number + 1) (rows ++ rest)) (fault_stays limits (number + 1) rows rest why) h
  where
    by_later : (row : OfficerRow) (some all : Result (List OfficerRow) LimitFault)
        → (some ≡ Err why → all ≡ Err why)
        → (some >>= (λ later. Ok (row ∷ later))) ≡ Err why
        → (all >>= (λ later. Ok (row ∷ later))) ≡ Err why
    by_later row (Ok later) all stays h = cc h
    by_later row (Err e) all stays h = bind_not all why _ (stays h)

    by_first : (one : Result OfficerRow LimitFault) (some all : Result (List OfficerRow) LimitFault)
        → (some ≡ Err why → all ≡ Err why)
        → (one >>= (λ row. some >>= (λ later. Ok (row ∷ later)))) ≡ Err why
        → (one >>= (λ row. all >>= (λ later. Ok (row ∷ later)))) ≡ Err why
    by_first (Ok row) some all stays h = by_later row some all stays h
    by_first (Err e) some all stays h = h
