-- A text has one list of rows, so it has one answer.
use Rattle.std.proofs.Common.{◌≡◌, ℕ, ◌≤◌, List, [], ◌∷◌, ◌++◌, length, refl, sym}
use Rattle.std.proofs.Common.{ap, subst, ◌∙◌, arith, Ok, Err, Option, Some, None, Result}
use Rattle.std.proofs.Common.{◌⊎◌, inl, inr, length-append}
use Rattle.std.proofs.lemmas.List.{append-nil}
use Rattle.std.specs.Prelude.{unwrap_or}
use Rattle.csv.specs.Machine.{Read, next_record}
use Rattle.csv.specs.Reading.{Reached, default_config, strip_bom}
use Rattle.csv.specs.declared.parser.State.{State}
use Rattle.csv.specs.declared.parser.State.TheVariants as state
use Rattle.limit_table.specs.Files.{AreRows, BeginsWithRows}
use Rattle.limit_table.specs.Trees.{LimitsValue}
use Rattle.limit_table.specs.declared.fault.LimitFault.{LimitFault}
use Rattle.limit_desk.specs.declared.officer.OfficerRow.{OfficerRow}
use Rattle.limit_desk.specs.Officers.{rows_from, IsOfficerFile, IsFirstFault}
use Rattle.limit_desk.specs.OneAnswer.{IsOneAnswer}
use Rattle.limit_desk.proofs.OfficerRows.{Row, fault_stays}

none_is_not_some : {A : Type 0} (x : A) → None ≡ Some x → ⊥
none_is_not_some x h = cc h

cons_same : (a b : Row) (xs ys : List Row) → a ≡ b → xs ≡ ys → a ∷ xs ≡ b ∷ ys
cons_same a b xs ys h g = ap (λ (z : Row). z ∷ xs) h ∙ ap (λ (zs : List Row). b ∷ zs) g

-- one list goes on where the other ends
abbrev Continues : List Row → List Row → Type 0
Continues rows all = (rest : List Row) × (all ≡ rows ++ rest)

-- of two lists of rows that a text begins with, one continues the other
compare : (s : State) (xs : List ℕ) (rows all : List Row) (s2 s3 : State) (ys zs : List ℕ)
    → Reached default_config s xs rows s2 ys → Reached default_config s xs all s3 zs
    → Continues rows all ⊎ Continues all rows
unfolding Reached
compare s xs [] all s2 s3 ys zs h g = inl (all, refl)
compare s xs (r ∷ rs) [] s2 s3 ys zs h g = inr (r ∷ rs, refl)
compare s xs (r ∷ rs) (a ∷ others) s2 s3 ys zs h g =
    let same : h.0 ≡ g.0 = ap (λ (o : Option Read). unwrap_or o h.0) (sym h.1 ∙ g.1) in
    let first : a ≡ r = g.2 ∙ ap (λ (q : Read). q.0) (sym same) ∙ sym h.2 in
    let moved : Reached default_config h.0.1 h.0.2 others s3 zs =
    subst (λ (q : Read). Reached default_config q.1 q.2 others s3 zs) (sym same) g.3 in
    elim (compare h.0.1 h.0.2 rs others s2 s3 ys zs h.3 moved) [
      | inl more ↦ inl (more.0, cons_same a r others (rs ++ more.0) first more.1)
      | inr less ↦ inr (less.0, cons_same r a rs (others ++ less.0) (sym first) less.1)
    ]

-- the rows that a text begins with are the first of all its rows
front : (s : State) (xs : List ℕ) (rows all : List Row) (s2 s3 : State) (ys zs : List ℕ)
    → Reached default_config s xs rows s2 ys → Reached default_config s xs all s3 zs
    → next_record default_config s3 [] [] zs ≡ None → Continues rows all
unfolding Reached
front s xs [] all s2 s3 ys zs h g none = (all, refl)
front s xs (r ∷ rs) [] s2 s3 ys zs h g none =
    let there : next_record default_config s [] [] zs ≡ None =
    subst (λ t. next_record default_config t [] [] zs ≡ None) (sym g.0) none in
    let here : next_record default_config s [] [] xs ≡ None =
    subst (λ (z : List ℕ). next_record default_config s [] [] z ≡ None) (sym g.1) there in
    absurd (none_is_not_some h.0 (sym here ∙ h.1))
front s xs (r ∷ rs) (a ∷ others) s2 s3 ys zs h g none =
    let same : h.0 ≡ g.0 = ap (λ (o : Option Read). unwrap_or o h.0) (sym h.1 ∙ g.1) in
    let first : a ≡ r = g.2 ∙ ap (λ (q : Read). q.0) (sym same) ∙ sym h.2 in
    let moved : Reached default_config h.0.1 h.0.2 others s3 zs =
    subst (λ (q : Read). Reached default_config q.1 q.2 others s3 zs) (sym same) g.3 in
    let more = front h.0.1 h.0.2 rs others s2 s3 ys zs h.3 moved none in
    (more.0, cons_same a r others (rs ++ more.0) first more.1)

no_rest : (xs rest : List Row) → length (xs ++ rest) ≤ length xs → xs ++ rest ≡ xs
no_rest xs [] h = append-nil xs
no_rest xs (r ∷ rest) h = absurd (omega (arith, length-append xs (r ∷ rest)))

-- a text has one list of rows
one_list : (bytes : List ℕ) (a b : List Row) → AreRows bytes a → AreRows bytes b → a ≡ b
one_list bytes a b h g =
    let there = front state.StartRecord (strip_bom bytes) a b h.0 g.0 h.1 g.1 h.2 g.2 g.3 in
    let back = front state.StartRecord (strip_bom bytes) b a g.0 h.0 g.1 h.1 g.2 h.2 h.3 in
    let longer : length b ≤ length a =
    omega (arith, ap length back.1, length-append b back.0) in
    let short : length (a ++ there.0) ≤ length a =
    subst (λ (xs : List Row). length xs ≤ length a) there.1 longer in
    sym (there.1 ∙ no_rest a there.0 short)

one_ok : (r : Result (List OfficerRow) LimitFault) (a b : List OfficerRow) → r ≡ Ok a → r ≡ Ok b
    → a ≡ b
one_ok r a b h g = cc (h, g)

one_err : (r : Result (List OfficerRow) LimitFault) (a b : LimitFault) → r ≡ Err a → r ≡ Err b
    → a ≡ b
one_err r a b h g = cc (h, g)

not_both : (r : Result (List OfficerRow) LimitFault) (a : List OfficerRow) (b : LimitFault)
    → r ≡ Ok a → r ≡ Err b → ⊥
not_both r a b h g = cc (h, g)

module _ (limits : LimitsValue) (bytes : List ℕ) where
  one_set : (some others : List OfficerRow) → IsOfficerFile limits bytes some
      → IsOfficerFile limits bytes others → some ≡ others
  one_set some others h g =
      one_ok (rows_from limits 1 h.1.rows) some others h.1.sets
      (subst (λ (rows : List Row). rows_from limits 1 rows ≡ Ok others)
      (sym (one_list bytes h.1.rows g.1.rows h.1.all g.1.all)) g.1.sets)

  -- the first fault of a text's rows is that of all rows that continue them
  later : (rows all : List Row) (why : LimitFault) → Continues rows all
      → rows_from limits 1 rows ≡ Err why → rows_from limits 1 all ≡ Err why
  later rows all why more h =
      subst (λ (xs : List Row). rows_from limits 1 xs ≡ Err why) (sym more.1)
      (fault_stays limits 1 rows more.0 why h)

  two_faults : (a b : List Row) (some others : LimitFault) → BeginsWithRows bytes a
      → BeginsWithRows bytes b → rows_from limits 1 a ≡ Err some → rows_from limits 1 b ≡ Err others
      → some ≡ others
  two_faults a b some others h g first second =
      elim (compare state.StartRecord (strip_bom bytes) a b h.0 g.0 h.1 g.1 h.2 g.2) [
        | inl more ↦ one_err (rows_from limits 1 b) some others (later a b some more first) second
        | inr less ↦ one_err (rows_from limits 1 a) some others first (later b a others less second)
      ]

  one_fault : (some others : LimitFault) → IsFirstFault limits bytes some
      → IsFirstFault limits bytes others → some ≡ others
  one_fault some others (inl long) (inl also) = long.fault ∙ sym also.fault
  one_fault some others (inl long) (inr short) = absurd (omega (arith, long.long, short.0))
  one_fault some others (inr short) (inl long) = absurd (omega (arith, long.long, short.0))
  one_fault some others (inr one) (inr two) =
      two_faults one.1.rows two.1.rows some others one.1.begins two.1.begins one.1.first two.1.first

  never_both : (set : List OfficerRow) (why : LimitFault) → IsOfficerFile limits bytes set
      → IsFirstFault limits bytes why → ⊥
  never_both set why h (inl long) = absurd (omega (arith, long.long, h.0))
  never_both set why h (inr wrong) =
      let all = h.1.all in
      let begins = wrong.1.begins in
      let more = front state.StartRecord (strip_bom bytes) wrong.1.rows h.1.rows begins.0 all.0
      begins.1 all.1 begins.2 all.2 all.3 in
      not_both (rows_from limits 1 h.1.rows) set why h.1.sets
      (later wrong.1.rows h.1.rows why more wrong.1.first)

  pub one_answer : IsOneAnswer limits bytes
  one_answer = record { posts = one_set; faults = one_fault; apart = never_both }
