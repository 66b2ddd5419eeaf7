-- Rows that are sound after one another, by what they set.
use Rattle.std.proofs.Common.{◌≡◌, ℕ, ◌<◌, List, [], ◌∷◌, ◌++◌, length, map, refl, sym, ap, ◌∙◌}
use Rattle.std.proofs.Common.{subst}
use Rattle.std.proofs.Common.{arith, true, false, Ok, Result, None, cond, append_assoc}
use Rattle.std.proofs.Common.{length-append, count_by, inl, inr}
use Rattle.std.specs.Prelude.{◌||◌}
use Rattle.std.specs.List.{All, list_any, filter, cons_option}
use Rattle.std.specs.Result.{result_ok}
use Rattle.std.proofs.lemmas.Bool.{cases_Bool, eq-eqb}
use Rattle.std.proofs.lemmas.List.{append-nil, map-append}
use Rattle.std.proofs.lemmas.List.Elements.{filter-append, All-nil, All-cons, All-head, All-tail}
use Rattle.limit_table.specs.Kinds.{kind_of, kind_place, same_kind}
use Rattle.limit_table.specs.Entries.{◌>>=◌}
use Rattle.limit_table.specs.Faults.{is_alike, same_key, count_alike, entry_fault, unless_fault}
use Rattle.limit_table.specs.Faults.{entries_of, row_at, row_after}
use Rattle.limit_table.specs.Files.{AreSound}
use Rattle.limit_table.specs.Printing.{row_of}
use Rattle.limit_table.specs.Ranges.{IsInRange}
use Rattle.limit_table.specs.declared.kind.Kind.{Kind}
use Rattle.limit_table.specs.declared.version.Version.{Version}
use Rattle.limit_table.specs.declared.kind.Entry.{Entry}
use Rattle.limit_table.specs.declared.kind.Cause.{Cause}
use Rattle.limit_table.proofs.Few.{count_cons, same_kind_is}
use Rattle.limit_table.proofs.Sound.{Row, some_entry, after_ok, entries_more, sound_more, no_fault}
use Rattle.limit_table.proofs.OneAnswer.{here_is}
use Rattle.limit_table.proofs.InRange.{FitsIn, read_in_range, written_sets}
use Rattle.limit_table.proofs.SoFar.{no_place}

-- the rows of a kind
abbrev pub of_kind : Kind → List Entry → List Entry
of_kind k es = filter (λ e. same_kind k (kind_of e)) es

-- nothing is wrong with any of these rows after the earlier ones and those before it
abbrev pub SoundAfter : List Entry → List Entry → Type 0
SoundAfter earlier [] = Unit {0}
SoundAfter earlier (e ∷ es) = (entry_fault earlier e ≡ None) × SoundAfter (earlier ++ e ∷ []) es

-- a row that is of another kind doesn't repeat it
other_kind : (e x : Entry) → same_kind (kind_of e) (kind_of x) ≡ false → same_key e x ≡ false
other_kind e x h = rw h refl

kept_first : (k : Kind) (e : Entry) (es : List Entry) → same_kind k (kind_of e) ≡ true
    → of_kind k (e ∷ es) ≡ e ∷ of_kind k es
kept_first k e es same = rw same refl

dropped_first : (k : Kind) (e : Entry) (es : List Entry) → same_kind k (kind_of e) ≡ false
    → of_kind k (e ∷ es) ≡ of_kind k es
dropped_first k e es other = rw other refl

-- a row is repeated exactly where it is among those of its kind
any_kept : (e : Entry) (es : List Entry)
    → list_any (same_key e) (of_kind (kind_of e) es) ≡ list_any (same_key e) es
any_kept e [] = refl
any_kept e (x ∷ es) = elim (cases_Bool (same_kind (kind_of e) (kind_of x))) [
  | inl same ↦
      ap (list_any (same_key e)) (kept_first (kind_of e) x es same)
      ∙ ap (λ b. same_key e x || b) (any_kept e es)
  | inr other ↦
      ap (list_any (same_key e)) (dropped_first (kind_of e) x es other) ∙ any_kept e es
      ∙ sym (ap (λ b. b || list_any (same_key e) es) (other_kind e x other))
]

-- as many rows are alike among those of its kind
count_kept : (e : Entry) (es : List Entry)
    → count_alike e (of_kind (kind_of e) es) ≡ count_alike e es
count_kept e [] = refl
count_kept e (x ∷ es) = elim (cases_Bool (same_kind (kind_of e) (kind_of x))) [
  | inl same ↦
      ap (count_by (is_alike e)) (kept_first (kind_of e) x es same)
      ∙ omega (
        arith,
        count_cons (is_alike e) x (of_kind (kind_of e) es),
        count_cons (is_alike e) x es,
        count_kept e es,
      )
  | inr other ↦
      let none : ◌≡◌ {A = ℕ} (cond (is_alike e x) 1 0) 0 = rw other refl in
      ap (count_by (is_alike e)) (dropped_first (kind_of e) x es other)
      ∙ omega (arith, none, count_cons (is_alike e) x es, count_kept e es)
]

-- what is wrong with a row is told by the rows of its kind
fault_kept : (e : Entry) (es : List Entry)
    → entry_fault (of_kind (kind_of e) es) e ≡ entry_fault es e
fault_kept e es = rw (any_kept e es, count_kept e es) refl

kind_more : (k : Kind) (es : List Entry) (e : Entry) → same_kind k (kind_of e) ≡ true
    → of_kind k (es ++ e ∷ []) ≡ of_kind k es ++ e ∷ []
kind_more k es e same =
    filter-append (λ x. same_kind k (kind_of x)) es (e ∷ []) ∙ rw same refl

kind_same : (k : Kind) (es : List Entry) (e : Entry) → same_kind k (kind_of e) ≡ false
    → of_kind k (es ++ e ∷ []) ≡ of_kind k es
kind_same k es e other =
    filter-append (λ x. same_kind k (kind_of x)) es (e ∷ []) ∙ rw other (append-nil (of_kind k es))

-- sound rows are sound kind by kind
pub sound_of_kind : (k : Kind) (earlier es : List Entry) → SoundAfter earlier es
    → SoundAfter (of_kind k earlier) (of_kind k es)
sound_of_kind k earlier [] s = tt
sound_of_kind k earlier (e ∷ es) s = elim (cases_Bool (same_kind k (kind_of e))) [
  | inl same ↦
      let is = same_kind_is k (kind_of e) same in
      let here : entry_fault (of_kind k earlier) e ≡ None =
      ap (λ (j : Kind). entry_fault (of_kind j earlier) e) is ∙ fault_kept e earlier ∙ s.0 in
      let rest : SoundAfter (of_kind k earlier ++ e ∷ []) (of_kind k es) =
      subst (λ (xs : List Entry). SoundAfter xs (of_kind k es)) (kind_more k earlier e same)
      (sound_of_kind k (earlier ++ e ∷ []) es s.1) in
      subst (λ (xs : List Entry). SoundAfter (of_kind k earlier) xs) (sym (kept_first k e es same))
      (here, rest)
  | inr other ↦
      subst (λ (xs : List Entry). SoundAfter (of_kind k earlier) xs)
      (sym (dropped_first k e es other))
      (subst (λ (xs : List Entry). SoundAfter xs (of_kind k es)) (kind_same k earlier e other)
      (sound_of_kind k (earlier ++ e ∷ []) es s.1))
]

same_place : (k : Kind) → same_kind k k ≡ true
same_place k = eq-eqb (kind_place k) (kind_place k) refl

-- one row less of each kind
one_less : (done rest : List Entry) (e : Entry)
    → ((k : Kind) → SoundAfter (of_kind k done) (of_kind k (e ∷ rest)))
    → (k : Kind) → SoundAfter (of_kind k (done ++ e ∷ [])) (of_kind k rest)
one_less done rest e s k = elim (cases_Bool (same_kind k (kind_of e))) [
  | inl same ↦
      let here = subst (λ (xs : List Entry). SoundAfter (of_kind k done) xs)
      (kept_first k e rest same) (s k) in
      subst (λ (xs : List Entry). SoundAfter xs (of_kind k rest)) (sym (kind_more k done e same))
      here.1
  | inr other ↦
      subst (λ (xs : List Entry). SoundAfter xs (of_kind k rest)) (sym (kind_same k done e other))
      (subst (λ (xs : List Entry). SoundAfter (of_kind k done) xs)
      (dropped_first k e rest other) (s k))
]

-- rows that are sound kind by kind are sound
pub sound_by_kinds : (done rest : List Entry)
    → ((k : Kind) → SoundAfter (of_kind k done) (of_kind k rest)) → SoundAfter done rest
sound_by_kinds done [] s = tt
sound_by_kinds done (e ∷ rest) s =
    let own = kind_of e in
    let here = subst (λ (xs : List Entry). SoundAfter (of_kind own done) xs)
    (kept_first own e rest (same_place own)) (s own) in (
      sym (fault_kept e done) ∙ here.0,
      sound_by_kinds (done ++ e ∷ []) rest (one_less done rest e s),
    )

-- in a file of this version
module _ (v : Version) where
  -- what the rows of a file set is sound and in range
  pub record AreRead (done rest : List Row) : Type 0 where
    pub sound : SoundAfter (entries_of v done) (entries_of v rest)
    pub in_range : All IsInRange (entries_of v rest)

  pub read_rows : (done rest : List Row) → AreSound v (done ++ rest) → AreRead done rest
  read_rows done [] s = record { sound = tt; in_range = All-nil IsInRange }
  read_rows done (r ∷ rs) s =
      let fits : length done < length (done ++ r ∷ rs) =
      omega (arith, length-append done (r ∷ rs)) in
      let good = some_entry (row_at v (done ++ r ∷ rs) (length done)) (s (length done) fits) in
      let e = good.0 in
      let after : row_after v (entries_of v done) r ≡ Ok e = sym (here_is v done r rs) ∙ good.1 in
      let parts = after_ok v (entries_of v done) r e after in
      let more = read_rows (done ++ r ∷ []) rs
      (subst (AreSound v) (sym (append_assoc done (r ∷ []) rs)) s) in
      let first : entries_of v (r ∷ rs) ≡ e ∷ entries_of v rs =
      ap (λ (x : Result Entry Cause). cons_option (result_ok x) (entries_of v rs)) parts.0 in
      let rest : SoundAfter (entries_of v done ++ e ∷ []) (entries_of v rs) =
      subst (λ (xs : List Entry). SoundAfter xs (entries_of v rs)) (entries_more v done r e parts.0)
      more.sound in
      let uncrossed = (no_fault (entries_of v done) e parts.1).ordered in
      record {
        sound = subst (λ (xs : List Entry). SoundAfter (entries_of v done) xs) (sym first)
            (parts.1, rest);
        in_range = subst (λ (xs : List Entry). All IsInRange xs) (sym first)
            (All-cons IsInRange e (entries_of v rs) (read_in_range v r e parts.0 uncrossed)
            more.in_range);
      }

  -- the rows that are written for these are sound, and set them
  pub record AreWritten (es : List Entry) : Type 0 where
    pub sound : AreSound v (map (row_of v) es)
    pub set : entries_of v (map (row_of v) es) ≡ es

  write_more : (done rest : List Entry) → AreWritten done → SoundAfter done rest → All IsInRange rest
      → All (FitsIn v) rest → AreWritten (done ++ rest)
  write_more done [] w s r f = subst AreWritten (sym (append-nil done)) w
  write_more done (e ∷ es) w s r f =
      let sets = written_sets v e (All-head IsInRange e es r) (All-head (FitsIn v) e es f) in
      let after : row_after v (entries_of v (map (row_of v) done)) (row_of v e) ≡ Ok e =
      ap (λ (x : Result Entry Cause).
      x >>= λ y. unless_fault y (entry_fault (entries_of v (map (row_of v) done)) y)) sets
      ∙ ap (λ (xs : List Entry). unless_fault e (entry_fault xs e)) w.set
      ∙ ap (unless_fault e) s.0 in
      let split = map-append (row_of v) done (e ∷ []) in
      let more : AreWritten (done ++ e ∷ []) = record {
        sound = subst (AreSound v) (sym split) (sound_more v (map (row_of v) done) (row_of v e) e w.sound
            after);
        set = ap (entries_of v) split ∙ entries_more v (map (row_of v) done) (row_of v e) e sets
            ∙ ap (λ (xs : List Entry). xs ++ e ∷ []) w.set;
      } in
      subst AreWritten (append_assoc done (e ∷ []) es)
      (write_more (done ++ e ∷ []) es more s.1 (All-tail IsInRange e es r)
      (All-tail (FitsIn v) e es f))

  pub write_rows : (es : List Entry) → SoundAfter [] es → All IsInRange es → All (FitsIn v) es
      → AreWritten es
  write_rows es s r f =
      let none : AreWritten [] = record { sound = λ k h. no_place k h; set = refl } in
      write_more [] es none s r f
