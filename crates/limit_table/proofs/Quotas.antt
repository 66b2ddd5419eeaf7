-- The quota of a limit file is in its range, and any quota in it can stand in the file.
use Rattle.std.proofs.Common.{ℕ, ◌≤◌, List, [], ◌∷◌, ◌++◌, map, Bool, true, false, arith}
use Rattle.std.specs.Prelude.{nat_lt, min, if◌then◌else◌}
use Rattle.std.specs.List.{All}
use Rattle.std.proofs.lemmas.List.Elements.{All-cons, All-head, All-tail}
use Rattle.limit_table.specs.Counted.{counted_for}
use Rattle.limit_table.specs.Entries.{quota_most}
use Rattle.limit_table.specs.Files.{IsHeldByFile}
use Rattle.limit_table.specs.Printing.{trip_rows}
use Rattle.limit_table.specs.Ranges.{IsInRange}
use Rattle.limit_table.specs.Value.{LimitsValue}
use Rattle.limit_table.specs.declared.counted.TheConstants.{FEW_SESSIONS, QUOTA_OF_MANY}
use Rattle.limit_table.specs.declared.kind.Entry.TheVariants as entry
use Rattle.limit_table.proofs.FileLimits.{held_is_file_limits, file_limits_are_held}

-- what holds of all holds of the last of them
last_hold : {X : Type 0} (P : X → Type 0) (first rest : List X) → All P (first ++ rest) → All P rest
last_hold P [] rest all = all
last_hold P (x ∷ first) rest all = last_hold P first rest (All-tail P x (first ++ rest) all)

-- what holds of all holds of one behind three lists
one_holds : {X Y Z : Type 0} (P : X → Type 0) (head : X) (f : Y → X) (g : Z → X) (ys : List Y)
    (zs : List Z) (xs : List X) (here : X) (rest : List X)
    → All P (head ∷ (map f ys ++ (map g zs ++ (xs ++ (here ∷ rest))))) → P here
one_holds P head f g ys zs xs here rest all =
    All-head P here rest (last_hold P xs (here ∷ rest)
    (last_hold P (map g zs) (xs ++ (here ∷ rest))
    (last_hold P (map f ys) (map g zs ++ (xs ++ (here ∷ rest)))
    (All-tail P head (map f ys ++ (map g zs ++ (xs ++ (here ∷ rest)))) all))))

-- the quota of limits that a file holds
pub quota_in_range : (limits : LimitsValue) → IsHeldByFile limits
    → (1 ≤ limits.quota) × (limits.quota ≤ quota_most)
quota_in_range limits held =
    one_holds IsInRange _ _ _ limits.accounts limits.symbols (trip_rows limits.trip) _ _
    (held_is_file_limits limits held).in_range

-- what holds of all holds of them with another end, where it holds of that
ends_so : {X : Type 0} (P : X → Type 0) (first rest other : List X) → All P (first ++ rest)
    → (All P rest → All P other) → All P (first ++ other)
ends_so P [] rest other all holds = holds all
ends_so P (x ∷ first) rest other all holds =
    All-cons P x (first ++ other) (All-head P x (first ++ rest) all)
    (ends_so P first rest other (All-tail P x (first ++ rest) all) holds)

-- what holds of all holds of them with another one behind three lists
one_may_hold : {X Y Z : Type 0} (P : X → Type 0) (head : X) (f : Y → X) (g : Z → X) (ys : List Y)
    (zs : List Z) (xs : List X) (here other : X) (rest : List X)
    → All P (head ∷ (map f ys ++ (map g zs ++ (xs ++ (here ∷ rest))))) → P other
    → All P (head ∷ (map f ys ++ (map g zs ++ (xs ++ (other ∷ rest)))))
one_may_hold P head f g ys zs xs here other rest all holds =
    ends_so P (head ∷ []) _ _ all (λ all.
    ends_so P (map f ys) _ _ all (λ all.
    ends_so P (map g zs) _ _ all (λ all.
    ends_so P xs (here ∷ rest) (other ∷ rest) all (λ all.
    All-cons P other rest holds (All-tail P here rest all)))))

-- limits that a file holds, with another quota in its range
pub held_with_quota : (limits : LimitsValue) (quota : ℕ) → IsHeldByFile limits → 1 ≤ quota
    → quota ≤ quota_most → IsHeldByFile (record limits { quota = quota })
held_with_quota limits quota held least most =
    let are = held_is_file_limits limits held in
    file_limits_are_held (record limits { quota = quota }) (record {
      in_range = one_may_hold IsInRange _ _ _ limits.accounts limits.symbols
          (trip_rows limits.trip) (entry.Quota limits.quota) (entry.Quota quota) _ are.in_range
          (least, most);
      accounts = are.accounts;
      symbols = are.symbols;
      off = are.off;
    })

held_by_test : (limits : LimitsValue) (many : Bool) → IsHeldByFile limits
    → IsHeldByFile (record limits {
      quota = if many then min limits.quota QUOTA_OF_MANY else limits.quota;
    })
held_by_test limits true held =
    let range = quota_in_range limits held in
    held_with_quota limits (min limits.quota QUOTA_OF_MANY) held (omega (arith, range.0))
    (omega (arith, range.1))
held_by_test limits false held = held

-- limits that a file holds, as so many sessions count them, are held by one too
pub held_counted : (sessions : ℕ) (limits : LimitsValue) → IsHeldByFile limits
    → IsHeldByFile (counted_for sessions limits)
held_counted sessions limits held = held_by_test limits (nat_lt FEW_SESSIONS sessions) held
