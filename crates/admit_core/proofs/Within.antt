-- What is admitted stays within the limit: at each read within it, all that is posted is.
use Rattle.std.proofs.Common.{◌≡◌, ℕ, zero, suc, ◌+◌, ◌≤◌, List, [], ◌∷◌, length, take, fold}
use Rattle.std.proofs.Common.{refl, ap, sym, ◌∙◌, arith, replicate, Bool, true, false, cond}
use Rattle.std.proofs.Common.{add_assoc, add-zero, zero-add}
use Rattle.std.specs.Prelude.{sum_by, nat_le}
use Rattle.std.specs.List.{slice_set}
use Rattle.std.proofs.lemmas.List.Sums.{sum_by-cons}
use Rattle.std.proofs.lemmas.Bool.{leb-true}
use Rattle.fold_law.specs.Sum.{sum_of}
use Rattle.fold_law.specs.Whole.{whole_of}
use Rattle.risk_board.specs.declared.hand.Line.{Line}
use Rattle.risk_board.specs.History.{Event, IsLegal}
use Rattle.admit_core.specs.Admitted.{Standing, nothing, after_moment, moments, StaysWithin}
use Rattle.admit_core.specs.Admitted.Moment.{Posts, Reads}
use Rattle.admit_core.proofs.EachMoment.{holds_at_each}

-- what all have admitted
abbrev admitted_total : List Standing → ℕ
admitted_total [] = 0
admitted_total (standing ∷ standings) = standing.admitted + admitted_total standings

abbrev array_total : List ℕ → ℕ
array_total [] = 0
array_total (value ∷ values) = value + array_total values

sum_by-admitted : (standings : List Standing)
    → sum_by (λ (standing : Standing). standing.admitted) standings ≡ admitted_total standings
sum_by-admitted [] = refl
sum_by-admitted (standing ∷ standings) =
    sum_by-cons (λ (standing : Standing). standing.admitted) standing standings
    ∙ ap (λ n. standing.admitted + n) (sum_by-admitted standings)

fold-total : (start : ℕ) (values : List ℕ) → fold sum_of start values ≡ start + array_total values
fold-total start [] = sym (add-zero start)
fold-total start (value ∷ values) =
    fold-total (start + value) values ∙ add_assoc start value (array_total values)

whole-total : (values : List ℕ) → whole_of sum_of 0 values ≡ array_total values
whole-total values = fold-total 0 values ∙ zero-add (array_total values)

-- each session has posted its component of the array, and admitted no more
abbrev Matches : List Standing → List ℕ → Type 0
Matches [] values = Unit {0}
Matches (standing ∷ standings) [] = ⊥
Matches (standing ∷ standings) (value ∷ values) =
    (standing.posted ≡ value) × (standing.admitted ≤ value) × Matches standings values

admitted_below_array : (standings : List Standing) (values : List ℕ) → Matches standings values
    → admitted_total standings ≤ array_total values
admitted_below_array [] values match = omega arith
admitted_below_array (standing ∷ standings) [] match = absurd match
admitted_below_array (standing ∷ standings) (value ∷ values) match =
    omega (arith, match.1, admitted_below_array standings values match.2)

-- a post keeps the match, and raises no sum
Matches-post : (session value : ℕ) (standings : List Standing) (values : List ℕ)
    → Matches standings values
    → Matches (after_moment 0 standings (Posts session value)) (slice_set values session value)
Matches-post session value [] values match = tt
Matches-post session value (standing ∷ standings) [] match = absurd match
Matches-post zero value (standing ∷ standings) (x ∷ values) match =
    (refl, omega arith, match.2)
Matches-post (suc session) value (standing ∷ standings) (x ∷ values) match =
    (match.0, match.1, Matches-post session value standings values match.2)

admitted_total-post : (session value : ℕ) (standings : List Standing)
    → admitted_total (after_moment 0 standings (Posts session value)) ≤ admitted_total standings
admitted_total-post session value [] = omega arith
admitted_total-post zero value (standing ∷ standings) = omega arith
admitted_total-post (suc session) value (standing ∷ standings) =
    omega (arith, admitted_total-post session value standings)

-- a read keeps the match, whatever the limit says of it
read_match : (within : Bool) (standing : Standing) (value : ℕ) → standing.posted ≡ value
    → standing.admitted ≤ value → cond within standing.posted standing.admitted ≤ value
read_match true standing value posted admitted = omega arith
read_match false standing value posted admitted = admitted

Matches-read : (limit session value : ℕ) (standings : List Standing) (values : List ℕ)
    → Matches standings values
    → Matches (after_moment limit standings (Reads session value)) values
Matches-read limit session value [] values match = tt
Matches-read limit session value (standing ∷ standings) [] match = absurd match
Matches-read limit zero value (standing ∷ standings) (x ∷ values) match =
    (match.0, read_match (nat_le value limit) standing x match.0 match.1, match.2)
Matches-read limit (suc session) value (standing ∷ standings) (x ∷ values) match =
    (match.0, match.1, Matches-read limit session value standings values match.2)

-- a read above the limit changes nothing
set_same : (limit session value : ℕ) (standings : List Standing) → nat_le value limit ≡ false
    → after_moment limit standings (Reads session value) ≡ standings
set_same limit session value [] above = refl
set_same limit zero value (standing ∷ standings) above = rw above refl
set_same limit (suc session) value (standing ∷ standings) above =
    ap (λ s. standing ∷ s) (set_same limit session value standings above)

-- a read of the whole array leaves the sum within the limit
read_within : (limit session : ℕ) (standings : List Standing) (values : List ℕ)
    → Matches standings values → admitted_total standings ≤ limit → (within : Bool)
    → nat_le (array_total values) limit ≡ within
    → admitted_total (after_moment limit standings (Reads session (array_total values))) ≤ limit
read_within limit session standings values match stays true is =
    let below = admitted_below_array
    (after_moment limit standings (Reads session (array_total values))) values
    (Matches-read limit session (array_total values) standings values match) in
    let fits : array_total values ≤ limit = leb-true _ _ is in
    omega arith
read_within limit session standings values match stays false is =
    rw (set_same limit session (array_total values) standings is) stays

-- the sum of what all have admitted is within the limit, and they match the array
abbrev Keeps : ℕ → List Standing → List ℕ → Type 0
Keeps limit standings values = Matches standings values × (admitted_total standings ≤ limit)

Keeps-post : (limit : ℕ) (standings : List Standing) (values : List ℕ) (session value : ℕ)
    → Keeps limit standings values
    → Keeps limit (after_moment limit standings (Posts session value))
    (slice_set values session value)
Keeps-post limit standings values session value keeps = (
  Matches-post session value standings values keeps.0,
  omega (arith, keeps.1, admitted_total-post session value standings),
)

Keeps-read : (limit : ℕ) (standings : List Standing) (values : List ℕ) (session : ℕ)
    → Keeps limit standings values
    → Keeps limit (after_moment limit standings (Reads session (whole_of sum_of 0 values))) values
Keeps-read limit standings values session keeps =
    rw (whole-total values) (
      Matches-read limit session (array_total values) standings values keeps.0,
      read_within limit session standings values keeps.0 keeps.1
          (nat_le (array_total values) limit) refl,
    )

-- sessions before their first post match the array before its first line
Matches-opening : (sessions components : ℕ) → sessions ≤ components
    → Matches (replicate sessions nothing) (replicate components 0)
Matches-opening zero components few = tt
Matches-opening (suc sessions) zero few = absurd (omega arith)
Matches-opening (suc sessions) (suc components) few =
    (refl, omega arith, Matches-opening sessions components (omega arith))

admitted_total-opening : (sessions : ℕ) → admitted_total (replicate sessions nothing) ≡ 0
admitted_total-opening zero = refl
admitted_total-opening (suc sessions) = omega (arith, admitted_total-opening sessions)

-- In a legal history of sums what is admitted stays within every limit, after each line and each
-- read.
pub legal_stays_within : (limit components : ℕ) (lines : List Line) (events : List (List Event))
    → IsLegal (whole_of sum_of 0) 0 components lines events
    → StaysWithin limit (length events) lines events
legal_stays_within limit components lines events legal count =
    let opening : List Standing = replicate (length events) nothing in
    rw (sum_by-admitted (fold (after_moment limit) opening (take count (moments lines events))))
    (holds_at_each (whole_of sum_of 0) 0 components (List Standing) (after_moment limit)
    (Keeps limit) (λ standings. admitted_total standings ≤ limit) (λ standings values keeps. keeps.1)
    (Keeps-post limit) (Keeps-read limit) lines events opening legal (
      Matches-opening (length events) components legal.few,
      omega (arith, admitted_total-opening (length events)),
    ) count)
