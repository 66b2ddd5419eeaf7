-- In a legal history the highest admitted buy is below the lowest admitted sell at each place.
use Rattle.std.proofs.Common.{◌≡◌, ℕ, zero, suc, ◌+◌, ◌≤◌, List, [], ◌∷◌, length, take, fold}
use Rattle.std.proofs.Common.{refl, ap, sym, ◌∙◌, arith, replicate, Bool, true, false, cond}
use Rattle.std.specs.Prelude.{map, nat_lt, min, ◌==◌, ◌||◌}
use Rattle.std.specs.List.{slice_set}
use Rattle.fold_law.specs.Whole.{whole_of}
use Rattle.risk_board.specs.declared.hand.Line.{Line}
use Rattle.risk_board.specs.History.{Event, IsLegal}
use Rattle.limit_table.specs.declared.kind.SymbolRow.{SymbolRow}
use Rattle.admit_core.specs.Admitted.{Standing, nothing, standing_at, moments}
use Rattle.admit_core.specs.Admitted.Moment.{Posts, Reads}
use Rattle.cross_guard.specs.declared.cross.TheConstants.{HALF}
use Rattle.cross_guard.specs.Halves.{upper, lower, cross_join, cross_meet, cross_le, is_clear}
use Rattle.cross_guard.specs.HalvesLaws.{le-halves, halves-le, join-rises, upper-packed}
use Rattle.cross_guard.specs.HalvesLaws.{lower-packed, join_regroups, join_unit, le-through}
use Rattle.cross_guard.specs.HalvesLaws.{upper-join, lower-join}
use Rattle.cross_guard.specs.Laws.{PricedOrder, IsCovered, NeverCross}
use Rattle.cross_guard.specs.Levels.{value_of_order}
use Rattle.cross_guard.specs.Standings.{after_moment, StaysClear, admitted_join, standings_after}
use Rattle.admit_core.proofs.EachMoment.{holds_at_each}
use Rattle.cross_guard.proofs.Apart.{orders_apart}

pub itself : (a : ℕ) → cross_le a a ≡ true
itself a = halves-le a a (omega arith) (omega arith)

meet-le : (a b : ℕ) → cross_le (cross_meet a b) a ≡ true
meet-le a b =
    halves-le (cross_meet a b) a
    (rw (upper-packed (min (upper a) (upper b)) (min (lower a) (lower b)) (omega arith)) (omega arith))
    (rw (lower-packed (min (upper a) (upper b)) (min (lower a) (lower b)) (omega arith)) (omega arith))

meet-le_too : (a b : ℕ) → cross_le (cross_meet a b) b ≡ true
meet-le_too a b =
    halves-le (cross_meet a b) b
    (rw (upper-packed (min (upper a) (upper b)) (min (lower a) (lower b)) (omega arith)) (omega arith))
    (rw (lower-packed (min (upper a) (upper b)) (min (lower a) (lower b)) (omega arith)) (omega arith))

-- what all have admitted
abbrev pub joined : List ℕ → ℕ
joined [] = 0
joined (value ∷ values) = cross_join value (joined values)

abbrev admitted_all : List Standing → ℕ
admitted_all [] = 0
admitted_all (standing ∷ standings) = cross_join standing.admitted (admitted_all standings)

fold-joined : (start : ℕ) (values : List ℕ) → fold cross_join start values ≡ cross_join start (joined values)
fold-joined start [] = sym (join_unit start).1
fold-joined start (value ∷ values) =
    fold-joined (cross_join start value) values ∙ join_regroups start value (joined values)

pub whole-joined : (values : List ℕ) → whole_of cross_join 0 values ≡ joined values
whole-joined values = fold-joined 0 values ∙ (join_unit (joined values)).0

joined-admitted : (standings : List Standing)
    → joined (map (λ (standing : Standing). standing.admitted) standings) ≡ admitted_all standings
joined-admitted [] = refl
joined-admitted (standing ∷ standings) =
    ap (λ n. cross_join standing.admitted n) (joined-admitted standings)

join_is_admitted : (standings : List Standing) → admitted_join standings ≡ admitted_all standings
join_is_admitted standings =
    whole-joined (map (λ (standing : Standing). standing.admitted) standings)
    ∙ joined-admitted standings

-- what is at most a clear value is clear
below_clear : (p q P Q : ℕ) → p ≤ P → q ≤ Q
    → (P == 0 || (Q == 0 || nat_lt (P + Q) HALF)) ≡ true
    → (p == 0 || (q == 0 || nat_lt (p + q) HALF)) ≡ true
below_clear p q P Q one two clear = grind arith

clear-below : (a b : ℕ) → cross_le a b ≡ true → is_clear b ≡ true → is_clear a ≡ true
clear-below a b less clear =
    let halves = le-halves a b less in
    below_clear (upper a) (lower a) (upper b) (lower b) halves.0 halves.1 clear

-- each session has posted its component of the array, and admitted no more
abbrev Matches : List Standing → List ℕ → Type 0
Matches [] values = Unit {0}
Matches (standing ∷ standings) [] = ⊥
Matches (standing ∷ standings) (value ∷ values) =
    (standing.posted ≡ value) × (cross_le standing.admitted value ≡ true) × Matches standings values

zero-le : (a : ℕ) → cross_le 0 a ≡ true
zero-le a = halves-le 0 a (omega arith) (omega arith)

admitted_below_array : (standings : List Standing) (values : List ℕ) → Matches standings values
    → cross_le (admitted_all standings) (joined values) ≡ true
admitted_below_array [] values match = zero-le (joined values)
admitted_below_array (standing ∷ standings) [] match = absurd match
admitted_below_array (standing ∷ standings) (value ∷ values) match =
    join-rises standing.admitted value (admitted_all standings) (joined values) match.1
    (admitted_below_array standings values match.2)

-- a post keeps the match, and raises nothing
Matches-post : (session value : ℕ) (standings : List Standing) (values : List ℕ)
    → Matches standings values
    → Matches (after_moment standings (Posts session value)) (slice_set values session value)
Matches-post session value [] values match = tt
Matches-post session value (standing ∷ standings) [] match = absurd match
Matches-post zero value (standing ∷ standings) (x ∷ values) match =
    (refl, meet-le_too standing.admitted value, match.2)
Matches-post (suc session) value (standing ∷ standings) (x ∷ values) match =
    (match.0, match.1, Matches-post session value standings values match.2)

admitted_all-post : (session value : ℕ) (standings : List Standing)
    → cross_le (admitted_all (after_moment standings (Posts session value))) (admitted_all standings)
    ≡ true
admitted_all-post session value [] = itself 0
admitted_all-post zero value (standing ∷ standings) =
    join-rises (cross_meet standing.admitted value) standing.admitted (admitted_all standings)
    (admitted_all standings) (meet-le standing.admitted value) (itself (admitted_all standings))
admitted_all-post (suc session) value (standing ∷ standings) =
    join-rises standing.admitted standing.admitted
    (admitted_all (after_moment standings (Posts session value))) (admitted_all standings)
    (itself standing.admitted) (admitted_all-post session value standings)

-- a read keeps the match, whether it is clear or not
read_match : (clears : Bool) (standing : Standing) (value : ℕ) → standing.posted ≡ value
    → cross_le standing.admitted value ≡ true
    → cross_le (cond clears standing.posted standing.admitted) value ≡ true
read_match true standing value posted admitted = rw posted (itself value)
read_match false standing value posted admitted = admitted

Matches-read : (session value : ℕ) (standings : List Standing) (values : List ℕ)
    → Matches standings values → Matches (after_moment standings (Reads session value)) values
Matches-read session value [] values match = tt
Matches-read session value (standing ∷ standings) [] match = absurd match
Matches-read zero value (standing ∷ standings) (x ∷ values) match =
    (match.0, read_match (is_clear value) standing x match.0 match.1, match.2)
Matches-read (suc session) value (standing ∷ standings) (x ∷ values) match =
    (match.0, match.1, Matches-read session value standings values match.2)

-- a read that isn't clear changes nothing
read_same : (session value : ℕ) (standings : List Standing) → is_clear value ≡ false
    → after_moment standings (Reads session value) ≡ standings
read_same session value [] unclear = refl
read_same zero value (standing ∷ standings) unclear = rw unclear refl
read_same (suc session) value (standing ∷ standings) unclear =
    ap (λ s. standing ∷ s) (read_same session value standings unclear)

abbrev IsClear : List Standing → Type 0
IsClear standings = is_clear (admitted_all standings) ≡ true

abbrev Keeps : List Standing → List ℕ → Type 0
Keeps standings values = Matches standings values × IsClear standings

after_clear_post : (standings : List Standing) (values : List ℕ) (session value : ℕ)
    → Keeps standings values
    → Keeps (after_moment standings (Posts session value)) (slice_set values session value)
after_clear_post standings values session value keeps = (
  Matches-post session value standings values keeps.0,
  clear-below (admitted_all (after_moment standings (Posts session value))) (admitted_all standings)
      (admitted_all-post session value standings) keeps.1,
)

read_clear : (session : ℕ) (standings : List Standing) (values : List ℕ)
    → Keeps standings values → (clears : Bool) → is_clear (joined values) ≡ clears
    → IsClear (after_moment standings (Reads session (joined values)))
read_clear session standings values keeps true is =
    clear-below (admitted_all (after_moment standings (Reads session (joined values)))) (joined values)
    (admitted_below_array (after_moment standings (Reads session (joined values))) values
    (Matches-read session (joined values) standings values keeps.0)) is
read_clear session standings values keeps false is =
    rw (read_same session (joined values) standings is) keeps.1

after_any_read : (standings : List Standing) (values : List ℕ) (session : ℕ)
    → Keeps standings values
    → Keeps (after_moment standings (Reads session (whole_of cross_join 0 values))) values
after_any_read standings values session keeps =
    rw (whole-joined values) (
      Matches-read session (joined values) standings values keeps.0,
      read_clear session standings values keeps (is_clear (joined values)) refl,
    )

Matches-opening : (sessions components : ℕ) → sessions ≤ components
    → Matches (replicate sessions nothing) (replicate components 0)
Matches-opening zero components few = tt
Matches-opening (suc sessions) zero few = absurd (omega arith)
Matches-opening (suc sessions) (suc components) few =
    (refl, itself 0, Matches-opening sessions components (omega arith))

admitted_all-opening : (sessions : ℕ) → admitted_all (replicate sessions nothing) ≡ 0
admitted_all-opening zero = refl
admitted_all-opening (suc sessions) = rw (admitted_all-opening sessions) refl

pub legal_stays_clear : (components : ℕ) (lines : List Line) (events : List (List Event))
    → IsLegal (whole_of cross_join 0) 0 components lines events
    → StaysClear (length events) lines events
legal_stays_clear components lines events legal count =
    rw (join_is_admitted (standings_after (length events) (take count (moments lines events))))
    (holds_at_each (whole_of cross_join 0) 0 components (List Standing) after_moment Keeps IsClear
    (λ standings values keeps. keeps.1) after_clear_post after_any_read lines events
    (replicate (length events) nothing) legal (
      Matches-opening (length events) components legal.few,
      rw (admitted_all-opening (length events)) refl,
    ) count)

-- what one session has admitted is in what all have
join-upper_bound : (a b : ℕ) → cross_le a (cross_join a b) ≡ true
join-upper_bound a b =
    halves-le a (cross_join a b) (rw (upper-join a b) (omega arith))
    (rw (lower-join a b) (omega arith))

join-upper_bound_too : (a b : ℕ) → cross_le b (cross_join a b) ≡ true
join-upper_bound_too a b =
    halves-le b (cross_join a b) (rw (upper-join a b) (omega arith))
    (rw (lower-join a b) (omega arith))

admitted-le_all : (session : ℕ) (standings : List Standing)
    → cross_le (standing_at session standings).admitted (admitted_all standings) ≡ true
admitted-le_all session [] = zero-le 0
admitted-le_all zero (standing ∷ standings) =
    join-upper_bound standing.admitted (admitted_all standings)
admitted-le_all (suc session) (standing ∷ standings) =
    le-through (standing_at session standings).admitted (admitted_all standings)
    (cross_join standing.admitted (admitted_all standings)) (admitted-le_all session standings)
    (join-upper_bound_too standing.admitted (admitted_all standings))

-- an order that a session has admitted is in what all have
covered_by_all : (row : SymbolRow) (order : PricedOrder) (session : ℕ) (standings : List Standing)
    → IsCovered row order (standing_at session standings).admitted
    → IsCovered row order (admitted_join standings)
covered_by_all row order session standings covered =
    rw (join_is_admitted standings)
    (le-through (value_of_order row order.side order.kind order.price)
    (standing_at session standings).admitted (admitted_all standings) covered
    (admitted-le_all session standings))

pub never_cross : (components : ℕ) (lines : List Line) (events : List (List Event))
    → IsLegal (whole_of cross_join 0) 0 components lines events → NeverCross lines events
never_cross components lines events legal = λ count buyer seller row buy sell opposed buys sells.
    let now = standings_after (length events) (take count (moments lines events)) in
    orders_apart row (admitted_join now) buy sell opposed
    (legal_stays_clear components lines events legal count)
    (covered_by_all row buy buyer now buys) (covered_by_all row sell seller now sells)
