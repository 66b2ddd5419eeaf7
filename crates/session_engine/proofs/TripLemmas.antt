-- A refusal that trips the halt tree: how often it was tripped, and what stays.
use Rattle.std.proofs.Common.{◌≡◌, ℕ, ◌+◌, ◌≤◌, ◌==◌, List, refl, sym, ap, ◌∙◌, arith, Bool, true}
use Rattle.std.proofs.Common.{false, cond, ◌&&◌, Option, Some, None, nat_le, nat_lt}
use Rattle.std.proofs.lemmas.Bool.{eq-eqb}
use Rattle.std.proofs.lemmas.Bool.Decides.{nat_tests}
use Rattle.risk_journal.specs.declared.acts.Act.{Act}
use Rattle.risk_journal.specs.ActLists.{posts_in}
use Rattle.admit_core.specs.Tapes.{with_post}
use Rattle.limit_table.specs.Trees.{LimitsValue, halt_tree}
use Rattle.admit_core.proofs.Standings.{posts_in-own}
use Rattle.exposure_book.specs.Books.{BookValue}
use Rattle.order_desk.specs.declared.refusal.Refusal.{Refusal}
use Rattle.order_desk.specs.Backing.{Covers}
use Rattle.order_desk.proofs.Covers.{covers_tripped}
use Rattle.session_engine.specs.Trips.{is_firm, firms_after, is_trip_number, is_trip, acts_tripped}
use Rattle.session_engine.specs.Trips.{is_reached, trips_by}

-- before the first frame the halt tree isn't tripped
pub no_trip : (trip : Option ℕ) → ◌≡◌ {A = ℕ} 0 (trips_by trip 0)
no_trip None = refl
no_trip (Some number) =
    let none : (nat_le number 0 && nat_lt 0 number) ≡ false = grind (arith, nat_tests) in
    rw none refl

-- below the trip number, at it, and elsewhere
below_number : (number firms : ℕ) → (firms + 1 == number) ≡ true
    → is_reached (Some number) firms ≡ false
below_number number firms is =
    let low : nat_le number firms ≡ false = grind (arith, nat_tests) in rw low refl

at_number : (number firms : ℕ) → (firms + 1 == number) ≡ true
    → is_reached (Some number) (firms + 1) ≡ true
at_number number firms is =
    let high : nat_le number (firms + 1) ≡ true = grind (arith, nat_tests) in
    let some : nat_lt 0 number ≡ true = grind (arith, nat_tests) in rw (high, some) refl

off_number : (number firms : ℕ) → (firms + 1 == number) ≡ false
    → is_reached (Some number) (firms + 1) ≡ is_reached (Some number) firms
off_number number firms other =
    let same : nat_le number (firms + 1) ≡ nat_le number firms = grind (arith, nat_tests) in
    rw same refl

-- where a refusal trips the halt tree, it wasn't tripped before
pub untripped : (trip : Option ℕ) (firms posts : ℕ) → is_trip_number trip (firms + 1) ≡ true
    → posts ≡ trips_by trip firms → posts ≡ 0
untripped None firms posts is posts_are = absurd cc
untripped (Some number) firms posts is posts_are =
    posts_are ∙ ap (λ b. cond b 1 0) (below_number number firms is)

-- after a refusal the halt tree was tripped as often as the count says
module _ (limits : LimitsValue) (firms : ℕ) (acts : List Act) where
  abbrev halt : ℕ
  halt = halt_tree limits

  by_number : (number : ℕ) (test : Bool) → (firms + 1 == number) ≡ test
      → posts_in halt acts ≡ trips_by (Some number) firms
      → posts_in halt (cond test (with_post halt 1 acts) acts) ≡ trips_by (Some number) (firms + 1)
  by_number number true is posts_are =
      posts_in-own halt halt 1 acts (eq-eqb halt halt refl)
      ∙ ap (λ n. n + 1) (untripped (Some number) firms (posts_in halt acts) is posts_are)
      ∙ ap (λ b. cond b 1 0) (sym (at_number number firms is))
  by_number number false is posts_are =
      posts_are ∙ ap (λ b. cond b 1 0) (sym (off_number number firms is))

  by_trip : (trip : Option ℕ) (firm : Bool) → posts_in halt acts ≡ trips_by trip firms
      → posts_in halt
      (cond (firm && is_trip_number trip (firms + 1)) (with_post halt 1 acts) acts)
      ≡ trips_by trip (cond firm (firms + 1) firms)
  by_trip trip false posts_are = posts_are
  by_trip None true posts_are = posts_are
  by_trip (Some number) true posts_are =
      by_number number (firms + 1 == number) refl posts_are

  pub tripped_posts : (refusal : Option Refusal) → posts_in halt acts ≡ trips_by limits.trip firms
      → posts_in halt (acts_tripped limits refusal firms acts)
      ≡ trips_by limits.trip (firms_after refusal firms)
  tripped_posts refusal posts_are = by_trip limits.trip (is_firm refusal) posts_are

  -- tripped or not, a book stays covered
  pub covers_refused : (refusal : Option Refusal) (book : BookValue) → Covers limits acts book
      → Covers limits (acts_tripped limits refusal firms acts) book
  covers_refused refusal book covers = by_test (is_trip limits refusal firms)
    where
      by_test : (test : Bool) → Covers limits (cond test (with_post halt 1 acts) acts) book
      by_test true = covers_tripped limits 1 acts book covers
      by_test false = covers

-- at most one refusal more
pub firms_most : (refusal : Option Refusal) (firms : ℕ) → firms_after refusal firms ≤ firms + 1
firms_most refusal firms = grind (arith, nat_tests)
