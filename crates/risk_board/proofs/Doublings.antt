-- How many components an array has: enough for its sessions, and no more than the most sessions.
use Rattle.std.proofs.Common.{◌≡◌, ℕ, ◌+◌, ◌*◌, ◌<◌, ◌≤◌, Bool, true, false, cond, zero, suc}
use Rattle.std.proofs.Common.{refl, ap, sym, ◌∙◌, arith}
use Rattle.std.specs.Prelude.{nat_lt}
use Rattle.std.proofs.lemmas.Bool.{ltb-true, ltb-false, lt-ltb, le-ltb}
use Rattle.fold_law.specs.declared.limits.TheConstants.{SESSIONS}
use Rattle.risk_board.specs.History.{doubled, components_of}

enough_by_case : (times power least : ℕ) (b : Bool) → nat_lt power least ≡ b
    → least ≤ doubled times (2 * power) least
    → least ≤ cond b (doubled times (2 * power) least) power
enough_by_case times power least true test enough = enough
enough_by_case times power least false test enough = ltb-false power least test

doubled_is_enough : (times power least : ℕ) → least ≤ power + times → 1 ≤ power
    → least ≤ doubled times power least
doubled_is_enough zero power least enough some = omega arith
doubled_is_enough (suc times) power least enough some =
    enough_by_case times power least (nat_lt power least) refl
    (doubled_is_enough times (2 * power) least (omega arith) (omega arith))

-- each session has a component
pub sessions_have_components : (sessions : ℕ) → sessions ≤ components_of sessions
sessions_have_components sessions = doubled_is_enough sessions 1 sessions (omega arith) (omega arith)

grows_by_case : (times power least : ℕ) (b : Bool) → 2 * power ≤ doubled times (2 * power) least
    → power ≤ cond b (doubled times (2 * power) least) power
grows_by_case times power least true grows = omega arith
grows_by_case times power least false grows = omega arith

doubled_grows : (times power least : ℕ) → power ≤ doubled times power least
doubled_grows zero power least = omega arith
doubled_grows (suc times) power least =
    grows_by_case times power least (nat_lt power least) (doubled_grows times (2 * power) least)

more_by_case : (n m power low high : ℕ) (b c : Bool) → nat_lt power n ≡ b → nat_lt power m ≡ c
    → n ≤ m → low ≤ high → power ≤ high → cond b low power ≤ cond c high power
more_by_case n m power low high true true test also le more above = more
more_by_case n m power low high true false test also le more above =
    let below : power < n = ltb-true power n test in
    let reached : m ≤ power = ltb-false power m also in
    absurd (omega arith)
more_by_case n m power low high false true test also le more above = above
more_by_case n m power low high false false test also le more above = omega arith

doubled_of_more : (times more power n m : ℕ) → times ≤ more → n ≤ m
    → doubled times power n ≤ doubled more power m
doubled_of_more zero more power n m fewer le = doubled_grows more power m
doubled_of_more (suc times) zero power n m fewer le = absurd (omega arith)
doubled_of_more (suc times) (suc more) power n m fewer le =
    let grows : 2 * power ≤ doubled more (2 * power) m = doubled_grows more (2 * power) m in
    more_by_case n m power _ _ (nat_lt power n) (nat_lt power m) refl refl le
    (doubled_of_more times more (2 * power) n m (omega arith) le) (omega arith)

-- there are no more components than the most sessions, which are a power of two
pub components_are_few : (sessions : ℕ) → sessions ≤ SESSIONS → components_of sessions ≤ SESSIONS
components_are_few sessions few =
    doubled_of_more sessions SESSIONS 1 sessions SESSIONS few few

-- one doubling while the power is below the least
pub doubled_once : (times power least : ℕ) → power < least → 1 ≤ power → least ≤ power + times
    → (fewer : ℕ) × (doubled fewer (power * 2) least ≡ doubled times power least)
    × (least ≤ power * 2 + fewer)
doubled_once zero power least below some enough = absurd (omega arith)
doubled_once (suc times) power least below some enough =
    let twice : power * 2 ≡ 2 * power = omega arith in
    let later = doubled times (2 * power) least in (
      times,
      ap (λ n. doubled times n least) twice
          ∙ sym (ap (λ b. cond b later power) (lt-ltb power least below)),
      omega arith,
    )

-- no doubling from there on
pub doubled_never : (times power least : ℕ) → least ≤ power → doubled times power least ≡ power
doubled_never zero power least reached = refl
doubled_never (suc times) power least reached =
    ap (λ b. cond b (doubled times (2 * power) least) power) (le-ltb power least reached)
