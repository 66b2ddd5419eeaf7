-- A session goes on from what it did before it answered.
use Rattle.std.proofs.Common.{ℕ, ◌+◌, ◌≤◌, List, refl}
use Rattle.cross_guard.specs.Crossing.{Continues, Crossing}
use Rattle.cross_guard.specs.Lasting.{continues_then, same_sink}
use Rattle.cross_guard.specs.Resting.{RestingValue}
use Rattle.cross_guard.specs.Told.{IsAfter, ToldValue}
use Rattle.cross_guard.proofs.Taking.{done_so_far}

module _ {H : Type 0} (Same : H → H → Type 0)
    (next : (a b c : H) → Same a b → Same b c → Same a c) where
  -- the hand made calls, and orders changed
  pub continues_done : (before : Crossing H) (told : ToldValue H) (orders : List RestingValue)
      (acts : ℕ) → IsAfter Same before.told told acts
      → Continues Same before (done_so_far told orders before) acts
  continues_done before told orders acts after = record {
    limits_are = refl;
    told_is = after;
    pass_is = same_sink before.pass;
    client_is = same_sink before.client;
  }

  -- and it was answered
  pub continues_answered : (before : Crossing H) (told : ToldValue H) (orders : List RestingValue)
      (now : Crossing H) (acts more most : ℕ) → IsAfter Same before.told told acts
      → Continues Same (done_so_far told orders before) now more → acts + more ≤ most
      → Continues Same before now most
  continues_answered before told orders now acts more most after answered few =
      continues_then Same next before (done_so_far told orders before) now acts more most
      (continues_done before told orders acts after) answered few
