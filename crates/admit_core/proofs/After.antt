-- The same hands, some acts later and then some more.
use Rattle.std.proofs.Common.{ℕ, ◌+◌, ◌≤◌, ◌∙◌, arith}
use Rattle.limit_table.specs.Trees.{LimitsValue}
use Rattle.admit_core.specs.Hands.{HandsValue, IsAfter, IsOver}

module _ {H M : Type 0} (SameSum : H → H → Type 0) (SameHalt : M → M → Type 0) where
  pub later : ((a b c : H) → SameSum a b → SameSum b c → SameSum a c)
      → ((a b c : M) → SameHalt a b → SameHalt b c → SameHalt a c)
      → {a b c : HandsValue H M} {acts more : ℕ} (most : ℕ)
      → IsAfter SameSum SameHalt a b acts → IsAfter SameSum SameHalt b c more
      → acts + more ≤ most → IsAfter SameSum SameHalt a c most
  later next_sum next_halt most one two few = record {
    halt_tree_is = two.halt_tree_is ∙ one.halt_tree_is;
    quota_is = two.quota_is ∙ one.quota_is;
    sum_is = next_sum _ _ _ one.sum_is two.sum_is;
    halt_is = next_halt _ _ _ one.halt_is two.halt_is;
    room = omega (arith, one.room, two.room, few);
    few = omega (arith, one.few, two.few, few);
  }

  -- they are still over the trees of the limits
  pub still_over : {a b : HandsValue H M} {acts : ℕ} (limits : LimitsValue) → IsOver limits a
      → IsAfter SameSum SameHalt a b acts → IsOver limits b
  still_over limits over after = record {
    halt_tree_is = after.halt_tree_is ∙ over.halt_tree_is;
    quota_is = after.quota_is ∙ over.quota_is;
  }
