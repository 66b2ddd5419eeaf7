-- one session more is told
use Rattle.std.proofs.Common.{◌≡◌, ◌+◌, ◌∙◌, map, sym, ap, length, arith}
use Rattle.journal_check.specs.Buckets.{tree_value}
use Rattle.journal_check.proofs.Counts.{count_next, count_own}
use Rattle.journal_check.proofs.Filled.{session_told, sessions_to_end}
use Rattle.journal_check.proofs.Kept.{kept, kept_count, kept_own}
use Rattle.journal_check.proofs.tree_acts.add_sessions.Goals as goal

pub add_acts-requires : goal.add_acts-requires
add_acts-requires c =
    let at = kept_own c.args.acts.now c.loop-own.own-index c.own-item.result c.loop-own-test.true c.own-item.is in
    omega (
      arith,
      c.requires.rows,
      c.loop-own.invariant.row,
      ap length at,
      ap length c.deref.ensures.value,
      count_own (kept c.args.acts.now) c.loop-own.own-index,
    )

long : (c : goal.After-len) → c.len.result ≡ length c.own-item.result.items
long c = c.len.ensures ∙ sym c.deref.ensures.len ∙ ap length c.deref.ensures.value

pub overflow_cast-row : goal.overflow_cast-row
overflow_cast-row c =
    let at = kept_own c.args.acts.now c.loop-own.own-index c.own-item.result c.loop-own-test.true c.own-item.is in
    omega (arith, c.requires.rows, long c, ap length at, count_own (kept c.args.acts.now) c.loop-own.own-index)

pub overflow_add-row : goal.overflow_add-row
overflow_add-row c =
    let at = kept_own c.args.acts.now c.loop-own.own-index c.own-item.result c.loop-own-test.true c.own-item.is in
    omega (
      arith,
      c.requires.rows,
      c.loop-own.invariant.row,
      long c,
      ap length at,
      count_own (kept c.args.acts.now) c.loop-own.own-index,
    )

pub loop-own-preserved : goal.loop-own-preserved
loop-own-preserved c =
    let at = kept_own c.args.acts.now c.loop-own.own-index c.own-item.result c.loop-own-test.true c.own-item.is in
    record {
      session = ap (λ n. n + 1) c.loop-own.invariant.session;
      row = omega (
        arith,
        c.loop-own.invariant.row,
        long c,
        ap length at,
        count_next (kept c.args.acts.now) c.loop-own.own-index,
      );
      told = session_told c.loop-own.session c.loop-own.row (map tree_value c.loop-own.trees)
          (map tree_value c.begin_session.new.trees) (map tree_value c.add_acts.new.trees)
          (kept c.args.acts.now) c.loop-own.own-index c.len.result c.deref.result.now
          (omega (arith, c.loop-own-test.true, kept_count c.args.acts.now))
          (at ∙ sym c.deref.ensures.value) (long c ∙ sym (ap length c.deref.ensures.value))
          c.begin_session.ensures c.in_ok-add_acts.ensures
          ∙ c.loop-own.invariant.told;
    }

pub returns : goal.returns
returns c =
    sym (sessions_to_end c.loop-own.session c.loop-own.row (map tree_value c.loop-own.trees)
    (kept c.args.acts.now) c.loop-own.own-index
    (omega (arith, c.loop-own-test.false, kept_count c.args.acts.now)))
    ∙ c.loop-own.invariant.told
