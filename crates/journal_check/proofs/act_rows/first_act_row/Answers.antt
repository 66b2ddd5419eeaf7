-- the first act with the fault stands in the first such row
use Rattle.std.proofs.Common.{◌≡◌, ◌<◌, ◌+◌, ◌∙◌, List, sym, subst, ap, length, arith}
use Rattle.std.proofs.lemmas.Option.{slice_get_within}
use Rattle.risk_journal.specs.declared.acts.Act.{Act}
use Rattle.journal_check.specs.ActFaults.{Has, IsFirstHas, NoneHas}
use Rattle.journal_check.proofs.Counts.{count_next, count_own}
use Rattle.journal_check.proofs.FirstActs.{none_more, none_at_all, first_of_all}
use Rattle.journal_check.proofs.Kept.{kept, kept_count, kept_own, kept_at}
use Rattle.journal_check.proofs.act_rows.first_act_row.Goals as goal

first : (c : goal.In-Some) → IsFirstHas (Has c.args.fault) c.own-item.result.items c.in-Some.index
first c =
    subst (λ (own : List Act). IsFirstHas (Has c.args.fault) own c.in-Some.index) c.deref.ensures.value
    c.in-Some.ensures.found

inside : (c : goal.In-Some)
    → c.in-Some.index < length c.own-item.result.items
inside c =
    let is = first c in slice_get_within c.own-item.result.items c.in-Some.index is.item is.at

pub overflow_cast-result : goal.overflow_cast-result
overflow_cast-result c =
    let at = kept_own c.args.acts.now c.loop-own.own-index c.own-item.result c.loop-own-test.true c.own-item.is in
    omega (arith, c.requires, inside c, ap length at, count_own (kept c.args.acts.now) c.loop-own.own-index)

pub overflow_add-result : goal.overflow_add-result
overflow_add-result c =
    let at = kept_own c.args.acts.now c.loop-own.own-index c.own-item.result c.loop-own-test.true c.own-item.is in
    omega (
      arith,
      c.requires,
      c.loop-own.invariant.row,
      inside c,
      ap length at,
      count_own (kept c.args.acts.now) c.loop-own.own-index,
    )

pub returns-in-Some-clause-found : goal.returns-in-Some-clause-found
returns-in-Some-clause-found c =
    first_of_all (Has c.args.fault) (kept c.args.acts.now) c.loop-own.own-index c.in-Some.index
    (c.loop-own.row + c.in-Some.index) c.own-item.result.items
    (kept_at c.args.acts.now c.loop-own.own-index c.own-item.result c.loop-own-test.true c.own-item.is)
    c.loop-own.invariant.none (first c) (ap (λ n. n + c.in-Some.index) c.loop-own.invariant.row)

long : (c : goal.After-len) → c.len.result ≡ length c.own-item.result.items
long c = c.len.ensures ∙ sym c.deref.ensures.len ∙ ap length c.deref.ensures.value

pub overflow_cast-row : goal.overflow_cast-row
overflow_cast-row c =
    let at = kept_own c.args.acts.now c.loop-own.own-index c.own-item.result c.loop-own-test.true c.own-item.is in
    omega (arith, c.requires, long c, ap length at, count_own (kept c.args.acts.now) c.loop-own.own-index)

pub overflow_add-row : goal.overflow_add-row
overflow_add-row c =
    let at = kept_own c.args.acts.now c.loop-own.own-index c.own-item.result c.loop-own-test.true c.own-item.is in
    omega (
      arith,
      c.requires,
      c.loop-own.invariant.row,
      long c,
      ap length at,
      count_own (kept c.args.acts.now) c.loop-own.own-index,
    )

pub loop-own-preserved : goal.loop-own-preserved
loop-own-preserved c =
    let at = kept_own c.args.acts.now c.loop-own.own-index c.own-item.result c.loop-own-test.true c.own-item.is in
    record {
      row = omega (
        arith,
        c.loop-own.invariant.row,
        long c,
        ap length at,
        count_next (kept c.args.acts.now) c.loop-own.own-index,
      );
      none = none_more (Has c.args.fault) (kept c.args.acts.now) c.loop-own.own-index
          c.own-item.result.items
          (kept_at c.args.acts.now c.loop-own.own-index c.own-item.result c.loop-own-test.true c.own-item.is)
          c.loop-own.invariant.none
          (subst (NoneHas (Has c.args.fault)) c.deref.ensures.value
          (c.first_of.ensures.none c.in_default.is));
    }

pub returns-clause-none : goal.returns-clause-none
returns-clause-none c = λ none.
    none_at_all (Has c.args.fault) (kept c.args.acts.now) c.loop-own.own-index
    (omega (arith, c.loop-own-test.false, kept_count c.args.acts.now)) c.loop-own.invariant.none
