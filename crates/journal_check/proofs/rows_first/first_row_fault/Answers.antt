-- the first of the faults that rows have by themselves
use Rattle.std.proofs.Common.{ℕ, subst, arith, inl, inr, refl}
use Rattle.journal_check.specs.FarRows.{IsEarlyRow}
use Rattle.journal_check.specs.Firsts.{IsFirstRow}
use Rattle.journal_check.proofs.Kept.{kept, kept_count}
use Rattle.journal_check.proofs.rows_first.first_row_fault.Goals as goal

pub returns-in-Some-clause-found : goal.returns-in-Some-clause-found
returns-in-Some-clause-found c =
    let ok = c.args.told.now.acts.ok in
    inr (inl (record {
      kind_is = refl;
      count = omega (arith, c.len.ensures, c.if-len-sessions.false, kept_count c.args.told.now.acts.items);
      first = subst (λ a. IsFirstRow (IsEarlyRow (kept a)) c.in-Some.row) c.deref.ensures.value
          c.in-Some.ensures.found;
    }))

pub returns-in-Some-first_far_row-clause-found : goal.returns-in-Some-first_far_row-clause-found
returns-in-Some-first_far_row-clause-found c =
    let ok = c.args.told.now.acts.ok in
    inr (inr (record {
      kind_is = refl;
      count = omega (arith, c.len.ensures, c.if-len-sessions.false, kept_count c.args.told.now.acts.items);
      no_early = subst (λ a. (row : ℕ) → ¬ IsEarlyRow (kept a) row) c.deref.ensures.value
          (c.first_act_row.ensures.none c.in_default.is);
      first = c.in-Some-first_far_row.ensures.found;
    }))

pub returns-in-None-clause-none : goal.returns-in-None-clause-none
returns-in-None-clause-none c = λ none.
    let ok = c.args.told.now.acts.ok in
    record {
      count = omega (arith, c.len.ensures, c.if-len-sessions.false, kept_count c.args.told.now.acts.items);
      no_early = subst (λ a. (row : ℕ) → ¬ IsEarlyRow (kept a) row) c.deref.ensures.value
          (c.first_act_row.ensures.none c.in_default.is);
      no_far = c.first_far_row.ensures.none c.in-None.is;
    }
