use Rattle.std.proofs.Common.{◌≡◌, ◌+◌, ◌∙◌, arith, ap, length, true, refl}
use Rattle.frame_run.specs.Ends.{input_most}
use Rattle.frame_run.proofs.Fetches.{more_next, more_fetched, looks_within, looks_past, fails_ahead}
use Rattle.frame_run.proofs.Fetches.{held_same}
use Rattle.frame_run.proofs.ahead.look_ahead.Goals as goal

pub returns-then-not-may_change-clause-ok : goal.returns-then-not-may_change-clause-ok
returns-then-not-may_change-clause-ok g c =
    let m = more_next _ _ _ _ _ _ c.loop-next.invariant.more c.next-next.ensures in
    looks_within _ _ _ _ _ c.next-next.result m c.next-next.ensures.most c.next-next.ensures.finds
    (λ may. let yes : c.may_change.result ≡ true = c.may_change.ensures.1 may in absurd cc)

pub returns-then-have-eq-INPUT_MOST-clause-ok : goal.returns-then-have-eq-INPUT_MOST-clause-ok
returns-then-have-eq-INPUT_MOST-clause-ok g c =
    let m = more_next _ _ _ _ _ _ c.loop-next.invariant.more c.next-next.ensures in
    let all : c.next-next.new.self.base + length c.next-next.new.self.held ≡ input_most = omega (
      arith,
      c.if-have-eq-INPUT_MOST.true,
      c.base.ensures,
      ap length c.bytes.ensures.held,
    ) in
    looks_past _ _ _ _ _ _ c.next-next.result _
    (c.may_change.ensures.0 c.if-not-may_change.false) m c.next-next.ensures.most
    c.next-next.ensures.finds all c.in_ok-goes_on.ensures.ok

pub overflow_sub-have : goal.overflow_sub-have
overflow_sub-have g c =
    let m = more_next _ _ _ _ _ _ c.loop-next.invariant.more c.next-next.ensures in
    omega (arith, m.few, c.base.ensures, ap length c.bytes.ensures.held)

pub fetch_into-requires-clause-some : goal.fetch_into-requires-clause-some
fetch_into-requires-clause-some g c =
    let m = more_next _ _ _ _ _ _ c.loop-next.invariant.more c.next-next.ensures in
    omega (
      arith,
      m.few,
      c.base.ensures,
      ap length c.bytes.ensures.held,
      c.if-have-eq-INPUT_MOST.false,
    )

pub returns-then-branch-eq0-clause-ok : goal.returns-then-branch-eq0-clause-ok
returns-then-branch-eq0-clause-ok g c =
    let m = more_next _ _ _ _ _ _ c.loop-next.invariant.more c.next-next.ensures in
    let f = c.in_ok-fetch_into.ensures.bytes in
    let none = c.if-branch-eq0.true in
    let same = held_same _ _ _ _ _ _ f none in
    let grown = more_fetched _ _ _ _ _ _ _ _ m f
    (omega (arith, m.few, c.base.ensures, ap length c.bytes.ensures.held)) in
    looks_within _ _ _ _ _ c.next-next.result grown
    (omega (arith, c.next-next.ensures.most, ap length same))
    (rw same c.next-next.ensures.finds)
    (λ may. c.in_ok-fetch_into.ensures.end none)

pub loop-next-preserved : goal.loop-next-preserved
loop-next-preserved g c =
    let m = more_next _ _ _ _ _ _ c.loop-next.invariant.more c.next-next.ensures in
    let f = c.in_ok-fetch_into.ensures.bytes in
    record {
      more = more_fetched _ _ _ _ _ _ _ _ m f
          (omega (arith, m.few, c.base.ensures, ap length c.bytes.ensures.held));
      later = omega (arith, c.loop-next.invariant.later, c.in_ok-fetch_into.ensures.cause.later);
      name = c.in_ok-fetch_into.ensures.name ∙ c.loop-next.invariant.name;
    }

-- a read failed
pub returns-in_err-goes_on-clause-fails : goal.returns-in_err-goes_on-clause-fails
returns-in_err-goes_on-clause-fails g c = λ err.
    let m = more_next _ _ _ _ _ _ c.loop-next.invariant.more c.next-next.ensures in
    fails_ahead _ _ _ _ _ c.next-next.new.self c.next-next.result m
    (c.in_err-goes_on.ensures.none refl) c.next-next.ensures.finds
    (c.may_change.ensures.0 c.if-not-may_change.false) refl refl

pub returns-in_err-fetch_into-clause-fails : goal.returns-in_err-fetch_into-clause-fails
returns-in_err-fetch_into-clause-fails g c = λ err.
    let m = more_next _ _ _ _ _ _ c.loop-next.invariant.more c.next-next.ensures in
    let same = c.in_err-fetch_into.ensures.held refl in
    fails_ahead _ _ _ _ _ c.fetch_into.new.buffer c.next-next.result m
    (c.in_err-fetch_into.ensures.none refl) c.next-next.ensures.finds
    (c.may_change.ensures.0 c.if-not-may_change.false) same.0 same.1
