-- The reads of a place, and its line.
use Rattle.std.proofs.Common.{ℕ, List, length, sym, subst, arith}
use Rattle.risk_board.specs.declared.hand.Line.{Line}
use Rattle.tree_check.specs.declared.read_at.ReadAt.{ReadAt}
use Rattle.tree_check.specs.Reads.{AreOf}
use Rattle.tree_check.specs.Staying.{standing_values}
use Rattle.tree_check.proofs.Bucketed.{one_of}
use Rattle.tree_check.proofs.PlaceSteps.{kept, kept_in, kept_long, reads_passed}
use Rattle.tree_check.proofs.PlaceSteps.{line_passed, goes_on}
use Rattle.tree_check.proofs.staying.lines_stay.Goals as goal

abbrev none : Line
none = record { session = 0; index = 0; value = 0 }

pub reads_stay-requires-clause-sessions : goal.reads_stay-requires-clause-sessions
reads_stay-requires-clause-sessions c =
    let are = kept_in c.args.places.now c.loop-place.place c.index-places-place.result
    c.as_slice.result.now (omega arith) c.index-places-place.is c.as_slice.ensures.value in
    subst (λ (n : ℕ). AreOf n c.as_slice.result.now) (sym c.loop-place.auto.standings)
    (subst (λ (own : List ReadAt). AreOf (length c.args.standings.now) own) (sym are)
    (one_of (length c.args.standings.now) c.loop-place.place (kept c.args.places.now)
    c.requires.reads))

pub returns-then-not-reads_stay : goal.returns-then-not-reads_stay
returns-then-not-reads_stay c =
    reads_passed c.args.limit c.args.lines.now (kept c.args.places.now)
    (kept_long c.args.places.now _ c.requires.long) (standing_values c.args.standings.now)
    (standing_values c.loop-place.standings) c.loop-place.place c.loop-place.invariant.0
    c.as_slice.result.now
    (kept_in c.args.places.now c.loop-place.place c.index-places-place.result
    c.as_slice.result.now (omega arith) c.index-places-place.is c.as_slice.ensures.value)
    c.reads_stay.result c.reads_stay.ensures.stays none c.loop-place-test.true
    c.if-not-reads_stay.true

pub returns-then-not-line_stays : goal.returns-then-not-line_stays
returns-then-not-line_stays c =
    line_passed c.args.limit c.args.lines.now (kept c.args.places.now)
    (kept_long c.args.places.now _ c.requires.long) (standing_values c.args.standings.now)
    (standing_values c.loop-place.standings) c.loop-place.place c.loop-place.invariant.0
    c.as_slice.result.now
    (kept_in c.args.places.now c.loop-place.place c.index-places-place.result
    c.as_slice.result.now (omega arith) c.index-places-place.is c.as_slice.ensures.value)
    c.reads_stay.result c.reads_stay.ensures.stays none c.loop-place-test.true
    (standing_values c.reads_stay.new.standings) c.if-not-reads_stay.false
    c.if-not-reads_stay.ensures.after c.line_stays.result c.line_stays.ensures.stays
    c.if-not-line_stays.true

pub loop-place-preserved : goal.loop-place-preserved
loop-place-preserved c = (
  goes_on c.args.limit c.args.lines.now (kept c.args.places.now)
      (kept_long c.args.places.now _ c.requires.long) (standing_values c.args.standings.now)
      (standing_values c.loop-place.standings) c.loop-place.place c.loop-place.invariant.0
      c.as_slice.result.now
      (kept_in c.args.places.now c.loop-place.place c.index-places-place.result
      c.as_slice.result.now (omega arith) c.index-places-place.is c.as_slice.ensures.value)
      c.reads_stay.result c.reads_stay.ensures.stays none c.loop-place-test.true
      (standing_values c.reads_stay.new.standings) c.if-not-reads_stay.false
      c.if-not-reads_stay.ensures.after c.line_stays.result c.line_stays.ensures.stays
      (standing_values c.line_stays.new.standings) c.if-not-line_stays.false
      c.line_stays.ensures.after,
  c.line_stays.ensures.low,
)
