-- What the book offers, the screens and the trees decide; and it keeps the orders covered.
use Rattle.std.proofs.Common.{refl, sym, map}
use Rattle.admit_core.proofs.After.{still_over}
use Rattle.order_desk.specs.Decisions.{new_next}
use Rattle.order_desk.specs.Offers.{new_offer}
use Rattle.order_desk.proofs.DecidedCovers.{new_covers}
use Rattle.order_desk.proofs.Deciding.{offered_covers, offered_decides, unoffered_decides}
use Rattle.order_desk.proofs.decide.decide_new.Goals as goal

-- nothing is offered
pub returns-in-Err-clause-decides : goal.returns-in-Err-clause-decides
returns-in-Err-clause-decides g c =
    let limits = c.desk.inside.limits.now in
    let asked = c.args.order.now in
    let screens = map g.K.Screen.meaning c.desk.inside.screens.items in
    rw (← c.desk.view_is)
    (unoffered_decides limits screens (new_offer limits asked) (new_next asked) _ _ _
    c.in-Err.ensures.value)

-- it is sent
pub returns-in-None-clause-decides : goal.returns-in-None-clause-decides
returns-in-None-clause-decides g c =
    let limits = c.desk.inside.limits.now in
    let asked = c.args.order.now in
    let screens = map g.K.Screen.meaning c.desk.inside.screens.items in
    rw (← c.desk.view_is) (offered_decides limits screens (new_offer limits asked) (new_next asked)
    _ _ c.in-Ok.offer _ _ _ c.in-Ok.ensures.value (c.in-None.ensures.decides _ _) (sym c.commit_new.ensures.book))

pub invariant_of-desk : goal.invariant_of-desk
invariant_of-desk g c =
    let limits = c.desk.inside.limits.now in
    let asked = c.args.order.now in
    let screens = map g.K.Screen.meaning c.desk.inside.screens.items in
    record {
      over = still_over _ _ limits c.desk.invariant.over c.judge.ensures.after;
      covers = offered_covers limits screens (new_offer limits asked) (new_next asked) _ _
          c.in-Ok.offer _ _ _ (new_covers limits asked screens c.desk.inside.book.value)
          c.desk.invariant.covers c.in-Ok.ensures.value (c.in-None.ensures.decides _ _) (sym c.commit_new.ensures.book);
    }

-- a screen or a tree refuses it
pub returns-in-Some-clause-decides : goal.returns-in-Some-clause-decides
returns-in-Some-clause-decides g c =
    let limits = c.desk.inside.limits.now in
    let asked = c.args.order.now in
    let screens = map g.K.Screen.meaning c.desk.inside.screens.items in
    rw (← c.desk.view_is) (offered_decides limits screens (new_offer limits asked) (new_next asked)
    _ _ c.in-Ok.offer _ _ _ c.in-Ok.ensures.value (c.in-Some.ensures.decides _ _) refl)

pub invariant_of-desk-in-Some : goal.invariant_of-desk-in-Some
invariant_of-desk-in-Some g c =
    let limits = c.desk.inside.limits.now in
    let asked = c.args.order.now in
    let screens = map g.K.Screen.meaning c.desk.inside.screens.items in
    record {
      over = still_over _ _ limits c.desk.invariant.over c.judge.ensures.after;
      covers = offered_covers limits screens (new_offer limits asked) (new_next asked) _ _
          c.in-Ok.offer _ _ _ (new_covers limits asked screens c.desk.inside.book.value)
          c.desk.invariant.covers c.in-Ok.ensures.value (c.in-Some.ensures.decides _ _) refl;
    }
