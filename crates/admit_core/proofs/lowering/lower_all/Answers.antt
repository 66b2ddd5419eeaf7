-- The three trees are different, so a post in one leaves what was last posted in another.
use Rattle.std.proofs.Common.{◌∙◌, lit≤, lit<}
use Rattle.admit_core.specs.declared.ask.Verdict.TheVariants.{Firm}
use Rattle.admit_core.specs.Legs.{leg_with}
use Rattle.admit_core.proofs.After.{later}
use Rattle.admit_core.proofs.LowerLemmas.{account_last, symbol_last, all_acts, all_done}
use Rattle.admit_core.proofs.lowering.lower_all.Goals as goal

pub returns-clause-after : goal.returns-clause-after
returns-clause-after g c =
    let sum = g.met.H.Hand.origin_next in
    let halt = g.met.M.Hand.origin_next in
    later _ _ sum halt 3 (later _ _ sum halt 2 c.lower-firm_done.ensures.after
    c.lower-account_done.ensures.after (lit≤ tt)) c.lower-symbol_done.ensures.after (lit≤ tt)

pub lower-firm_done-requires-clause-lower : goal.lower-firm_done-requires-clause-lower
lower-firm_done-requires-clause-lower g c =
    c.requires.lower 0 (leg_with c.args.limits.now c.args.hands.now.acts 0 0 Firm) (lit< tt)

pub lower-account_done-requires-clause-lower : goal.lower-account_done-requires-clause-lower
lower-account_done-requires-clause-lower g c =
    rw (
      c.account_tree.ensures,
      account_last _ c.args.rows.now c.args.hands.now.acts c.args.values.now c.requires.rows _ c.requires.over.quota_is _
          c.lower-firm_done.ensures.lowered,
    )
    (c.requires.lower 1 (leg_with c.args.limits.now c.args.hands.now.acts 0 0 Firm) (lit< tt))

pub lower-symbol_done-requires-clause-lower : goal.lower-symbol_done-requires-clause-lower
lower-symbol_done-requires-clause-lower g c =
    let one = c.lower-firm_done.ensures in
    let two = c.lower-account_done.ensures in
    let quota = c.requires.over.quota_is in
    rw (
      c.symbol_tree.ensures,
      symbol_last _ c.args.rows.now c.args.hands.now.acts c.args.values.now c.requires.rows _ quota _ one.lowered _ _
          (one.after.quota_is ∙ quota) c.account_tree.ensures _ two.lowered,
    )
    (c.requires.lower 2 (leg_with c.args.limits.now c.args.hands.now.acts 0 0 Firm) (lit< tt))

pub returns-clause-acts : goal.returns-clause-acts
returns-clause-acts g c =
    let one = c.lower-firm_done.ensures in
    let two = c.lower-account_done.ensures in
    let three = c.lower-symbol_done.ensures in
    let quota = c.requires.over.quota_is in
    all_acts _ c.args.rows.now c.args.hands.now.acts c.args.values.now c.requires.rows _ quota _ one.lowered _ _
    (one.after.quota_is ∙ quota) c.account_tree.ensures _ two.lowered _ _
    (two.after.quota_is ∙ one.after.quota_is ∙ quota) c.symbol_tree.ensures _ three.lowered

pub returns-clause-done : goal.returns-clause-done
returns-clause-done g c =
    let one = c.lower-firm_done.ensures in
    let two = c.lower-account_done.ensures in
    let three = c.lower-symbol_done.ensures in
    let quota = c.requires.over.quota_is in
    all_done _ c.args.rows.now c.args.hands.now.acts c.args.values.now c.requires.rows _ quota _ one.lowered _ _
    (one.after.quota_is ∙ quota) c.account_tree.ensures _ two.lowered _ _
    (two.after.quota_is ∙ one.after.quota_is ∙ quota) c.symbol_tree.ensures _ three.lowered
