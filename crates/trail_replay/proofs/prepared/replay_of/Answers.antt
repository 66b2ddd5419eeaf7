use Rattle.std.proofs.Common.{ℕ, List, length, ap, sym, ◌∙◌, subst}
use Rattle.std.proofs.Common.{arith}
use Rattle.f_array.specs.declared.record.Record.{Record}
use Rattle.trail_replay.specs.Arrays.{AreLines}
use Rattle.trail_replay.specs.Blocks.{places_to}
use Rattle.trail_replay.specs.Fronts.{front_of, last_stamp, IsLawful}
use Rattle.trail_replay.specs.Histories.{posts_of_tree, lines_of_tree}
use Rattle.trail_replay.proofs.BlockSteps.{if_ok_both}
use Rattle.node_rule.proofs.Closing.{if_ok}
use Rattle.trail_replay.proofs.LegalHistories.{legal_lines}
use Rattle.trail_replay.proofs.Places.{length-places_to}
use Rattle.trail_replay.proofs.Walkable.{walkable}
use Rattle.trail_replay.proofs.prepared.replay_of.Goals as goal

pub last_of-last-requires-clause-stamped : goal.last_of-last-requires-clause-stamped
last_of-last-requires-clause-stamped g c =
    let lawful = subst (IsLawful g.F.Fold.UNIT g.F.Fold.CAP g.F.Fold.join)
    (sym c.prepared.view_is) c.requires.lawful in
    (lawful.quota, lawful.kept.stamps)

pub history_to-requires-clause-stamped : goal.history_to-requires-clause-stamped
history_to-requires-clause-stamped g c = (c.requires.lawful.quota, c.requires.lawful.kept.stamps)

pub history_to-requires-clause-last : goal.history_to-requires-clause-last
history_to-requires-clause-last g c =
    let last = c.last_of-last.ensures
    ∙ ap (λ (r : Record). last_stamp r c.args.tree) c.prepared.view_is in
    omega (arith, last)

pub returns-clause-lines : goal.returns-clause-lines
returns-clause-lines g c =
    let taken = c.args.prepared.now in
    let last = c.last_of-last.ensures
    ∙ ap (λ (r : Record). last_stamp r c.args.tree) c.prepared.view_is in
    if_ok _ _ c.history_to.result
    (λ h lines. lines ∙ ap (lines_of_tree taken c.args.tree) last) c.history_to.ensures.lines

pub returns-clause-places : goal.returns-clause-places
returns-clause-places g c =
    let taken = c.args.prepared.now in
    let last = c.last_of-last.ensures
    ∙ ap (λ (r : Record). last_stamp r c.args.tree) c.prepared.view_is in
    let front = front_of taken.shape.levels taken.passes.items c.args.tree in
    let posts = posts_of_tree c.args.tree taken.passes.items in
    if_ok _ _ c.history_to.result
    (λ h places. places ∙ ap (places_to front posts) last) c.history_to.ensures.places

pub returns-clause-legal : goal.returns-clause-legal
returns-clause-legal g c =
    let taken = c.args.prepared.now in
    let last = c.last_of-last.ensures
    ∙ ap (λ (r : Record). last_stamp r c.args.tree) c.prepared.view_is in
    let front = front_of taken.shape.levels taken.passes.items c.args.tree in
    let posts = posts_of_tree c.args.tree taken.passes.items in
    if_ok_both _ _ _ c.history_to.result
    (λ h lines places.
    legal_lines g.F.Fold.UNIT g.F.Fold.CAP g.F.Fold.join g.F.Fold.le
    g.F.Fold.under g.met.F.Fold.laws taken c.args.tree c.requires.lawful c.requires.tree
    h.lines.items h.places.items (lines ∙ ap (lines_of_tree taken c.args.tree) last)
    (places ∙ ap (places_to front posts) last))
    c.history_to.ensures.lines c.history_to.ensures.places

pub returns-clause-stamps : goal.returns-clause-stamps
returns-clause-stamps g c =
    let taken = c.args.prepared.now in
    let long = length-places_to (front_of taken.shape.levels taken.passes.items c.args.tree)
    (posts_of_tree c.args.tree taken.passes.items) c.last_of-last.result in
    let last = c.last_of-last.ensures
    ∙ ap (λ (r : Record). last_stamp r c.args.tree) c.prepared.view_is in
    if_ok _ _ c.history_to.result
    (λ h places. let same = ap (λ (s : List ℕ). length s) places in
    omega (arith, same, long, last))
    c.history_to.ensures.places

pub returns-clause-walkable : goal.returns-clause-walkable
returns-clause-walkable g c =
    let can = walkable g.F.Fold.UNIT g.F.Fold.CAP g.F.Fold.join c.args.prepared.now c.args.tree
    c.last_of-last.result c.requires.lawful in
    if_ok _ _ c.history_to.result
    (λ h lines. subst (AreLines g.F.Fold.CAP) (sym lines) can) c.history_to.ensures.lines
