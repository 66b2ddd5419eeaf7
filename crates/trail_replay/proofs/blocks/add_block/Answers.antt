use Rattle.std.proofs.Common.{◌≡◌, ℕ, ◌+◌, ◌++◌, List, ap, ◌∙◌, subst, arith}
use Rattle.std.specs.Prelude.{OnOk}
use Rattle.risk_board.specs.declared.hand.Line.{Line}
use Rattle.f_array.specs.declared.record.Record.{Record}
use Rattle.trail_replay.specs.Descent.{grown_lines}
use Rattle.trail_replay.specs.Histories.{posts_of_tree}
use Rattle.trail_replay.specs.Sums.{read_in_all}
use Rattle.trail_replay.proofs.BlockSteps.{last_few}
use Rattle.trail_replay.proofs.Descending.{block_below}
use Rattle.trail_replay.proofs.blocks.add_block.Goals as goal

pub overflow_add-span : goal.overflow_add-span
overflow_add-span c =
    let most = last_few c.args.prepared.now c.requires.stamped c.args.tree c.requires.tree in
    omega (arith, c.requires.reached, most)

pub returns : goal.returns
returns c =
    let taken = c.args.prepared.now in
    let tree = c.args.tree in
    let stamp = c.args.stamp in
    let seen : ℕ → ℕ → ℕ = λ child s. read_in_all tree child s taken.passes.items in
    let posts = posts_of_tree tree taken.passes.items in
    let levels = ap (λ (r : Record). r.shape.levels) c.prepared.view_is in
    let block = ap (λ n. grown_lines seen posts n 1 0 stamp (stamp + 1)) levels
    ∙ block_below taken c.requires.stamped tree c.requires.tree stamp (stamp + 1) in
    subst (λ (s : List Line). OnOk c.add_grown.result
    (c.add_grown.new.lines.items ≡ c.args.lines.now.items ++ s)) block c.add_grown.ensures
