-- A list with one read more.
use Rattle.std.proofs.Common.{◌<◌, ◌++◌, ◌∷◌, [], length, map, ap, sym, ◌∙◌, arith}
use Rattle.trail_replay.proofs.Rows.{map-changed}
use Rattle.tree_check.specs.declared.read_at.ReadAt.{ReadAt}
use Rattle.tree_check.specs.Buckets.{with_act}
use Rattle.tree_check.proofs.read_at.add_act.Goals as goal

pub returns-in-Ok : goal.returns-in-Ok
returns-in-Ok c =
    let lists = c.args.all.now.items in
    let less : c.in-Read.tree < length lists = omega arith in
    let read : ReadAt = record {
      session = c.args.session;
      place = c.in-Read.place;
      value = c.in-Read.value;
    } in
    map-changed (λ (own : _). own.items) (λ s. s ++ read ∷ []) lists
    c.in-Read.tree c.push.new.self c.index_mut-own.result.now [] less
    c.index_mut-own.ensures.value c.in-Ok.ensures.items
    ∙ ap (with_act c.args.session (map (λ (own : _). own.items) lists)) (sym c.in-Read.is)
