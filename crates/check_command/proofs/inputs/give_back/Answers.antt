use Rattle.std.proofs.Common.{◌<◌, length, map, refl, arith, string_bytes}
use Rattle.gate_files.proofs.Lists.{first_left}
use Rattle.gate_files.proofs.Folder.{went_nowhere}
use Rattle.check_command.proofs.Sources.{name_at, next_own, none_given, one_given_back}
use Rattle.check_command.proofs.inputs.give_back.Goals as goal

pub loop-place-init : goal.loop-place-init
loop-place-init g c = record {
  rest = refl;
  given = none_given g.D.In.Source.left g.D.In.Source.name g.D.In.Source.faults _ _
      (went_nowhere _);
}

pub done-requires-clause-means : goal.done-requires-clause-means
done-requires-clause-means g c =
    let place = c.loop-place.place in
    let below : place < length c.args.sources.items =
    omega (arith, c.len-count.ensures, c.loop-place-test.true) in
    let taken = first_left c.args.sources.items c.loop-place.sources.items
    c.remove-next.new.self.items place c.remove-next.result c.loop-place.invariant.rest below
    c.remove-next.ensures.value c.remove-next.ensures.by_index.2 in
    let owned = next_own g.D.In.Source.left g.D.In.Source.name g.D.In.Source.faults _ _ _
    c.args.sources.items place c.remove-next.result c.as_str.result.now taken.0
    (name_at c.args.names.now place c.index-names-place.result _
    (omega (arith, below, c.requires.few)) c.index-names-place.is
    c.as_str.ensures.value)
    c.loop-place.invariant.given.texts c.requires.own in
    owned.means

pub done-requires-clause-there : goal.done-requires-clause-there
done-requires-clause-there g c =
    let place = c.loop-place.place in
    let below : place < length c.args.sources.items =
    omega (arith, c.len-count.ensures, c.loop-place-test.true) in
    let taken = first_left c.args.sources.items c.loop-place.sources.items
    c.remove-next.new.self.items place c.remove-next.result c.loop-place.invariant.rest below
    c.remove-next.ensures.value c.remove-next.ensures.by_index.2 in
    let owned = next_own g.D.In.Source.left g.D.In.Source.name g.D.In.Source.faults _ _ _
    c.args.sources.items place c.remove-next.result c.as_str.result.now taken.0
    (name_at c.args.names.now place c.index-names-place.result _
    (omega (arith, below, c.requires.few)) c.index-names-place.is
    c.as_str.ensures.value)
    c.loop-place.invariant.given.texts c.requires.own in
    owned.there

pub loop-place-preserved : goal.loop-place-preserved
loop-place-preserved g c =
    let place = c.loop-place.place in
    let below : place < length c.args.sources.items =
    omega (arith, c.len-count.ensures, c.loop-place-test.true) in
    let taken = first_left c.args.sources.items c.loop-place.sources.items
    c.remove-next.new.self.items place c.remove-next.result c.loop-place.invariant.rest below
    c.remove-next.ensures.value c.remove-next.ensures.by_index.2 in
    record {
      rest = taken.1;
      given = one_given_back g.D.In.Source.left g.D.In.Source.name g.D.In.Source.faults
          (map string_bytes c.args.names.now) _ _ _ c.args.sources.items place c.remove-next.result c.as_str.result.now taken.0
          (name_at c.args.names.now place c.index-names-place.result _
          (omega (arith, below, c.requires.few)) c.index-names-place.is
          c.as_str.ensures.value)
          c.loop-place.invariant.given c.done.ensures.texts c.done.ensures.cause
          c.done.ensures.writes;
    }
