-- the acts so far are placed, and the rest are as they were
use Rattle.std.proofs.Common.{◌≡◌, map, take, drop}
use Rattle.risk_journal.specs.ActLists.{placed_by, place_in}
use Rattle.risk_journal.proofs.placed.set_places.Given as goal

abbrev pub invariant-loop-index : goal.invariant-loop-index
invariant-loop-index l = record {
  front : take l.index l.acts
      ≡ map (placed_by (place_in (map (λ own. own.items) l.places))) (take l.index l.initial.acts);
  rest : drop l.index l.acts ≡ drop l.index l.initial.acts;
}
