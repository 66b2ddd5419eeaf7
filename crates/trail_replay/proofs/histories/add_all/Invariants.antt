-- the histories so far stand behind those before
use Rattle.std.proofs.Common.{◌≡◌, ◌++◌, map}
use Rattle.std.specs.List.{AllByRecursion}
use Rattle.trail_replay.specs.Replayed.{IsReplayed, lines_in, places_in}
use Rattle.trail_replay.proofs.histories.add_all.Given as goal

abbrev pub invariant-loop-replayed : goal.invariant-loop-replayed
invariant-loop-replayed l = record {
  whole : AllByRecursion IsReplayed l.yielded;
  lines : map (λ own. own.items) l.all.lines.items
      ≡ map (λ own. own.items) l.initial.all.lines.items ++ map lines_in l.yielded;
  places : map (λ own. own.items) l.all.places.items
      ≡ map (λ own. own.items) l.initial.all.places.items ++ map places_in l.yielded;
}
