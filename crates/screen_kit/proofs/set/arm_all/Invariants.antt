use Rattle.std.proofs.Common.{◌≡◌, map, ◌++◌, take, drop, vec_len}
use Rattle.std.specs.List.{AllZip}
use Rattle.screen_kit.specs.Screens.{IsSameScreen, armed}
use Rattle.screen_kit.proofs.set.arm_all.Given as goal

abbrev pub invariant-loop-i : goal.invariant-loop-i
invariant-loop-i g l = record {
  len : vec_len l.screens ≡ l.i-end;
  armed_so_far : map (armed l.terms) (map
      g.S.Screen.meaning
      l.initial.screens.items)
      ≡ take l.i (map
      g.S.Screen.meaning
      l.screens.items)
      ++ map (armed l.terms) (drop l.i (map
      g.S.Screen.meaning
      l.screens.items));
  same : AllZip IsSameScreen (map
      g.S.Screen.meaning
      l.initial.screens.items) (map
      g.S.Screen.meaning
      l.screens.items);
}
