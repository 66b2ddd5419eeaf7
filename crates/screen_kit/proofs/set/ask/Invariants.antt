use Rattle.std.proofs.Common.{◌≡◌, map, ◌++◌, take, drop, vec_len}
use Rattle.screen_kit.specs.Sets.{first_code, after_asking}
use Rattle.screen_kit.proofs.set.ask.Given as goal

abbrev pub invariant-loop-i : goal.invariant-loop-i
invariant-loop-i g l = record {
  len : vec_len l.screens ≡ l.i-end;
  code : first_code l.order (map
      g.S.Screen.meaning
      l.initial.screens.items)
      ≡ first_code l.order (drop l.i (map
      g.S.Screen.meaning
      l.screens.items));
  after : after_asking l.order (map
      g.S.Screen.meaning
      l.initial.screens.items)
      ≡ take l.i (map
      g.S.Screen.meaning
      l.screens.items)
      ++ after_asking l.order (drop l.i (map
      g.S.Screen.meaning
      l.screens.items));
}
