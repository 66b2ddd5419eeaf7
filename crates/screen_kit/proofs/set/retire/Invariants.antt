use Rattle.std.proofs.Common.{◌≡◌, map, vec_len}
use Rattle.screen_kit.proofs.Retired.{NoneBefore}
use Rattle.screen_kit.proofs.set.retire.Given as goal

abbrev pub invariant-loop-i : goal.invariant-loop-i
invariant-loop-i g l = record {
  len : vec_len l.screens ≡ l.i-end;
  same : l.screens ≡ l.initial.screens;
  before : NoneBefore l.name l.i
      (map g.S.Screen.meaning l.screens.items);
}
