use Rattle.std.proofs.Common.{arith, refl, get_or-set_same}
use Rattle.std.proofs.Math.Seq.{map-set_same}
use Rattle.std.proofs.Common.{ap, ◌∙◌}
use Rattle.risk_board.proofs.kept.Kept.reserve.Goals as goal

-- the session's calls are as before, and have at least the room that they had
pub returns-then-is_err-clause-kept : goal.returns-then-is_err-clause-kept
returns-then-is_err-clause-kept c = record {
  quota = refl;
  trees = refl;
  calls = map-set_same (λ calls. calls.items) c.args.self.now.calls.items c.args.session
      c.reserve.new.self c.index_mut-own.result.now
      (c.reserve.ensures.items ∙ ap (λ calls. calls.items) c.index_mut-own.ensures.value);
}

pub returns-clause-kept : goal.returns-clause-kept
returns-clause-kept c = record {
  quota = refl;
  trees = c.reserve_lines.ensures.contents;
  calls = map-set_same (λ calls. calls.items) c.args.self.now.calls.items c.args.session
      c.reserve.new.self c.index_mut-own.result.now
      (c.reserve.ensures.items ∙ ap (λ calls. calls.items) c.index_mut-own.ensures.value);
}

pub returns-clause-room : goal.returns-clause-room
returns-clause-room c = λ spare room.
    let own = c.index_mut-own.result.now in
    let fits = rw (← c.index_mut-own.ensures.value) at (room.calls own) in
    record {
      calls = λ d.
          rw (get_or-set_same c.args.self.now.calls.items c.args.session c.reserve.new.self d c.requires)
          (omega (arith, fits));
      trees = c.reserve_lines.ensures.room spare room.trees;
    }
