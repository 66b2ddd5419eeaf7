use Rattle.std.proofs.Common.{List, ℕ, subst, sym, ◌∙◌, ap, arith, length}
use Rattle.std.proofs.Common.{length-append, length-take, length-drop}
use Rattle.std.specs.Io.KnownBytes.{Consumes}
use Rattle.gate_ports.proofs.Pieces.{Consumes-append}
use Rattle.gate_ports.proofs.fetch.fetch_up_to.Goals as goal

pub returns-in-Some-fetch_more-clause-bytes : goal.returns-in-Some-fetch_more-clause-bytes
returns-in-Some-fetch_more-clause-bytes g c =
    let step = c.in-Some-fetch_more.ensures.step in
    let P : List ℕ → Type 0 = λ x.
    Consumes (g.S.Source.left c.args.source.now) (g.S.Source.left c.fetch_more.new.source) x in
    subst P (sym step.grown)
    (Consumes-append _ _ _ _ _ c.loop-piece.invariant.taken step.taken)

pub loop-piece-preserved : goal.loop-piece-preserved
loop-piece-preserved g c =
    let step = c.in_default-fetch_more.ensures.step in
    let P : List ℕ → Type 0 = λ x.
    Consumes (g.S.Source.left c.args.source.now) (g.S.Source.left c.fetch_more.new.source) x in
    let room = length-take c.min-room.result c.loop-piece.piece in
    let grown = ap length step.grown ∙ length-append c.loop-piece.bytes.items step.piece in
    record {
      taken = subst P (sym step.grown)
          (Consumes-append _ _ _ _ _ c.loop-piece.invariant.taken step.taken);
      no_more = omega (arith, grown, room, step.no_more);
      room = simp (length-append, length-drop) (omega (arith, room));
      later = omega (arith, c.in_default-fetch_more.ensures.later);
      name = c.in_default-fetch_more.ensures.name ∙ c.loop-piece.invariant.name;
    }
