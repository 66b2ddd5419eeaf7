use Rattle.std.proofs.Common.{◌≡◌, ◌-◌, arith, sym, length, take, drop, true, length-drop}
use Rattle.std.proofs.Common.{subst}
use Rattle.std.proofs.lemmas.List.{take_all}
use Rattle.fix_fields.specs.Parts.{CutsBody}
use Rattle.fix_fields.proofs.FrameParts.{body_ends, body_there}
use Rattle.fix_fields.proofs.cut.cut_body.Goals as goal

-- a body that is cut off ends there
pub returns-then-not-ends_there-clause-none : goal.returns-then-not-ends_there-clause-none
returns-then-not-ends_there-clause-none c = λ b more cut.
    let yes : c.ends_there.result ≡ true = c.ends_there.ensures.1 (body_ends c.args.text.now
    c.args.count b more cut) in
    cc

pub returns-clause-some : goal.returns-clause-some
returns-clause-some c =
    let text = c.args.text.now in
    let n = c.args.count in
    let all = take_all (length text - n) (drop n text) (omega (arith, length-drop n text)) in
    subst (λ rest. CutsBody text n (take n text) rest) (sym all)
    (body_there text n c.requires (c.ends_there.ensures.0 c.if-not-ends_there.false))
