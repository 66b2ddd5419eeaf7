use Rattle.std.proofs.Common.{sym, subst, arith, ◌-◌}
use Rattle.fix_fields.specs.Fields.{AreFields}
use Rattle.fix_fields.proofs.FrameSizes.{body_at}
use Rattle.fix_fields.proofs.WalkPlaces.{places_are, places_few}
use Rattle.fix_fields.proofs.walk.fields.Goals as goal

-- the body of a sound frame is fields
pub invariant_of-result : goal.invariant_of-result
invariant_of-result c =
    let listed = c.requires.sound.0 in
    let p = c.requires.sound.1.1.parts in
    let body = body_at c.args.bytes.now _ _ _ p.0 p.1 p.2 p.3 p.4 in
    record {
      ordered = body.ordered;
      inside = body.inside;
      are_fields = (listed, subst (λ t. AreFields t listed) (sym body.is) p.4.fields.listed);
    }

-- the walk yields the places of the fields
pub returns-clause-places : goal.returns-clause-places
returns-clause-places c = λ listed has.
    let p = has.1.parts in
    let body = body_at c.args.bytes.now _ _ _ p.0 p.1 p.2 p.3 p.4 in
    places_are listed c.args.bytes.now c.args.frame.now.body_from c.args.frame.now.body_to
    body.ordered body.inside (subst (λ t. AreFields t listed) (sym body.is) p.4.fields.listed)

pub returns-clause-few : goal.returns-clause-few
returns-clause-few c =
    let p = c.requires.sound.1.1.parts in
    let body = body_at c.args.bytes.now _ _ _ p.0 p.1 p.2 p.3 p.4 in
    let from = c.args.frame.now.body_from in
    let to = c.args.frame.now.body_to in
    omega (arith, places_few (to - from) c.args.bytes.now from to, body.inside)
