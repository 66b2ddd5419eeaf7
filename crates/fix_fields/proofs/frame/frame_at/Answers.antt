use Rattle.std.proofs.Common.{refl, arith, subst}
use Rattle.std.proofs.lemmas.Result.{err_from_is_err_and}
use Rattle.fix_fields.specs.Frames.{IsFrameText, HasFields}
use Rattle.fix_fields.specs.Parts.{IsNoFrame}
use Rattle.fix_fields.proofs.FrameSizes.{front_is}
use Rattle.fix_fields.proofs.FrontField.{rest_is}
use Rattle.fix_fields.proofs.frame.frame_at.Goals as goal

pub returns-in_err-parts-clause-err : goal.returns-in_err-parts-clause-err
returns-in_err-parts-clause-err c =
    let passed = err_from_is_err_and c.from_residual.result c.from_residual.ensures.1 in
    rw (passed.1, passed.2) (subst (λ t. IsNoFrame t c.in_err-parts.field-0.0)
    (rest_is c.args.bytes.now c.args.place) c.in_err-parts.ensures.err)

pub returns-clause-ok : goal.returns-clause-ok
returns-clause-ok c =
    let bytes = c.args.bytes.now in
    let place = c.args.place in
    let d = c.in_ok-parts.parts.length_digits.now in
    let b = c.in_ok-parts.parts.body.now in
    let s = c.in_ok-parts.parts.sum_digits.now in
    let m = c.in_ok-parts.ensures.ok.0 in
    let text = c.in_ok-parts.ensures.ok.1 in
    let told = c.is_sound.ensures in
    record {
      start = refl;
      fields = told.0;
      length_digits = d;
      body = b;
      sum_digits = s;
      more = m;
      parts = record {
        text = subst (λ t. IsFrameText t d b s m) (rest_is bytes place) text;
        from = omega arith;
        to = omega arith;
        end = omega arith;
        fields = subst (λ t. HasFields t s b told.0) (front_is _ d b s m text) told.1;
      };
      sound = told.2;
    }
