use Rattle.std.proofs.Common.{[], ◌∷◌, ◌++◌}
use Rattle.std.proofs.lemmas.Result.{IfErr-weaker}
use Rattle.fix_fields.specs.Fields.{soh}
use Rattle.fix_fields.specs.Parts.{IsNoLength, IsNoHead}
use Rattle.fix_fields.proofs.Heads.{in_begin, no_head, no_head_by_length}
use Rattle.fix_fields.proofs.cut.cut_head.Goals as goal

-- behind the constant bytes there are no digits and SOH
pub returns-in-Some-clause-err : goal.returns-in-Some-clause-err
returns-in-Some-clause-err c =
    let rest = c.args.rest.now in
    let after = c.in-Some.after.now in
    IfErr-weaker c.cut_length.result (IsNoLength after) (IsNoHead rest)
    (no_head_by_length rest after c.in-Some.ensures.some) c.cut_length.ensures.err

-- the rest ends within the constant bytes
pub returns-in-Some-missing_to_begin-clause-err : goal.returns-in-Some-missing_to_begin-clause-err
returns-in-Some-missing_to_begin-clause-err c =
    let missing = c.in-Some-missing_to_begin.field-0.now in (
      48 ∷ [],
      missing ++ (48 ∷ soh ∷ []),
      in_begin c.args.rest.now missing c.in-Some-missing_to_begin.ensures.some,
    )

-- the rest differs from them
pub returns-in-None-clause-err : goal.returns-in-None-clause-err
returns-in-None-clause-err c = no_head c.args.rest.now c.in_default.ensures.none c.in-None.ensures.none
