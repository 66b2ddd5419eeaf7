use Rattle.std.proofs.Common.{◌≡◌, ◌∙◌, List, ℕ, ◌++◌, ◌∷◌, [], OnOk, Ok, Err, Result, arith, sym, refl}
use Rattle.csv.specs.Records.{fields_of}
use Rattle.limit_table.specs.RowsSoFar.{StandsFor}
use Rattle.limit_table.proofs.SoFar.{StandsBehind, behind_first, behind_some, next_stands, next_fault}
use Rattle.limit_table.proofs.so_far.SoFar.take.Goals as goal
use Rattle.limit_table.proofs.so_far.SoFar.take.Goals.{else-self-eq1-via-then-self-eq1+else-is_version_row, else-self-eq1-via-else-self-eq1}

on_ok : {X Y : Type 0} (r : Result X Y) (P Q : Type 0) → (P → Q) → OnOk r P → OnOk r Q
on_ok (Ok x) P Q f h = f h
on_ok (Err e) P Q f h = tt

pub returns-in-Ok-clause-taken : goal.returns-in-Ok-clause-taken
returns-in-Ok-clause-taken c = λ rows stands.
    let row = fields_of c.args.fields.now in
    let behind : StandsBehind rows row = elim c.else-self-eq1.branch [
      | else-self-eq1-via-then-self-eq1+else-is_version_row w ↦
          behind_first rows row (omega (arith, stands.count))
          (sym w.is_version_row.ensures ∙ w.if-is_version_row.false)
      | else-self-eq1-via-else-self-eq1 w ↦
          behind_some rows row (omega (arith, stands.count))
    ] in
    let set = rw c.as_slice.ensures.value at (sym c.read_row.ensures ∙ c.in-Ok.is) in
    on_ok c.add.result _ _ (λ items. next_stands c.args.self.now rows row stands behind
    c.add.new.self c.in-Ok.entry set c.add.ensures.same.0 c.add.ensures.same.1 items)
    c.add.ensures.added

pub returns-in-Err-clause-refused : goal.returns-in-Err-clause-refused
returns-in-Err-clause-refused c = λ rows stands other.
    let row = fields_of c.args.fields.now in
    let behind : StandsBehind rows row = elim c.else-self-eq1.branch [
      | else-self-eq1-via-then-self-eq1+else-is_version_row w ↦
          behind_first rows row (omega (arith, stands.count))
          (sym w.is_version_row.ensures ∙ w.if-is_version_row.false)
      | else-self-eq1-via-else-self-eq1 w ↦
          behind_some rows row (omega (arith, stands.count))
    ] in
    let wrong = rw c.as_slice.ensures.value at (sym c.read_row.ensures ∙ c.in-Err.is) in
    next_fault c.args.self.now rows row stands behind c.in-Err.cause c.fault_in.result wrong
    c.fault_in.ensures
