use Rattle.std.proofs.Common.{◌∙◌, ◌↔◌, ℕ, List, Some, IsTrue, refl, sym, ap, subst}
use Rattle.gate_ports.specs.Calls.{CallsState, FailsToCreate, created_again}
use Rattle.gate_ports.specs.Objects.{new_sink}
use Rattle.gate_ports.proofs.OneName.{with_calls-same, counted-nothing, calls_change_after}
use Rattle.gate_ports.proofs.mem_folder.MemFolderFolder.create.Goals as goal

pub returns-then-is_err-clause-calls : goal.returns-then-is_err-clause-calls
returns-then-is_err-clause-calls c = c.keep_name.ensures.calls ∙ sym (with_calls-same _ _)

pub returns-then-fails_to_create-clause-fails : goal.returns-then-fails_to_create-clause-fails
returns-then-fails_to_create-clause-fails c =
    let Says : (List ℕ → CallsState) → Type 0 =
    λ calls. IsTrue c.fails_to_create.result ↔ FailsToCreate (calls c.args.name.now) in
    let says = subst Says c.keep_name.ensures.calls c.fails_to_create.ensures in
    (λ failed. says.0 c.if-fails_to_create.true, λ fails. refl)

pub returns-then-fails_to_create-clause-calls : goal.returns-then-fails_to_create-clause-calls
returns-then-fails_to_create-clause-calls c =
    c.count_write.ensures.calls
    ∙ calls_change_after _ _ _ c.args.name.now created_again c.keep_name.ensures.calls
    c.count_create.ensures.calls

pub returns-in-Ok-clause-made : goal.returns-in-Ok-clause-made
returns-in-Ok-clause-made c =
    let name = c.args.name.now in
    c.in-Ok.ensures
    ∙ ap (λ failing. new_sink c.args.self.now.most failing (Some name))
    (c.failing_gives-failing.ensures
    ∙ ap (λ calls. (calls name).failing_gives) c.keep_name.ensures.calls)

pub returns-in-Ok-clause-fails : goal.returns-in-Ok-clause-fails
returns-in-Ok-clause-fails c =
    let Says : (List ℕ → CallsState) → Type 0 =
    λ calls. IsTrue c.fails_to_create.result ↔ FailsToCreate (calls c.args.name.now) in
    let says = subst Says c.keep_name.ensures.calls c.fails_to_create.ensures in
    (λ failed. cc, λ fails. let is = says.1 fails in cc)

pub returns-in-Ok-clause-writes : goal.returns-in-Ok-clause-writes
returns-in-Ok-clause-writes c =
    c.put_text.ensures.faults.1 ∙ c.count_create-in-Ok.ensures.faults.1
    ∙ c.keep_name.ensures.faults.1 ∙ sym (counted-nothing _ c.args.name.now)

pub returns-in-Ok-clause-calls : goal.returns-in-Ok-clause-calls
returns-in-Ok-clause-calls c =
    c.put_text.ensures.calls
    ∙ calls_change_after _ _ _ c.args.name.now created_again c.keep_name.ensures.calls
    c.count_create-in-Ok.ensures.calls

pub returns-in-Err-clause-fails : goal.returns-in-Err-clause-fails
returns-in-Err-clause-fails c =
    let Says : (List ℕ → CallsState) → Type 0 =
    λ calls. IsTrue c.fails_to_create.result ↔ FailsToCreate (calls c.args.name.now) in
    let says = subst Says c.keep_name.ensures.calls c.fails_to_create.ensures in
    (λ failed. cc, λ fails. let is = says.1 fails in cc)

pub returns-in-Err-clause-calls : goal.returns-in-Err-clause-calls
returns-in-Err-clause-calls c = c.keep_name.ensures.calls ∙ sym (with_calls-same _ _)
