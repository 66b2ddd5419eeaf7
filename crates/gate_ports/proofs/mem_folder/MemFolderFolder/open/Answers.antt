use Rattle.std.proofs.Common.{◌∙◌, ℕ, List, Some, sym, ap, subst}
use Rattle.gate_ports.specs.Calls.{CallsState, FailsToOpen, opened_again}
use Rattle.gate_ports.specs.Objects.{new_source}
use Rattle.gate_ports.proofs.OneName.{with_calls-same, counted-nothing, calls_change_after}
use Rattle.gate_ports.proofs.OneName.{either_before}
use Rattle.gate_ports.proofs.mem_folder.MemFolderFolder.open.Goals as goal

pub returns-then-is_err-clause-calls : goal.returns-then-is_err-clause-calls
returns-then-is_err-clause-calls c = c.keep_name.ensures.calls ∙ sym (with_calls-same _ _)

pub returns-in_default-clause-missing : goal.returns-in_default-clause-missing
returns-in_default-clause-missing c = λ failed.
    either_before _ _ _ _ c.args.name.now c.keep_name.ensures.texts c.keep_name.ensures.calls
    (c.text_to_open.ensures.none c.in_default.is)

pub returns-in_default-clause-calls : goal.returns-in_default-clause-calls
returns-in_default-clause-calls c =
    c.count_read.ensures.calls
    ∙ calls_change_after _ _ _ c.args.name.now opened_again c.keep_name.ensures.calls
    c.count_open.ensures.calls

pub returns-in-Ok-clause-found : goal.returns-in-Ok-clause-found
returns-in-Ok-clause-found c =
    sym (ap (λ texts. texts c.args.name.now) c.keep_name.ensures.texts)
    ∙ c.in-Some.ensures.some ∙ ap (λ s. Some s.left) (sym c.in-Ok.ensures)

pub returns-in-Ok-clause-made : goal.returns-in-Ok-clause-made
returns-in-Ok-clause-made c =
    let name = c.args.name.now in
    let most = c.args.self.now.most in
    let numbers = c.failing_fetches-failing.result.now in
    c.in-Ok.ensures
    ∙ ap (λ bytes. new_source bytes most numbers (Some name))
    (sym (ap (λ s. s.left) c.in-Ok.ensures))
    ∙ ap (λ failing. new_source c.in-Ok.input.left most failing (Some name))
    (c.failing_fetches-failing.ensures
    ∙ ap (λ calls. (calls name).failing_fetches) c.keep_name.ensures.calls)

pub returns-in-Ok-clause-fails : goal.returns-in-Ok-clause-fails
returns-in-Ok-clause-fails c = λ fails.
    let Fails : (List ℕ → CallsState) → Type 0 = λ calls. FailsToOpen (calls c.args.name.now) in
    let none = c.text_to_open.ensures.fails (subst Fails (sym c.keep_name.ensures.calls) fails) in
    cc

pub returns-in-Ok-clause-reads : goal.returns-in-Ok-clause-reads
returns-in-Ok-clause-reads c =
    c.count_open-in-Ok.ensures.faults.0 ∙ c.keep_name.ensures.faults.0
    ∙ sym (counted-nothing _ c.args.name.now)

pub returns-in-Ok-clause-calls : goal.returns-in-Ok-clause-calls
returns-in-Ok-clause-calls c =
    calls_change_after _ _ _ c.args.name.now opened_again c.keep_name.ensures.calls
    c.count_open-in-Ok.ensures.calls

pub returns-in-Err-clause-fails : goal.returns-in-Err-clause-fails
returns-in-Err-clause-fails c = λ fails.
    let Fails : (List ℕ → CallsState) → Type 0 = λ calls. FailsToOpen (calls c.args.name.now) in
    let none = c.text_to_open.ensures.fails (subst Fails (sym c.keep_name.ensures.calls) fails) in
    cc

pub returns-in-Err-clause-calls : goal.returns-in-Err-clause-calls
returns-in-Err-clause-calls c = c.keep_name.ensures.calls ∙ sym (with_calls-same _ _)
