use Rattle.std.proofs.lemmas.Result.{on_ok_weaker}
use Rattle.gate_ports.specs.Calls.{with_failing}
use Rattle.gate_ports.proofs.OneName.{calls_change_after}
use Rattle.gate_ports.proofs.mem_folder.MemFolder.fail.Goals as goal

pub returns-clause-ok : goal.returns-clause-ok
returns-clause-ok c = on_ok_weaker c.add_failing.result
    (calls_change_after _ _ _ c.args.name.now (with_failing c.args.what c.args.number)
    c.keep_name.ensures.calls) c.add_failing.ensures.ok
