use Rattle.std.proofs.Common.{string_bytes, arith}
use Rattle.std.proofs.lemmas.List.{length-map}
use Rattle.gate_files.specs.CommandOf.{run_value}
use Rattle.session_tasks.proofs.SessionCounts.{few_sessions, some_session}
use Rattle.session_tasks.proofs.job.Job.of.Goals as goal

pub returns-clause-job : goal.returns-clause-job
returns-clause-job c =
    let as_many = length-map c.args.run.now.sessions.now string_bytes in
    record {
      some = omega (arith, some_session (run_value c.args.run.now) c.requires, as_many);
      most = omega (arith, few_sessions (run_value c.args.run.now) c.requires, as_many);
      names = c.in_ok-names.ensures.sessions;
      journal = c.in_ok-names.ensures.journal;
    }
