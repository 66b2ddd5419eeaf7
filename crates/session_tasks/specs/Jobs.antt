-- A run that may begin.
use Rattle.std.specs.Prelude.{◌≡◌, ◌≤◌, length, string_bytes}
use Rattle.gate_files.specs.CommandOf.{run_value}
use Rattle.gate_files.specs.Names.{AreNames}
use Rattle.gate_files.specs.Words.{journal_name, session_most}
use Rattle.session_tasks.specs.declared.job.Job.{Job}

-- It has a session, and no more than a run may have, and the names are those of its outputs.
pub record IsJob (job : Job) : Type 0 where
  pub some : 1 ≤ length job.run.sessions.now
  pub most : length job.run.sessions.now ≤ session_most
  pub names : AreNames (run_value job.run).out (length job.run.sessions.now)
      job.names.sessions.items
  pub journal : string_bytes job.names.journal ≡ journal_name (run_value job.run).out
