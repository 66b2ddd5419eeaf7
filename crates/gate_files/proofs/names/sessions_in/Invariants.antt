-- the names of the sessions so far
use Rattle.gate_files.specs.CommandOf.{folder_value}
use Rattle.gate_files.specs.Names.{AreNames}
use Rattle.gate_files.proofs.names.sessions_in.Given as goal

abbrev pub invariant-loop-session : goal.invariant-loop-session
invariant-loop-session l = AreNames (folder_value l.out) l.session l.all.items
