-- the first sessions are opened, and there is room for the others
use Rattle.std.proofs.Common.{◌≡◌, ◌+◌, ◌-◌, ◌≤◌, map, length}
use Rattle.std.specs.Prelude.{vec_len, vec_capacity}
use Rattle.gate_files.specs.CommandOf.{run_value}
use Rattle.gate_files.specs.Objects.{objects_of, HasOpened}
use Rattle.gate_files.specs.Stages.{folder_of}
use Rattle.gate_files.proofs.open.open_sessions.Given as goal

abbrev pub invariant-loop-session : goal.invariant-loop-session
invariant-loop-session g l = record {
  opened : HasOpened (run_value l.run)
      (folder_of g.D.Folder.texts g.D.Folder.read_faults g.D.Folder.write_faults l.initial.folder)
      (folder_of g.D.Folder.texts g.D.Folder.read_faults g.D.Folder.write_faults l.folder)
      (map (objects_of g.D.In.Source.left g.D.In.Source.name
      g.D.In.Source.faults g.D.Out.Sink.held g.D.Out.Sink.name
      g.D.Out.Sink.faults) l.all.items);
  many : length l.all.items ≡ l.session;
  room : vec_len l.all + (length l.run.sessions.now - l.session) ≤ vec_capacity l.all;
}
