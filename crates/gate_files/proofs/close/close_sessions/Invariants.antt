-- the first sessions are closed, and the others wait
use Rattle.std.proofs.Common.{◌≡◌, map, drop, take}
use Rattle.gate_files.specs.CommandOf.{run_value}
use Rattle.gate_files.specs.Objects.{objects_of, HasClosed}
use Rattle.gate_files.specs.Stages.{folder_of}
use Rattle.gate_files.proofs.close.close_sessions.Given as goal

abbrev pub invariant-loop-session : goal.invariant-loop-session
invariant-loop-session g l = record {
  left : l.opened.items ≡ drop l.session l.initial.opened.items;
  closed : HasClosed (run_value l.run)
      (folder_of g.D.Folder.texts g.D.Folder.read_faults g.D.Folder.write_faults l.initial.folder)
      (folder_of g.D.Folder.texts g.D.Folder.read_faults g.D.Folder.write_faults l.folder)
      (take l.session (map (objects_of g.I.In.Source.left g.I.In.Source.name
      g.I.In.Source.faults g.D.Out.Sink.held g.D.Out.Sink.name
      g.D.Out.Sink.faults) l.initial.opened.items));
}
