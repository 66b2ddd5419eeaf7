-- the first sessions have their outputs, and there is room and there are files for the others
use Rattle.std.proofs.Common.{◌≡◌, ◌+◌, ◌-◌, ◌≤◌, map, length, take, drop}
use Rattle.std.specs.Prelude.{vec_len, vec_capacity, Some, None}
use Rattle.gate_ports.specs.Objects.{SureState}
use Rattle.gate_files.specs.CommandOf.{run_value}
use Rattle.gate_files.specs.Objects.{objects_of, HasCreated}
use Rattle.gate_files.specs.Stages.{folder_of}
use Rattle.gate_program.proofs.load.create_sessions.Given as goal

abbrev pub invariant-loop-session : goal.invariant-loop-session
invariant-loop-session g l = record {
  created : HasCreated (run_value l.run)
      (folder_of g.D.Folder.texts g.D.Folder.read_faults g.D.Folder.write_faults l.initial.folder)
      (folder_of g.D.Folder.texts g.D.Folder.read_faults g.D.Folder.write_faults l.folder)
      (map (objects_of (λ (s : SureState). Some s.left) (λ s. None) (λ s. 0)
      g.D.Out.Sink.held g.D.Out.Sink.name g.D.Out.Sink.faults) l.all.items);
  many : length l.all.items ≡ l.session;
  lefts : map (λ own. own.input.left) l.all.items
      ≡ take l.session (map (λ own. own.items) l.initial.files.items);
  files : l.files.items ≡ drop l.session l.initial.files.items;
  room : vec_len l.all + (length l.names - l.session) ≤ vec_capacity l.all;
}
