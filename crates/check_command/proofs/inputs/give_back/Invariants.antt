-- the first sources are given back, and the others wait
use Rattle.std.proofs.Common.{◌≡◌, map, take, drop, string_bytes}
use Rattle.gate_files.specs.Stages.{folder_of}
use Rattle.check_command.specs.Inputs.{AreGivenBack}
use Rattle.check_command.proofs.inputs.give_back.Given as goal

abbrev pub invariant-loop-place : goal.invariant-loop-place
invariant-loop-place g l = record {
  rest : l.sources.items ≡ drop l.place l.initial.sources.items;
  given : AreGivenBack g.D.In.Source.faults (map string_bytes l.names)
      (folder_of g.D.Folder.texts g.D.Folder.read_faults g.D.Folder.write_faults l.initial.folder)
      (folder_of g.D.Folder.texts g.D.Folder.read_faults g.D.Folder.write_faults l.folder)
      (take l.place l.initial.sources.items);
}
