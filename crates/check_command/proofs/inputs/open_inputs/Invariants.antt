-- the first names are opened, and there is room for the others
use Rattle.std.proofs.Common.{◌≡◌, ◌+◌, ◌-◌, ◌≤◌, map, length, string_bytes}
use Rattle.std.specs.Prelude.{vec_len, vec_capacity}
use Rattle.gate_files.specs.Stages.{folder_of, Went}
use Rattle.check_command.specs.Inputs.{AreNew}
use Rattle.check_command.proofs.inputs.open_inputs.Given as goal

abbrev pub invariant-loop-place : goal.invariant-loop-place
invariant-loop-place g l = record {
  went : Went
      (folder_of g.D.Folder.texts g.D.Folder.read_faults g.D.Folder.write_faults l.initial.folder)
      (folder_of g.D.Folder.texts g.D.Folder.read_faults g.D.Folder.write_faults l.folder);
  texts : g.D.Folder.texts l.folder ≡ g.D.Folder.texts l.initial.folder;
  new : AreNew g.D.In.Source.left g.D.In.Source.name g.D.In.Source.faults
      (g.D.Folder.texts l.initial.folder) (map string_bytes l.names) l.all.items;
  many : length l.all.items ≡ l.place;
  room : vec_len l.all + (length l.names - l.place) ≤ vec_capacity l.all;
}
