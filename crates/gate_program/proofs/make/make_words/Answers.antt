use Rattle.std.proofs.Common.{◌≤◌, length, arith, ap, sym, ◌∙◌, subst, List, Vec, Global, ℕ}
use Rattle.std.specs.List.{AllByRecursion}
use Rattle.gate_files.specs.Stages.{GivesNoLimits}
use Rattle.gate_program.proofs.LoadRuns.{files_many, files_small, gives_no_limits}
use Rattle.gate_program.proofs.Made.{FilesLaw}
use Rattle.gate_program.proofs.make.make_words.Goals as goal

pub bytes_of-requires-clause-few : goal.bytes_of-requires-clause-few
bytes_of-requires-clause-few g c = omega (
  arith,
  ap length c.deref.ensures.value,
  files_many c.args.asked.now c.in-Ok.load.sessions.items c.in-Ok.ensures.sessions,
  c.requires.most,
)

pub bytes_of-requires-clause-sizes : goal.bytes_of-requires-clause-sizes
bytes_of-requires-clause-sizes g c =
    let law : FilesLaw = record {
      frames = c.loads_are_whole.ensures.frames;
      size = c.loads_are_whole.ensures.size;
    } in
    subst (λ (files : List (Vec ℕ Global)).
    AllByRecursion (λ (own : Vec ℕ Global). length own.items ≤ 20000000) files)
    (sym c.deref.ensures.value)
    (files_small law c.args.asked.now c.requires c.in-Ok.load.sessions.items
    c.in-Ok.ensures.sessions)

pub returns-in-Err : goal.returns-in-Err
returns-in-Err g c =
    gives_no_limits c.args.asked.now _ _ _ _ _ _ c.in-Err.status c.load_limits_are_a_file.ensures
    (subst (λ (text : List ℕ). GivesNoLimits text c.in-Err.status)
    (c.deref-2.ensures.value ∙ c.in-Ok.ensures.limits) c.in-Err.ensures.err)
