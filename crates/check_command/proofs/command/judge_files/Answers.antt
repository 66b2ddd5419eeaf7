-- The sessions were opened, the journal was judged, and the sessions were given back.
use Rattle.std.proofs.Common.{List, ℕ, map, arith, string_bytes, sym, ◌∙◌, subst}
use Rattle.std.proofs.lemmas.List.{length-map}
use Rattle.std.specs.Prelude.{Option}
use Rattle.gate_ports.specs.Names.{Texts}
use Rattle.gate_files.specs.CommandOf.{check_value}
use Rattle.gate_files.proofs.Folder.{went_on}
use Rattle.check_command.specs.Files.{AreRead}
use Rattle.check_command.specs.Inputs.{AreOwn}
use Rattle.check_command.proofs.Cases.{back_own}
use Rattle.check_command.proofs.Ways.{few_sessions, some_session, judged, unopened}
use Rattle.check_command.proofs.command.judge_files.Goals as goal

pub check-answer-requires-clause-some : goal.check-answer-requires-clause-some
check-answer-requires-clause-some g c = omega (
  arith,
  some_session (check_value c.args.check.now) c.requires.check,
  length-map c.args.check.now.sessions.now string_bytes,
  c.in-Ok.ensures.many,
)

pub check-answer-requires-clause-few : goal.check-answer-requires-clause-few
check-answer-requires-clause-few g c = omega (
  arith,
  few_sessions (check_value c.args.check.now) c.requires.check,
  length-map c.args.check.now.sessions.now string_bytes,
  c.in-Ok.ensures.many,
)

pub check-answer-requires-clause-screens : goal.check-answer-requires-clause-screens
check-answer-requires-clause-screens g c = omega (
  arith,
  few_sessions (check_value c.args.check.now) c.requires.check,
  length-map c.args.check.now.sessions.now string_bytes,
  c.in-Ok.ensures.many,
  c.requires.sets,
)

pub give_back-requires-clause-few : goal.give_back-requires-clause-few
give_back-requires-clause-few g c κs within =
    omega (arith, c.check-answer.ensures.back.count, c.in-Ok.ensures.many)

pub give_back-requires-clause-own : goal.give_back-requires-clause-own
give_back-requires-clause-own g c κs within =
    let names = map string_bytes c.args.check.now.sessions.now in
    let back = c.check-answer.result.sources.items in
    subst (λ (t : Option Texts). AreOwn g.D.In.Source.name t names back)
    (sym c.in-Ok.ensures.texts)
    (back_own g.D.In.Source.left g.D.In.Source.name g.D.In.Source.faults names
    c.in-Ok.sources.items back _ c.in-Ok.ensures.ok c.check-answer.ensures.back)

pub returns-clause-went : goal.returns-clause-went
returns-clause-went g c = went_on _ _ _ c.in-Ok.ensures.went c.give_back.ensures.went

pub returns-clause-way : goal.returns-clause-way
returns-clause-way g c =
    let read = subst (λ (t : List ℕ). AreRead (g.D.Folder.texts c.args.folder.now)
    (check_value c.args.check.now) c.args.files.now.limits t) (sym c.deref.ensures.value)
    c.requires.read in
    judged g.D.In.Source.left g.D.In.Source.name g.D.In.Source.faults
    (check_value c.args.check.now) _ c.args.files.now.limits c.deref.result.now
    c.in-Ok.sources.items c.check-answer.result.sources.items
    (c.in-Ok.ensures.many ∙ sym (length-map c.args.check.now.sessions.now string_bytes))
    _ _ _ _ _ _ _ _ _ c.check-answer.result.answer c.answer_to.result read
    c.in-Ok.ensures.ok c.check-answer.ensures.answer c.check-answer.ensures.read_fault
    c.in-Ok.ensures.went c.give_back.ensures c.in-Ok.ensures.texts c.answer_to.ensures

pub returns-in-Err-clause-way : goal.returns-in-Err-clause-way
returns-in-Err-clause-way g c =
    unopened (check_value c.args.check.now) _ c.args.files.now.limits
    c.args.files.now.journal.items _ _ _ _ _ _ c.in-Err.status c.requires.read
    c.in-Err.ensures.texts c.in-Err.ensures.err
