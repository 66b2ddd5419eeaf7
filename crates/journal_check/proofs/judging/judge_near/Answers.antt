-- the journal with its lines by tree is the one that was read
use Rattle.std.proofs.Common.{map, length, sym, subst}
use Rattle.limit_table.specs.Trees.{halt_tree}
use Rattle.risk_journal.specs.SparseTrees.{expand_from}
use Rattle.journal_check.specs.Judging.{AreReadRows, IsAnswerOf}
use Rattle.journal_check.specs.RowFaults.{HasNoRowFault}
use Rattle.journal_check.specs.Sessions.{FailsBehind}
use Rattle.journal_check.proofs.Kept.{kept}
use Rattle.journal_check.proofs.Sources.{itself_back}
use Rattle.journal_check.proofs.judging.judge_near.Goals as goal

pub judge_sessions-requires-clause-read : goal.judge_sessions-requires-clause-read
judge_sessions-requires-clause-read g c =
    subst (λ lines. AreReadRows (kept c.in-Ok.journal.acts.items) lines) (sym c.in-Ok.ensures.lines)
    (subst (λ acts. AreReadRows (kept acts.items) (expand_from 0 c.args.told.trees.items))
    (sym c.in-Ok.ensures.acts) c.requires.read)

pub judge_sessions-requires-clause-rows : goal.judge_sessions-requires-clause-rows
judge_sessions-requires-clause-rows g c =
    let count = length c.args.sources.items in
    let last = halt_tree c.args.limits.now in
    subst (λ lines. HasNoRowFault count last (kept c.in-Ok.journal.acts.items) lines)
    (sym c.in-Ok.ensures.lines)
    (subst (λ acts. HasNoRowFault count last (kept acts.items)
    (expand_from 0 c.args.told.trees.items))
    (sym c.in-Ok.ensures.acts) c.requires.rows)

pub returns-in-Ok-clause-answer : goal.returns-in-Ok-clause-answer
returns-in-Ok-clause-answer g c =
    let left = map g.S.Source.left c.args.sources.items in
    let sets = map g.K.SessionScreens.meaning c.args.screens.items in
    subst (λ lines. IsAnswerOf c.args.limits.now left sets (kept c.args.told.acts.items) lines
    c.judge_sessions.result.answer) c.in-Ok.ensures.lines
    (subst (λ acts. IsAnswerOf c.args.limits.now left sets (kept acts.items)
    (kept c.in-Ok.journal.lines.items) c.judge_sessions.result.answer)
    c.in-Ok.ensures.acts c.judge_sessions.ensures.answer)

pub returns-in-Ok-clause-read_fault : goal.returns-in-Ok-clause-read_fault
returns-in-Ok-clause-read_fault g c = λ is.
    subst (λ acts. FailsBehind g.S.Source.left g.S.Source.faults c.args.limits.now
    (map g.K.SessionScreens.meaning c.args.screens.items) (kept acts.items) c.args.sources.items
    c.judge_sessions.result.sources.items)
    c.in-Ok.ensures.acts (c.judge_sessions.ensures.read_fault is)

pub returns-in-Err-clause-back : goal.returns-in-Err-clause-back
returns-in-Err-clause-back g c =
    rw c.answered.ensures.sources (itself_back g.S.Source.faults g.S.Source.name c.args.sources.items)
