use Rattle.std.proofs.Common.{ℕ, map, ap, sym, ◌∙◌, subst}
use Rattle.session_tasks.specs.Tasks.{HasSpare}
use Rattle.session_tasks.proofs.TasksBack.{zip_long}
use Rattle.session_tasks.proofs.ended.run_all.Goals as goal

pub taken_apart-requires-clause-room : goal.taken_apart-requires-clause-room
taken_apart-requires-clause-room g c =
    subst (λ (n : ℕ). HasSpare n c.args.tasks.ended)
    (sym (zip_long _ c.args.tasks.waiting.items c.in-Ok.done.items c.in-Ok.ensures.ok))
    c.requires.room.spare

pub returns-in-Ok-clause-ok : goal.returns-in-Ok-clause-ok
returns-in-Ok-clause-ok g c =
    (c.in-Ok.done.items, c.in-Ok.ensures.ok, c.taken_apart.ensures)

pub returns-in-Err-clause-err : goal.returns-in-Err-clause-err
returns-in-Err-clause-err g c =
    c.opened_of.ensures ∙ ap (map (λ t. t.opened)) c.in-Err.ensures.err
