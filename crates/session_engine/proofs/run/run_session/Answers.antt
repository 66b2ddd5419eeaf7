-- Where memory was wanting at the beginning, no frame was taken.
use Rattle.std.proofs.Common.{[], ◌∷◌, ◌++◌, ap, ◌∙◌, inl}
use Rattle.risk_journal.specs.declared.acts.Act.TheVariants.{Ended}
use Rattle.risk_journal.specs.declared.acts.End.TheVariants as ending
use Rattle.session_engine.proofs.Stopping.{ran_first, told_first}
use Rattle.session_engine.proofs.run.run_session.Goals as goal

pub returns-in-Err-clause-follows : goal.returns-in-Err-clause-follows
returns-in-Err-clause-follows g c =
    rw c.without_frames.ensures
    (ran_first _ _ (g.S.Source.left c.args.source) c.in-Err.ended.acts.items _ _
    (told_first c.in-Err.ended.acts.items _ c.in-Err.ensures.told))

pub returns-in-Err-new-clause-follows : goal.returns-in-Err-new-clause-follows
returns-in-Err-new-clause-follows g c =
    rw c.without_frames-in-Err-new.ensures
    (ran_first _ _ (g.S.Source.left c.args.source) c.end.result.acts.items _ _
    (inl (c.end.ensures.acts ∙ ap (λ l. l ++ Ended ending.Memory ∷ []) c.in-Ok.ensures.ok.acts_are)))
