-- One session more.
use Rattle.std.proofs.Common.{map, ap, ◌∙◌, arith, Vec, Global}
use Rattle.std.proofs.lemmas.List.{length-map}
use Rattle.risk_journal.specs.declared.acts.Act.{Act}
use Rattle.tree_check.specs.Buckets.{with_acts}
use Rattle.tree_check.proofs.ByTree.{no_sessions, session_added, all_sessions}
use Rattle.tree_check.proofs.read_at.reads_by_tree.Goals as goal

pub loop-session-init : goal.loop-session-init
loop-session-init c =
    c.in_ok-all.ensures ∙ no_sessions (map (λ own. own.items) c.args.acts.now) c.args.trees

pub loop-session-preserved : goal.loop-session-preserved
loop-session-preserved c =
    c.in_ok-add_session.ensures
    ∙ ap (λ lists. with_acts c.loop-session.session lists c.as_slice.result.now)
    c.loop-session.invariant
    ∙ session_added c.args.acts.now c.loop-session.session c.args.trees
    c.index-acts-session.result c.as_slice.result.now (omega arith) c.index-acts-session.is
    c.as_slice.ensures.value

pub returns : goal.returns
returns c =
    c.loop-session.invariant
    ∙ all_sessions (map (λ own. own.items) c.args.acts.now) c.loop-session.session c.args.trees
    (omega (arith, length-map c.args.acts.now (λ (own : Vec Act Global). own.items)))
