-- no session has more posts than lines
use Rattle.std.proofs.Common.{◌<◌, ◌≤◌, [], ap, length, arith, ⊎_elim}
use Rattle.std.proofs.lemmas.List.{get_or_past}
use Rattle.journal_check.proofs.Cases.{le_or_lt}
use Rattle.journal_check.proofs.Kept.{kept, kept_count}
use Rattle.journal_check.proofs.tree_lines.lacking.Goals as goal

pub returns-clause-none : goal.returns-clause-none
returns-clause-none c = λ none lines counts session. ⊎_elim
    (λ (past : c.loop-session.session ≤ session).
    let empty = ap length (get_or_past (kept c.args.posts.now) session []
    (omega (arith, past, c.loop-session-test.false, kept_count c.args.posts.now))) in
    omega (arith, empty))
    (λ (less : session < c.loop-session.session). c.loop-session.invariant lines counts session less)
    (le_or_lt c.loop-session.session session)
