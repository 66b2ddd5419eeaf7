use Rattle.std.proofs.Common.{refl}
use Rattle.make_load.proofs.laws.worked_draws.Goals as goal

pub returns-clause-first : goal.returns-clause-first
returns-clause-first c = refl

pub returns-clause-second : goal.returns-clause-second
returns-clause-second c = refl

pub returns-clause-session : goal.returns-clause-session
returns-clause-session c = refl

pub returns-clause-last : goal.returns-clause-last
returns-clause-last c = refl
