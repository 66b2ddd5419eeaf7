-- What a pass is as a hand.
use Rattle.std.specs.Prelude.{ℕ}
use Rattle.std.proofs.Common.{refl, ap, ◌∙◌}
use Rattle.risk_board.specs.Hands.{HandValue, KeepsOrigin}
use Rattle.node_rule.specs.declared.view.Plan.{Plan}
use Rattle.node_rule.specs.Standing.{Forested}
use Rattle.f_array.specs.Passes.{PassValue, IsSamePass}

-- a pass beside its forest
pub record HeldPass : Type 0 where
  pub forest : Forested
  pub pass : PassValue

-- the hand's meaning: the pass's calls, and the bounds of further calls
abbrev pub hand_of : ℕ → PassValue → HandValue
hand_of cap pass = record {
  number = pass.track.number;
  trees = pass.plan.trees;
  quota = pass.plan.quota;
  cap = cap;
  spare = pass.spare;
  calls = pass.track.calls;
}

-- a pass is of one origin with itself, with what comes of what comes of it, and keeps its bounds
pub same_pass_itself : (a : PassValue) → IsSamePass a a
same_pass_itself a = (refl, refl, refl)

pub same_pass_next : (a b c : PassValue) → IsSamePass a b → IsSamePass b c → IsSamePass a c
same_pass_next a b c first next = (next.0 ∙ first.0, next.1 ∙ first.1, next.2 ∙ first.2)

pub same_pass_keeps : (cap : ℕ) (a b : PassValue) → IsSamePass a b
    → KeepsOrigin (hand_of cap a) (hand_of cap b)
same_pass_keeps cap a b same = record {
  number = same.2;
  trees = ap (λ (p : Plan). p.trees) same.1;
  quota = ap (λ (p : Plan). p.quota) same.1;
  cap = refl;
}
