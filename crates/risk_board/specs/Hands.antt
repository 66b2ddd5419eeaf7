-- What a hand is, and what its calls leave.
use Rattle.std.specs.Prelude.{◌≡◌, ℕ, ◌-◌, List, [], ◌∷◌, ◌++◌}
use Rattle.risk_board.specs.declared.hand.Call.{Call}

-- a session's calls so far, in order, and the bounds of its further calls
pub record HandValue : Type 0 where
  -- the session, from 0
  pub number : ℕ
  -- how many trees there are
  pub trees : ℕ
  -- how many posts a session may make in a tree
  pub quota : ℕ
  -- the largest value of a post
  pub cap : ℕ
  -- for how many more calls there is room
  pub spare : ℕ
  pub calls : List Call

-- the hand after a call
abbrev pub with_call : Call → HandValue → HandValue
with_call call hand = record hand { calls = hand.calls ++ call ∷ []; spare = hand.spare - 1 }

-- the same number and bounds
pub record KeepsOrigin (before now : HandValue) : Type 0 where
  pub number : now.number ≡ before.number
  pub trees : now.trees ≡ before.trees
  pub quota : now.quota ≡ before.quota
  pub cap : now.cap ≡ before.cap

-- the same number, bounds and calls
abbrev pub KeepsHand : HandValue → HandValue → Type 0
KeepsHand before now = now ≡ record before { spare = now.spare }
