-- What a session's orders rest as is admitted, after each frame.
use Rattle.std.specs.Prelude.{◌≡◌, ℕ, true}
use Rattle.risk_journal.specs.ActLists.{events_of, last_post}
use Rattle.cross_guard.specs.Halves.{cross_le}
use Rattle.cross_guard.specs.Resting.{value_in}
use Rattle.cross_guard.specs.Session.{CrossSession}
use Rattle.cross_guard.specs.Standings.{own_standing}

-- In each symbol what the session's orders rest as is admitted, and no more is admitted than was last
-- posted.
pub record Covers (session : CrossSession) : Type 0 where
  pub orders : (symbol : ℕ) → cross_le (value_in symbol session.orders)
      (own_standing (events_of symbol session.acts)).admitted ≡ true
  pub admitted : (symbol : ℕ) → cross_le (own_standing (events_of symbol session.acts)).admitted
      (last_post symbol session.acts) ≡ true
  pub posted : (symbol : ℕ)
      → (own_standing (events_of symbol session.acts)).posted ≡ last_post symbol session.acts
