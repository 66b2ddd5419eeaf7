-- What is admitted along a tree's history stays within a limit.
use Rattle.std.specs.Prelude.{ℕ, ◌≤◌, ◌<◌, ◌&&◌, List, [], ◌∷◌, Bool, true, nat_le, replicate, sum_by}
use Rattle.std.specs.Prelude.{map}
use Rattle.fold_law.specs.declared.limits.TheConstants.{LEAF}
use Rattle.risk_board.specs.declared.hand.Line.{Line}
use Rattle.admit_core.specs.Admitted.{Moment, nothing, after_moment}
use Rattle.admit_core.specs.Admitted.{Standing as OwnStanding}
use Rattle.tree_check.specs.declared.read_at.ReadAt.{ReadAt}
use Rattle.tree_check.specs.declared.standing.Standing.{Standing}
use Rattle.tree_check.specs.Reads.{moments_with}

-- what all sessions have admitted
abbrev pub admitted_by : List OwnStanding → ℕ
admitted_by standings = sum_by (λ (own : OwnStanding). own.admitted) standings

-- after each of these steps what is admitted is within the limit
abbrev pub stays_from : ℕ → List OwnStanding → List Moment → Bool
stays_from limit standings [] = true
stays_from limit standings (moment ∷ moments) =
    nat_le (admitted_by (after_moment limit standings moment)) limit
    && stays_from limit (after_moment limit standings moment) moments

-- after every line and every read of a history what is admitted by so many sessions is within the limit
abbrev pub stays_along : ℕ → ℕ → List Line → List ReadAt → Bool
stays_along limit sessions lines reads =
    stays_from limit (replicate sessions nothing) (moments_with 0 lines reads)

-- how a session stands, as it is kept
abbrev pub standing_value : Standing → OwnStanding
standing_value own = record { posted = own.posted; admitted = own.admitted }

-- how the sessions stand, as they are kept
abbrev pub standing_values : List Standing → List OwnStanding
standing_values standings = map standing_value standings

-- a session stands at values that a leaf may have
pub record IsLow (own : Standing) : Type 0 where
  pub posted : own.posted ≤ LEAF
  pub admitted : own.admitted ≤ LEAF

-- a line of one of so many sessions, with a value that a leaf may have
pub record IsOwn (sessions : ℕ) (line : Line) : Type 0 where
  pub session : line.session < sessions
  pub value : line.value ≤ LEAF
