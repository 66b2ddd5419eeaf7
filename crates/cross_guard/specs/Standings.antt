-- What a session has posted of a symbol, and how much of it is admitted: as much as a clear read has
-- covered.
use Rattle.std.specs.Prelude.{◌≡◌, ℕ, List, true, fold, length, map, replicate, take}
use Rattle.std.specs.Prelude.{if◌then◌else◌, slice_get, Some}
use Rattle.std.specs.List.{slice_set}
use Rattle.fold_law.specs.Whole.{whole_of}
use Rattle.risk_board.specs.declared.hand.Line.{Line}
use Rattle.risk_board.specs.History.{Event}
use Rattle.risk_board.specs.History.Event.{Posted, Saw}
use Rattle.admit_core.specs.Admitted.{Standing, nothing, standing_at, Moment, moments, made_in}
use Rattle.admit_core.specs.Admitted.Moment.{Posts, Reads}
use Rattle.cross_guard.specs.Halves.{cross_join, cross_meet, is_clear}

-- a post lowers what is admitted to it, by halves
abbrev pub after_post : ℕ → Standing → Standing
after_post value standing =
    record { posted = value; admitted = cross_meet standing.admitted value }

-- a read of a clear value admits what was posted
abbrev pub after_read : ℕ → Standing → Standing
after_read value standing = record standing {
  admitted = if is_clear value then standing.posted else standing.admitted;
}

-- the sessions after one step of the tree's history
abbrev pub after_moment : List Standing → Moment → List Standing
after_moment standings (Posts session value) =
    slice_set standings session (after_post value (standing_at session standings))
after_moment standings (Reads session value) =
    slice_set standings session (after_read value (standing_at session standings))

-- how each of so many sessions stands after these steps
abbrev pub standings_after : ℕ → List Moment → List Standing
standings_after sessions passed = fold after_moment (replicate sessions nothing) passed

-- what is admitted over all sessions: the highest buy and the lowest sell
abbrev pub admitted_join : List Standing → ℕ
admitted_join standings =
    whole_of cross_join 0 (map (λ (standing : Standing). standing.admitted) standings)

-- after every line and every read, the highest admitted buy is below the lowest admitted sell
abbrev pub StaysClear : ℕ → List Line → List (List Event) → Type 0
StaysClear sessions lines events =
    (count : ℕ)
    → is_clear (admitted_join (standings_after sessions (take count (moments lines events)))) ≡ true

-- how a session stands after one event of its own
abbrev pub after_event : Standing → Event → Standing
after_event standing (Posted value) = after_post value standing
after_event standing (Saw stamp place value) = after_read value standing

-- how a session stands in a symbol, by its own posts and reads there
abbrev pub own_standing : List Event → Standing
own_standing events = fold after_event nothing events

-- What a symbol's history admits of each session is what the session's own posts and reads admit.
pub record AdmitsOwn (lines : List Line) (events : List (List Event)) : Type 0 where
  -- after so many steps a session stands as those of its own posts and reads that are among them
  -- leave it
  pub front : (session : ℕ) (own : List Event) (count : ℕ)
      → slice_get events session ≡ Some own
      → standing_at session (standings_after (length events) (take count (moments lines events)))
      ≡ own_standing (take (made_in session count (moments lines events)) own)
  -- and at the end as all of them do
  pub whole : (session : ℕ) (own : List Event) → slice_get events session ≡ Some own
      → standing_at session (standings_after (length events) (moments lines events))
      ≡ own_standing own
  -- so what is admitted at the end is the join of what the sessions' own events admit
  pub total : admitted_join (standings_after (length events) (moments lines events))
      ≡ admitted_join (map own_standing events)
