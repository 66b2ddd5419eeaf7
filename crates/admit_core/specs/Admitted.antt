-- Admitted exposure: what a session has posted, as far as a read within the limit has covered it.
use Rattle.std.specs.Prelude.{◌≡◌, ℕ, ◌+◌, ◌≤◌, ◌==◌, List, [], ◌∷◌, ◌++◌, take, fold, min, replicate}
use Rattle.std.specs.Prelude.{sum_by, if◌then◌else◌, nat_le, IfSome, Some, slice_get, length, map}
use Rattle.std.specs.Prelude.{filter}
use Rattle.std.specs.List.{slice_index_or, slice_set, enumerate_from, flat_map}
use Rattle.risk_board.specs.declared.hand.Line.{Line}
use Rattle.risk_board.specs.History.{Event}
use Rattle.risk_board.specs.History.Event.{Posted, Saw}
use Rattle.risk_journal.specs.ActLists.{last_post}
use Rattle.risk_journal.specs.declared.acts.Act.{Act}
use Rattle.limit_table.specs.Trees.{LimitsValue, limit_of}
use Rattle.risk_journal.specs.ActLists.{events_of}

-- what a session has posted in a tree, and how much of it is admitted
pub record Standing : Type 0 where
  pub posted : ℕ
  pub admitted : ℕ

-- a session before its first post
abbrev pub nothing : Standing
nothing = record { posted = 0; admitted = 0 }

-- one step of a tree's history: a session posts a value, or reads one
pub data Moment : Type 0 where
  Posts : ℕ → ℕ → Moment
  Reads : ℕ → ℕ → Moment

-- a post lowers what is admitted to it
abbrev pub after_post : ℕ → Standing → Standing
after_post value standing =
    record { posted = value; admitted = min standing.admitted value }

-- a read within the limit admits what was posted
abbrev pub after_read : ℕ → ℕ → Standing → Standing
after_read limit value standing = record standing {
  admitted = if nat_le value limit then standing.posted else standing.admitted;
}

-- how a session stands, and as before its first post where there is none
abbrev pub standing_at : ℕ → List Standing → Standing
standing_at session standings = slice_index_or standings session nothing

-- the sessions after one step
abbrev pub after_moment : ℕ → List Standing → Moment → List Standing
after_moment limit standings (Posts session value) =
    slice_set standings session (after_post value (standing_at session standings))
after_moment limit standings (Reads session value) =
    slice_set standings session (after_read limit value (standing_at session standings))

-- a session's reads at a place, in order
abbrev pub reads_at : ℕ → ℕ → List Event → List Moment
reads_at session place [] = []
reads_at session place (Posted value ∷ events) = reads_at session place events
reads_at session place (Saw stamp at value ∷ events) =
    if at == place then Reads session value ∷ reads_at session place events
    else reads_at session place events

-- all reads at a place
abbrev pub all_reads_at : ℕ → List (ℕ × List Event) → List Moment
all_reads_at place numbered = flat_map (λ own. reads_at own.0 place own.1) numbered

-- the lines from a place on, each followed by the reads at its place
abbrev pub moments_from : ℕ → List Line → List (ℕ × List Event) → List Moment
moments_from place [] numbered = all_reads_at place numbered
moments_from place (line ∷ lines) numbered =
    all_reads_at place numbered
    ++ Posts line.session line.value ∷ moments_from (place + 1) lines numbered

-- the steps of a tree's history
abbrev pub moments : List Line → List (List Event) → List Moment
moments lines events = moments_from 0 lines (enumerate_from 0 events)

-- how each of so many sessions stands after these steps
abbrev pub standings_after : ℕ → ℕ → List Moment → List Standing
standings_after limit sessions passed =
    fold (after_moment limit) (replicate sessions nothing) passed

-- what is admitted over all of so many sessions after these steps
abbrev pub admitted_sum : ℕ → ℕ → List Moment → ℕ
admitted_sum limit sessions passed =
    sum_by (λ (standing : Standing). standing.admitted)
    (standings_after limit sessions passed)

-- after every line and every read, what is admitted is within the limit
abbrev pub StaysWithin : ℕ → ℕ → List Line → List (List Event) → Type 0
StaysWithin limit sessions lines events =
    (count : ℕ) → admitted_sum limit sessions (take count (moments lines events)) ≤ limit

-- how a session stands after one event of its own
abbrev pub after_event : ℕ → Standing → Event → Standing
after_event limit standing (Posted value) = after_post value standing
after_event limit standing (Saw stamp place value) = after_read limit value standing

-- what a session has admitted in a tree, by its own posts and reads there
abbrev pub own_admitted : ℕ → List Event → ℕ
own_admitted limit events = (fold (after_event limit) nothing events).admitted

-- whose step it is
abbrev pub session_of : Moment → ℕ
session_of (Posts session value) = session
session_of (Reads session value) = session

-- the steps of a session among others, in order
abbrev pub steps_of : ℕ → List Moment → List Moment
steps_of session passed = filter (λ moment. session_of moment == session) passed

-- a session's own event as a step of a tree's history
abbrev pub step_of : ℕ → Event → Moment
step_of session (Posted value) = Posts session value
step_of session (Saw stamp place value) = Reads session value

-- how many of the first so many steps are a session's
abbrev pub made_in : ℕ → ℕ → List Moment → ℕ
made_in session count passed = length (steps_of session (take count passed))

-- What a tree's history admits of each session is what the session's own posts and reads admit.
pub record AdmitsOwn (limit : ℕ) (lines : List Line) (events : List (List Event)) : Type 0 where
  -- a session's steps are its own posts and reads, each once and in its order
  pub steps : (session : ℕ) (own : List Event) → slice_get events session ≡ Some own
      → steps_of session (moments lines events) ≡ map (step_of session) own
  -- after so many steps a session stands as those of its own posts and reads that are among them
  -- leave it
  pub front : (session : ℕ) (own : List Event) (count : ℕ)
      → slice_get events session ≡ Some own
      → standing_at session
      (standings_after limit (length events) (take count (moments lines events)))
      ≡ fold (after_event limit) nothing
      (take (made_in session count (moments lines events)) own)
  -- and at the end as all of them do
  pub whole : (session : ℕ) (own : List Event) → slice_get events session ≡ Some own
      → standing_at session (standings_after limit (length events) (moments lines events))
      ≡ fold (after_event limit) nothing own
  -- so what is admitted at the end is the sum of what the sessions' own events admit
  pub total : admitted_sum limit (length events) (moments lines events)
      ≡ sum_by (own_admitted limit) events

-- in each tree with a limit what a session has admitted is its last post
abbrev pub AdmitsLast : LimitsValue → List Act → Type 0
AdmitsLast limits acts =
    (tree : ℕ) → IfSome (limit_of limits tree)
    (λ limit. own_admitted limit (events_of tree acts) ≡ last_post tree acts)
