-- One history for each tree: a plain array, and where each read stands in it.
use Rattle.std.specs.Prelude.{◌≡◌, ℕ, zero, suc, ◌+◌, ◌*◌, ◌≤◌, ◌<◌, ◌==◌, List, [], ◌∷◌}
use Rattle.std.specs.Prelude.{slice_get, slice_set, Some, length, take, fold, filter, replicate, nat_lt}
use Rattle.std.specs.Prelude.{if◌then◌else◌}
use Rattle.std.specs.List.{AllByRecursion}
use Rattle.risk_board.specs.declared.hand.Line.{Line}
use Rattle.risk_board.specs.declared.hand.Call.{Call}
use Rattle.risk_board.specs.declared.hand.Call.TheVariants.{Post, Read}

-- what a session did in one tree
pub data Event : Type 0 where
  Posted : ℕ → Event
  -- the root stamp, the place in the tree's history, and the value
  Saw : ℕ → ℕ → ℕ → Event

-- the values that were posted, in order
abbrev pub posted : List Event → List ℕ
posted [] = []
posted (Posted value ∷ events) = value ∷ posted events
posted (Saw stamp place value ∷ events) = posted events

-- the events of a tree among a session's calls, with the place of a read by its stamp
abbrev pub events_of_calls : (ℕ → ℕ) → ℕ → List Call → List Event
events_of_calls place tree [] = []
events_of_calls place tree (Post in_tree value ∷ calls) =
    let later = events_of_calls place tree calls in
    if in_tree == tree then Posted value ∷ later else later
events_of_calls place tree (Read in_tree stamp value ∷ calls) =
    let later = events_of_calls place tree calls in
    if in_tree == tree then Saw stamp (place stamp) value ∷ later else later

-- a power of two, doubled while it is below the least, at most so many times
abbrev pub doubled : ℕ → ℕ → ℕ → ℕ
doubled zero power least = power
doubled (suc times) power least =
    if nat_lt power least then doubled times (2 * power) least else power

-- how many components the arrays of so many sessions have: the least power of two that is enough
abbrev pub components_of : ℕ → ℕ
components_of sessions = doubled sessions 1 sessions

-- the plain array of so many components after these lines, each component at first the unit
abbrev pub array_after : ℕ → ℕ → List Line → List ℕ
array_after unit components lines =
    fold (λ array line. slice_set array line.session line.value) (replicate components unit) lines

-- the lines of a session
abbrev pub lines_of : ℕ → List Line → List Line
lines_of session lines = filter (λ line. line.session == session) lines

-- the lines that a session's posts make, in its order, from this index on
abbrev pub own_lines : ℕ → ℕ → List ℕ → List Line
own_lines session index [] = []
own_lines session index (value ∷ values) =
    record { session = session; index = index; value = value } ∷ own_lines session (index + 1) values

-- Each read after so many own posts is of the fold of the array at its place, and of the reader's own
-- posts exactly those before it stand there.
abbrev pub ReadsFit : (List ℕ → ℕ) → ℕ → ℕ → List Line → ℕ → ℕ → List Event → Type 0
ReadsFit whole unit components lines session made [] = Unit {0}
ReadsFit whole unit components lines session made (Posted value ∷ events) =
    ReadsFit whole unit components lines session (made + 1) events
ReadsFit whole unit components lines session made (Saw stamp place value ∷ events) =
    (place ≤ length lines)
    × (value ≡ whole (array_after unit components (take place lines)))
    × (length (lines_of session (take place lines)) ≡ made)
    × ReadsFit whole unit components lines session made events

-- the stamps of the reads never fall, from one on
abbrev pub StampsRise : ℕ → List Event → Type 0
StampsRise least [] = Unit {0}
StampsRise least (Posted value ∷ events) = StampsRise least events
StampsRise least (Saw stamp place value ∷ events) = (least ≤ stamp) × StampsRise stamp events

-- a read of that stamp and place stands to each of these as their stamps do
abbrev pub PlaceFollows : ℕ → ℕ → List Event → Type 0
PlaceFollows stamp place [] = Unit {0}
PlaceFollows stamp place (Posted value ∷ events) = PlaceFollows stamp place events
PlaceFollows stamp place (Saw other at value ∷ events) =
    ((stamp ≤ other → place ≤ at) × (other ≤ stamp → at ≤ place)) × PlaceFollows stamp place events

-- each read of the one stands so to each of the other
abbrev pub PlacesFollow : List Event → List Event → Type 0
PlacesFollow [] others = Unit {0}
PlacesFollow (Posted value ∷ events) others = PlacesFollow events others
PlacesFollow (Saw stamp place value ∷ events) others =
    PlaceFollows stamp place others × PlacesFollow events others

-- What holds of one session: its posts stand once, in its order, and its reads fit.
pub record IsOwnLegal (whole : List ℕ → ℕ) (unit components : ℕ) (lines : List Line)
    (session : ℕ) (own : List Event) : Type 0 where
  pub each_once : lines_of session lines ≡ own_lines session 1 (posted own)
  pub reads : ReadsFit whole unit components lines session 0 own
  pub stamps : StampsRise 0 own

-- One legal history of a tree: each post once, in its session's order, and each read at its place.
pub record IsLegal (whole : List ℕ → ℕ) (unit components : ℕ) (lines : List Line)
    (events : List (List Event)) : Type 0 where
  -- each session has a component, and no line is of another
  pub few : length events ≤ components
  pub sessions : AllByRecursion (λ line. line.session < length events) lines
  pub each : (session : ℕ) (own : List Event) → slice_get events session ≡ Some own
      → IsOwnLegal whole unit components lines session own
  -- a read of no later a stamp has no later a place, over all sessions
  pub places : (one : ℕ) (own : List Event) (other : ℕ) (others : List Event)
      → slice_get events one ≡ Some own → slice_get events other ≡ Some others
      → PlacesFollow own others
