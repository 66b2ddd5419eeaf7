-- The reads of a tree, and its history with the reads at their places.
use Rattle.std.specs.Prelude.{ℕ, ◌+◌, ◌<◌, ◌==◌, List, [], ◌∷◌, ◌++◌, map, filter, Bool}
use Rattle.std.specs.List.{flat_map, enumerate_from, AllByRecursion}
use Rattle.risk_board.specs.declared.hand.Line.{Line}
use Rattle.risk_board.specs.History.{Event}
use Rattle.risk_board.specs.History.Event.{Posted, Saw}
use Rattle.risk_journal.specs.declared.acts.Act.{Act}
use Rattle.risk_journal.specs.ActLists.{events_of}
use Rattle.admit_core.specs.Admitted.{Moment}
use Rattle.admit_core.specs.Admitted.Moment.{Posts, Reads}
use Rattle.tree_check.specs.declared.read_at.ReadAt.{ReadAt}

-- the reads among what a session did in a tree, in order
abbrev pub own_reads : ℕ → List Event → List ReadAt
own_reads session [] = []
own_reads session (Posted value ∷ events) = own_reads session events
own_reads session (Saw stamp place value ∷ events) =
    record { session = session; place = place; value = value } ∷ own_reads session events

-- the reads of all sessions in a tree, session by session
abbrev pub reads_in : List (List Event) → List ReadAt
reads_in events = flat_map (λ own. own_reads own.0 own.1) (enumerate_from 0 events)

-- the reads of a tree by the acts of all sessions
abbrev pub reads_by : ℕ → List (List Act) → List ReadAt
reads_by tree acts = reads_in (map (events_of tree) acts)

-- the read is at this place
abbrev pub is_at : ℕ → ReadAt → Bool
is_at place read = read.place == place

-- a read as a step of a tree's history
abbrev pub read_moment : ReadAt → Moment
read_moment read = Reads read.session read.value

-- a line as a step of a tree's history
abbrev pub line_moment : Line → Moment
line_moment line = Posts line.session line.value

-- the reads at a place, in order
abbrev pub moments_at : ℕ → List ReadAt → List Moment
moments_at place reads = map read_moment (filter (is_at place) reads)

-- the lines from a place on, each followed by the reads at its place
abbrev pub moments_with : ℕ → List Line → List ReadAt → List Moment
moments_with place [] reads = moments_at place reads
moments_with place (line ∷ lines) reads =
    moments_at place reads ++ line_moment line ∷ moments_with (place + 1) lines reads

-- the lines, each after the reads of the list in its place, and then those of one list more
abbrev pub moments_by : List Line → List (List ReadAt) → List Moment
moments_by lines [] = []
moments_by [] (own ∷ places) = map read_moment own
moments_by (line ∷ lines) (own ∷ places) =
    map read_moment own ++ line_moment line ∷ moments_by lines places

-- each read is of one of so many sessions
abbrev pub AreOf : ℕ → List ReadAt → Type 0
AreOf sessions reads = AllByRecursion (λ read. read.session < sessions) reads
