-- Reads in lists by their places, and by their trees.
use Rattle.std.specs.Prelude.{ℕ, List, [], ◌∷◌, ◌++◌, fold, slice_set, slice_index_or}
use Rattle.risk_journal.specs.declared.acts.Act.{Act}
use Rattle.risk_journal.specs.declared.acts.Act.TheVariants.{Post, Read, Sent, Refused, Noted, Ended}
use Rattle.tree_check.specs.declared.read_at.ReadAt.{ReadAt}

-- the lists with one read more in this one; where there is no such list nothing changes
abbrev pub with_one : List (List ReadAt) → ℕ → ReadAt → List (List ReadAt)
with_one lists at read = slice_set lists at (slice_index_or lists at [] ++ read ∷ [])

-- the lists by place with this read
abbrev pub with_read : List (List ReadAt) → ReadAt → List (List ReadAt)
with_read lists read = with_one lists read.place read

-- the lists by tree with this act of a session, if it is a read
abbrev pub with_act : ℕ → List (List ReadAt) → Act → List (List ReadAt)
with_act session lists (Read tree stamp place value) =
    with_one lists tree (record { session = session; place = place; value = value })
with_act session lists (Post tree index value) = lists
with_act session lists (Sent frame) = lists
with_act session lists (Refused frame code first second) = lists
with_act session lists (Noted frame code first second) = lists
with_act session lists (Ended end) = lists

-- the lists by tree with these acts of a session
abbrev pub with_acts : ℕ → List (List ReadAt) → List Act → List (List ReadAt)
with_acts session lists acts = fold (with_act session) lists acts
