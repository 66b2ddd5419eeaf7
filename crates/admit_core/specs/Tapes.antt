-- The acts of a session so far, with the reads that are still to come.
use Rattle.std.specs.Prelude.{ℕ, ◌+◌, List, [], ◌∷◌, ◌++◌, drop}
use Rattle.risk_board.specs.declared.hand.Seen.{Seen}
use Rattle.risk_journal.specs.declared.acts.Act.{Act}
use Rattle.risk_journal.specs.declared.acts.Act.TheVariants.{Post, Read, Sent, Refused, Noted, Ended}
use Rattle.risk_journal.specs.ActLists.{SeenAt, posts_in}

pub record Tape : Type 0 where
  pub acts : List Act
  pub reads : List SeenAt

abbrev pub tape : List Act → List SeenAt → Tape
tape acts reads = record { acts = acts; reads = reads }

-- the next read, and zeros past the last
abbrev pub next_read : List SeenAt → SeenAt
next_read [] = record { stamp = 0; place = 0; value = 0 }
next_read (seen ∷ reads) = seen

-- a root whose place in the tree's history isn't known, and is told as 0
abbrev pub unplaced : Seen → SeenAt
unplaced seen = record { stamp = seen.stamp; place = 0; value = seen.value }

-- a post of the next index in the tree
abbrev pub with_post : ℕ → ℕ → List Act → List Act
with_post tree value acts = acts ++ Post tree (posts_in tree acts + 1) value ∷ []

abbrev pub after_posting : ℕ → ℕ → Tape → Tape
after_posting tree value before = record before { acts = with_post tree value before.acts }

-- the read of a root, as an act
abbrev pub read_act : ℕ → SeenAt → Act
read_act tree seen = Read tree seen.stamp seen.place seen.value

-- a read of the tree's root
abbrev pub with_read : ℕ → SeenAt → List Act → List Act
with_read tree seen acts = acts ++ read_act tree seen ∷ []

-- the next read, in the tree
abbrev pub after_reading : ℕ → Tape → Tape
after_reading tree before = record {
  acts = with_read tree (next_read before.reads) before.acts;
  reads = drop 1 before.reads;
}

-- the act is no call
abbrev pub IsNoCall : Act → Type 0
IsNoCall (Post tree index value) = ⊥
IsNoCall (Read tree stamp place value) = ⊥
IsNoCall (Sent frame) = Unit {0}
IsNoCall (Refused frame code first second) = Unit {0}
IsNoCall (Noted frame code first second) = Unit {0}
IsNoCall (Ended end) = Unit {0}
