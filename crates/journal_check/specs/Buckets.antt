-- What the sessions did in one tree, and how acts are told, tree by tree.
use Rattle.std.specs.Prelude.{◌≡◌, ℕ, ◌+◌, ◌<◌, List, [], ◌∷◌, ◌++◌, length, map, replicate}
use Rattle.std.specs.Prelude.{slice_set, slice_index_or}
use Rattle.risk_journal.specs.declared.acts.Act.{Act}
use Rattle.risk_journal.specs.declared.acts.Act.TheVariants.{Post, Read, Sent, Refused, Noted, Ended}
use Rattle.journal_check.specs.Trees.{tree_posts}
use Rattle.journal_check.specs.ReadRows.{ReadRow, tree_reads}
use Rattle.journal_check.specs.declared.tree_acts.TreeActs.{TreeActs}

-- the posts of each session, the reads, and the stamp of the last read of the session that is told
pub record TreeValue : Type 0 where
  pub posts : List (List ℕ)
  pub reads : List ReadRow
  pub least : ℕ

abbrev pub tree_value : TreeActs → TreeValue
tree_value own = record {
  posts = map (λ values. values.items) own.posts.items;
  reads = own.reads.items;
  least = own.least;
}

-- so many sessions did nothing
abbrev pub empty_tree : ℕ → TreeValue
empty_tree sessions = record { posts = replicate sessions []; reads = []; least = 0 }

-- what stands past the last tree
abbrev pub no_tree : TreeValue
no_tree = record { posts = []; reads = []; least = 0 }

-- the next session is told
abbrev pub begun : TreeValue → TreeValue
begun own = record own { least = 0 }

-- with a post of a session
abbrev pub with_post : ℕ → ℕ → TreeValue → TreeValue
with_post session value own = record own {
  posts = slice_set own.posts session (slice_index_or own.posts session [] ++ value ∷ []);
}

-- with a read, which knows what its session did before it
abbrev pub with_read : ReadRow → TreeValue → TreeValue
with_read read own = record own {
  reads = own.reads ++ record read {
    made = length (slice_index_or own.posts read.session []);
    least = own.least;
  } ∷ [];
  least = read.stamp;
}

-- a read by its act alone
abbrev pub read_row : ℕ → ℕ → ℕ → ℕ → ℕ → ReadRow
read_row row session stamp place value = record {
  row = row;
  session = session;
  made = 0;
  least = 0;
  stamp = stamp;
  place = place;
  value = value;
}

-- the trees with one changed; where there is none with this number nothing changes
abbrev pub changed_at : ℕ → (TreeValue → TreeValue) → List TreeValue → List TreeValue
changed_at tree change trees = slice_set trees tree (change (slice_index_or trees tree no_tree))

-- the trees with this act of a session, in this row
abbrev pub with_act : ℕ → ℕ → List TreeValue → Act → List TreeValue
with_act session row trees (Post tree index value) =
    changed_at tree (with_post session value) trees
with_act session row trees (Read tree stamp place value) =
    changed_at tree (with_read (read_row row session stamp place value)) trees
with_act session row trees (Sent frame) = trees
with_act session row trees (Refused frame code first second) = trees
with_act session row trees (Noted frame code first second) = trees
with_act session row trees (Ended end) = trees

-- the trees with these acts of a session, the first in this row
abbrev pub with_acts : ℕ → ℕ → List TreeValue → List Act → List TreeValue
with_acts session row trees [] = trees
with_acts session row trees (act ∷ acts) =
    with_acts session (row + 1) (with_act session row trees act) acts

-- the trees with the acts of these sessions, of which the first has this number
abbrev pub with_sessions : ℕ → ℕ → List TreeValue → List (List Act) → List TreeValue
with_sessions session row trees [] = trees
with_sessions session row trees (own ∷ acts) =
    with_sessions (session + 1) (row + length own) (with_acts session row (map begun trees) own) acts

-- each of so many trees has the posts and the reads that these acts tell of it
pub record IsByTree (tree : ℕ) (acts : List (List Act)) (own : TreeValue) : Type 0 where
  pub posts_are : own.posts ≡ tree_posts tree acts
  pub reads_are : own.reads ≡ tree_reads tree acts

abbrev pub AreByTree : ℕ → List (List Act) → List TreeValue → Type 0
AreByTree count acts trees =
    (tree : ℕ) → tree < count → IsByTree tree acts (slice_index_or trees tree no_tree)
