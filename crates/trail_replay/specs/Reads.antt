-- What installs read, in rows by tree, node and stamp; and posts, in lists by tree.
use Rattle.std.specs.Prelude.{◌≡◌, ℕ, zero, suc, ◌+◌, ◌-◌, ◌*◌, ◌^◌, ◌<◌, List, [], ◌∷◌, ◌++◌}
use Rattle.std.specs.Prelude.{length, min, fold, map, replicate, slice_index_or, slice_set}
use Rattle.std.specs.List.{AllByRecursion}
use Rattle.stamp_word.specs.Word.{stamp_in}
use Rattle.risk_board.specs.declared.hand.Call.{Call}
use Rattle.risk_board.specs.declared.hand.Call.TheVariants.{Post, Read}
use Rattle.node_rule.specs.declared.view.Install.{Install}
use Rattle.node_rule.specs.Fronts.{word_at}
use Rattle.f_array.specs.declared.record.Record.{Record}
use Rattle.f_array.specs.Records.{Did}
use Rattle.trail_replay.specs.declared.reads.ChildStamps.{ChildStamps}
use Rattle.trail_replay.specs.Sums.{read_in_all}
use Rattle.trail_replay.specs.Histories.{posts_of_tree}

-- no install
abbrev pub unread : ChildStamps
unread = record { left = 0; right = 0 }

-- what this install read besides; a sum that a u32 can't hold stands at its end
abbrev pub stamps_with : Install → ChildStamps → ChildStamps
stamps_with x stamps = record {
  left = min (stamps.left + x.left) (2 ^ 32 - 1);
  right = min (stamps.right + x.right) (2 ^ 32 - 1);
}

-- a node's row with this install at its stamp
abbrev pub row_with : Install → List ChildStamps → List ChildStamps
row_with x row = slice_set row x.stamp (stamps_with x (slice_index_or row x.stamp unread))

-- a tree's rows with this install at its node
abbrev pub nodes_with : Install → List (List ChildStamps) → List (List ChildStamps)
nodes_with x nodes = slice_set nodes x.node (row_with x (slice_index_or nodes x.node []))

-- all rows with this install in its tree; one that has no place in them changes nothing
abbrev pub rows_with : List (List (List ChildStamps)) → Install → List (List (List ChildStamps))
rows_with rows x = slice_set rows x.tree (nodes_with x (slice_index_or rows x.tree []))

-- all rows with the installs of a trail
abbrev pub rows_after : List (List (List ChildStamps)) → List Install
    → List (List (List ChildStamps))
rows_after rows trail = fold rows_with rows trail

-- all rows with the installs of these passes
abbrev pub rows_of : List (List (List ChildStamps)) → List Did → List (List (List ChildStamps))
rows_of rows passes = fold (λ rows did. rows_after rows did.trail) rows passes

-- what f gives of each number below this one, in order
abbrev pub list_below : {A : Type 0} → (ℕ → A) → ℕ → List A
list_below f zero = []
list_below f (suc n) = list_below f n ++ f n ∷ []

-- a tree's rows before any install: a node has a place for each stamp from 0 to its own
abbrev pub empty_nodes : (ℕ → ℕ) → ℕ → List (List ChildStamps)
empty_nodes stamp nodes = list_below (λ node. replicate (stamp node + 1) unread) nodes

-- the rows of so many trees before any install
abbrev pub empty_rows : (ℕ → ℕ → ℕ) → ℕ → ℕ → List (List (List ChildStamps))
empty_rows stamp nodes trees = list_below (λ tree. empty_nodes (stamp tree) nodes) trees

-- the stamp of a node at the end
abbrev pub end_stamp : Record → ℕ → ℕ → ℕ
end_stamp taken tree node = stamp_in (word_at taken.shape.levels taken.words.items tree node)

-- the row of a node
abbrev pub row_of : List (List (List ChildStamps)) → ℕ → ℕ → List ChildStamps
row_of rows tree node = slice_index_or (slice_index_or rows tree []) node []

-- the rows say of each stamp of each node of the trees what its install read of a child, by this
-- sum, where a u32 holds it
pub record AreSums (trees nodes : ℕ) (sum : ℕ → ℕ → ℕ → ℕ) (rows : List (List (List ChildStamps)))
    : Type 0 where
  pub left : (tree node stamp : ℕ) → tree < trees → node < nodes
      → stamp < length (row_of rows tree node)
      → (slice_index_or (row_of rows tree node) stamp unread).left
      ≡ min (sum tree (2 * node) stamp) (2 ^ 32 - 1)
  pub right : (tree node stamp : ℕ) → tree < trees → node < nodes
      → stamp < length (row_of rows tree node)
      → (slice_index_or (row_of rows tree node) stamp unread).right
      ≡ min (sum tree (2 * node + 1) stamp) (2 ^ 32 - 1)

-- the rows have a place for each stamp of each inner node, and say what its installs read
pub record AreRows (taken : Record) (rows : List (List (List ChildStamps))) : Type 0 where
  pub long : (tree node : ℕ) → tree < taken.shape.trees → node < 2 ^ taken.shape.levels
      → length (row_of rows tree node) ≡ end_stamp taken tree node + 1
  pub sums : AreSums taken.shape.trees (2 ^ taken.shape.levels)
      (λ tree child stamp. read_in_all tree child stamp taken.passes.items) rows

-- the lists of posts by tree with this call; a post in a tree that has no list changes nothing
abbrev pub lists_with : List (List ℕ) → Call → List (List ℕ)
lists_with lists (Post tree value) =
    slice_set lists tree (slice_index_or lists tree [] ++ value ∷ [])
lists_with lists (Read tree stamp value) = lists

-- the posts of these calls by tree
abbrev pub lists_of : ℕ → List Call → List (List ℕ)
lists_of trees calls = fold lists_with (replicate trees []) calls

-- of each session of the record the posts in this tree stand in its lists
pub record ArePosts (taken : Record) (tree : ℕ) (posts : List (List (List ℕ))) : Type 0 where
  pub each : map (λ lists. slice_index_or lists tree []) posts
      ≡ posts_of_tree tree taken.passes.items
  pub long : AllByRecursion (λ lists. tree < length lists) posts

-- what is prepared of a record
pub record IsPrepared (taken : Record) (rows : List (List (List ChildStamps)))
    (posts : List (List (List ℕ))) : Type 0 where
  pub read : AreRows taken rows
  pub posted : (tree : ℕ) → tree < taken.shape.trees → ArePosts taken tree posts
