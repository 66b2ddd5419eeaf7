-- Which posts a stamp of a node covers, and the value that it has.
use Rattle.std.specs.Prelude.{ℕ, zero, suc, ◌+◌, ◌-◌, ◌*◌, ◌/◌, ◌^◌, ◌<◌, ◌≤◌, List, slice_index}
use Rattle.stamp_word.specs.Word.{stamp_in}
use Rattle.stamp_word.specs.Places.{place_of}
use Rattle.node_rule.specs.declared.view.View.{View}
use Rattle.node_rule.specs.Sums.{over, seen_in, posts_of, times_in, installs_in, post_of}

-- What the words and the views say of stamps: the stamp of each node, the stamps at which installs
-- read children, and how many posts each session has
pub record Board : Type 0 where
  pub stamp : ℕ → ℕ → ℕ
  pub seen : ℕ → ℕ → ℕ → ℕ
  pub times : ℕ → ℕ → ℕ → ℕ
  pub installs : ℕ → ℕ → ℕ
  pub posts : ℕ → ℕ → ℕ

-- the word of a node
abbrev pub word_at : ℕ → List ℕ → ℕ → ℕ → ℕ
word_at levels words tree node = slice_index words (place_of levels tree node)

-- what the words and the views say of stamps
abbrev pub board_of : ℕ → List ℕ → List View → Board
board_of levels words views = record {
  stamp = λ tree node. stamp_in (word_at levels words tree node);
  seen = λ tree child stamp. over (seen_in tree child stamp) views;
  times = λ tree node stamp. over (times_in tree node stamp) views;
  installs = λ tree node. over (installs_in tree node) views;
  posts = λ number tree. over (posts_of number tree) views;
}

-- the node that is this many levels above a leaf
abbrev pub ancestor : ℕ → ℕ → ℕ
ancestor leaf zero = leaf
ancestor leaf (suc height) = ancestor leaf height / 2

-- how many posts of the leaf's session the stamp of its ancestor covers: the way goes down through
-- one install a level
abbrev pub cover : (ℕ → ℕ → ℕ) → ℕ → ℕ → ℕ → ℕ
cover seen leaf zero stamp = stamp
cover seen leaf (suc height) stamp = cover seen leaf height (seen (ancestor leaf height) stamp)

-- the value of a node at a stamp, from the values of the leaves at theirs
abbrev pub value_of : (ℕ → ℕ → ℕ) → (ℕ → ℕ → ℕ) → (ℕ → ℕ → ℕ) → ℕ → ℕ → ℕ → ℕ
value_of join at_leaf seen zero node stamp = at_leaf node stamp
value_of join at_leaf seen (suc height) node stamp =
    join (value_of join at_leaf seen height (2 * node) (seen (2 * node) stamp))
    (value_of join at_leaf seen height (2 * node + 1) (seen (2 * node + 1) stamp))

-- a node this deep
pub record IsDeep (depth node : ℕ) : Type 0 where
  pub low : 2 ^ depth ≤ node
  pub high : node < 2 * 2 ^ depth

-- the post of a leaf's session with this index; at 0 the unit
abbrev pub leaf_value : ℕ → ℕ → List View → ℕ → ℕ → ℕ → ℕ
leaf_value levels unit views tree node zero = unit
leaf_value levels unit views tree node (suc k) =
    over (post_of (node - 2 ^ levels) tree (suc k)) views

-- the value of a node at a stamp, by the installs of all views
abbrev pub value_at : ℕ → ℕ → (ℕ → ℕ → ℕ) → List View → ℕ → ℕ → ℕ → ℕ → ℕ
value_at levels unit join views tree height node stamp =
    value_of join (leaf_value levels unit views tree)
    (λ child s. over (seen_in tree child s) views) height node stamp
