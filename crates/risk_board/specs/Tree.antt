-- One tree as a plain array: its lines, and by session a component and a count.
use Rattle.std.specs.Prelude.{ℕ, ◌+◌, List, [], ◌∷◌, ◌++◌, slice_index, slice_set, replicate}
use Rattle.risk_board.specs.declared.hand.Line.{Line}
use Rattle.risk_board.specs.declared.tree.PlainTree.{PlainTree}

-- the lines, the array's components, and how many posts each session has
pub record TreeValue : Type 0 where
  pub lines : List Line
  pub leaves : List ℕ
  pub posts : List ℕ

-- what a tree holds, whatever room it has
abbrev pub contents : PlainTree → TreeValue
contents tree =
    record { lines = tree.lines.items; leaves = tree.leaves.items; posts = tree.posts.items }

-- a tree before any post
abbrev pub empty_tree : ℕ → ℕ → ℕ → TreeValue
empty_tree unit components sessions = record {
  lines = [];
  leaves = replicate components unit;
  posts = replicate sessions 0;
}

-- the line of a session's next post
abbrev pub next_line : ℕ → ℕ → TreeValue → Line
next_line session value tree =
    record { session = session; index = slice_index tree.posts session + 1; value = value }

-- a tree after a session's post
abbrev pub with_post : ℕ → ℕ → TreeValue → TreeValue
with_post session value tree = record {
  lines = tree.lines ++ next_line session value tree ∷ [];
  leaves = slice_set tree.leaves session value;
  posts = slice_set tree.posts session (slice_index tree.posts session + 1);
}
