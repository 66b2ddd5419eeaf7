-- The lines of a block by the way down from a node to its children, as far as stamps grew.
use Rattle.std.specs.Prelude.{◌≡◌, ℕ, zero, suc, ◌+◌, ◌*◌, ◌^◌, ◌≤◌, List, [], ◌++◌, slice_index_or}
use Rattle.stamp_word.specs.Places.{leaf_of}
use Rattle.risk_board.specs.declared.hand.Line.{Line}
use Rattle.f_array.specs.declared.record.Record.{Record}
use Rattle.trail_replay.specs.declared.descent.Span.{Span}
use Rattle.trail_replay.specs.Blocks.{lines_between}
use Rattle.trail_replay.specs.Reads.{end_stamp}
use Rattle.trail_replay.specs.Sums.{read_in_all}

-- The lines of the posts below a node that the later of two of its stamps covers and the earlier one
-- doesn't. The node stands so high above the leaves, and its first leaf is that of this session;
-- `seen` gives the stamp at which an install read a child.
abbrev pub grown_lines : (ℕ → ℕ → ℕ) → List (List ℕ) → ℕ → ℕ → ℕ → ℕ → ℕ → List Line
grown_lines seen posts zero node first before upto =
    lines_between first before upto (slice_index_or posts first [])
grown_lines seen posts (suc height) node first before upto =
    grown_lines seen posts height (2 * node) first (seen (2 * node) before) (seen (2 * node) upto)
    ++ grown_lines seen posts height (2 * node + 1) (first + 2 ^ height)
    (seen (2 * node + 1) before) (seen (2 * node + 1) upto)

-- a node stands so high above the leaves, and its first leaf is that of this session
pub record IsUnder (levels node height first : ℕ) : Type 0 where
  pub high : height ≤ levels
  pub leaf : leaf_of levels first ≡ node * 2 ^ height
  pub room : first + 2 ^ height ≤ 2 ^ levels

-- two stamps of a node, which don't fall, up to its last
pub record IsSpan (taken : Record) (tree node : ℕ) (span : Span) : Type 0 where
  pub ordered : span.before ≤ span.upto
  pub reached : span.upto ≤ end_stamp taken tree node

-- the stamps of the child that the installs with these two stamps read
pub record IsSpanBelow (taken : Record) (tree child : ℕ) (span below : Span) : Type 0 where
  pub before : below.before ≡ read_in_all tree child span.before taken.passes.items
  pub upto : below.upto ≡ read_in_all tree child span.upto taken.passes.items
  pub own : IsSpan taken tree child below
