-- The lines of a hand's board after each of its calls.
use Rattle.std.proofs.Common.{◌≡◌, ℕ, ◌+◌, ◌<◌, List, [], ◌∷◌, ◌++◌, length, map, ap, sym, subst, ◌∙◌}
use Rattle.std.proofs.Common.{slice_set}
use Rattle.std.specs.Prelude.{slice_index_or}
use Rattle.std.proofs.lemmas.List.{map-set, get_or-map}
use Rattle.risk_board.specs.declared.hand.Line.{Line}
use Rattle.risk_board.specs.declared.kept.Kept.{Kept}
use Rattle.risk_board.specs.declared.tree.PlainTree.{PlainTree}
use Rattle.risk_board.specs.Calls.{post_count}
use Rattle.risk_board.specs.Kept.{IsHeld, board_of, calls_of}
use Rattle.risk_board.specs.Plain.{PlainHandValue, lines_in, lines_with_post}
use Rattle.risk_board.specs.Tree.{contents, with_post, TreeValue}
use Rattle.risk_board.proofs.Found.{tree_tells, is_session}
use Rattle.risk_board.proofs.TreeCalls.{count_is}

abbrev lines_of : PlainTree → List Line
lines_of tree = tree.lines.items

module _ {whole : List ℕ → ℕ} {unit : ℕ} {IsLeaf : ℕ → Type 0} (kept : Kept) {session spare : ℕ}
    (held : IsHeld whole unit IsLeaf kept session spare)
    (index : ℕ) (tree : PlainTree) (has : index < length kept.trees.items)
    (at : tree ≡ slice_index_or kept.trees.items index tree)
    (hand : PlainHandValue)
    (is : record { board = board_of kept; session = session; spare = spare } ≡ hand) where
  -- the tree's lines are the hand's
  pub lines_are : lines_in index hand ≡ tree.lines.items
  lines_are =
      let Are : PlainHandValue → Type 0 = λ h. lines_in index h ≡ tree.lines.items in
      subst Are is
      (get_or-map lines_of kept.trees.items index tree [] has ∙ ap lines_of (sym at))

  -- after a post of the hand's session its line comes last in its tree
  pub lines_posted : (new : PlainTree) (value : ℕ)
      → contents new ≡ with_post session value (contents tree)
      → map lines_of (slice_set kept.trees.items index new) ≡ lines_with_post index value hand
  lines_posted new value posted =
      let count = count_is
      (tree_tells kept held.sound index tree has at) session 0
      (is_session kept session held.in_range) in
      let last : List Line → ℕ → List Line = λ lines count.
      lines ++ record { session = session; index = count + 1; value = value } ∷ [] in
      let added : new.lines.items
      ≡ last tree.lines.items (post_count index (slice_index_or (calls_of kept) session [])) =
      ap (λ (t : TreeValue). t.lines) posted ∙ ap (last tree.lines.items) count in
      let Are : PlainHandValue → Type 0 = λ h.
      map lines_of (slice_set kept.trees.items index new) ≡ lines_with_post index value h in
      subst Are is
      (map-set lines_of kept.trees.items index new
      ∙ ap (slice_set (map lines_of kept.trees.items) index)
      (added ∙ ap (λ lines. last lines (post_count index (slice_index_or (calls_of kept) session [])))
      (sym (get_or-map lines_of kept.trees.items index tree [] has ∙ ap lines_of (sym at)))))
