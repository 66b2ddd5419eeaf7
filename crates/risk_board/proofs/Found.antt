-- The tree and the calls of a session, among what is kept.
use Rattle.std.proofs.Common.{◌≡◌, ℕ, ◌<◌, List, [], length, ap, sym, subst, ◌∙◌, arith}
use Rattle.std.proofs.Common.{Vec, Global}
use Rattle.std.specs.Prelude.{slice_index_or}
use Rattle.std.proofs.lemmas.List.{length-map, get_or-map}
use Rattle.risk_board.specs.declared.hand.Call.{Call}
use Rattle.risk_board.specs.declared.kept.Kept.{Kept}
use Rattle.risk_board.specs.declared.tree.PlainTree.{PlainTree}
use Rattle.risk_board.specs.Plain.{BoardValue, PlainHandValue}
use Rattle.risk_board.specs.Tree.{TreeValue, contents}
use Rattle.risk_board.specs.Kept.{TellsCalls, IsKept, calls_of, board_of}

-- a hand's value has as many trees as it holds
pub has_tree : (kept : Kept) (session spare : ℕ) (hand : PlainHandValue) (index : ℕ)
    → record { board = board_of kept; session = session; spare = spare } ≡ hand
    → index < length hand.board.lines → index < length kept.trees.items
has_tree kept session spare hand index is below =
    omega (
      arith,
      ap (λ (h : PlainHandValue). length h.board.lines) is,
      length-map kept.trees.items (λ tree. tree.lines.items),
    )

-- and so has a board
pub board_has_tree : (kept : Kept) (board : BoardValue) (index : ℕ) → board_of kept ≡ board
    → index < length board.lines → index < length kept.trees.items
board_has_tree kept board index is below =
    omega (
      arith,
      ap (λ (b : BoardValue). length b.lines) is,
      length-map kept.trees.items (λ tree. tree.lines.items),
    )

-- a tree that is kept tells the calls
pub tree_tells : {whole : List ℕ → ℕ} {unit : ℕ} {IsLeaf : ℕ → Type 0} (kept : Kept)
    → IsKept whole unit IsLeaf kept → (index : ℕ) (tree : PlainTree)
    → index < length kept.trees.items → tree ≡ slice_index_or kept.trees.items index tree
    → TellsCalls whole unit IsLeaf kept.quota (calls_of kept) index (contents tree)
tree_tells {whole} {unit} {IsLeaf} kept sound index tree below at =
    let Tells : TreeValue → Type 0 =
    TellsCalls whole unit IsLeaf kept.quota (calls_of kept) index in
    subst Tells
    (get_or-map contents kept.trees.items index tree (contents tree) below ∙ ap contents (sym at))
    (sound.each index (contents tree) (omega (arith, length-map kept.trees.items contents)))

-- a session that has calls is one of the list's, and these are its calls
pub is_session : (kept : Kept) (session : ℕ) → session < length kept.calls.items
    → session < length (calls_of kept)
is_session kept session below =
    omega (arith, length-map kept.calls.items (λ calls. calls.items))

pub calls_are : (kept : Kept) (session : ℕ) (own : Vec Call Global)
    → session < length kept.calls.items → own ≡ slice_index_or kept.calls.items session own
    → slice_index_or (calls_of kept) session [] ≡ own.items
calls_are kept session own below at =
    get_or-map (λ calls. calls.items) kept.calls.items session own [] below
    ∙ ap (λ calls. calls.items) (sym at)
