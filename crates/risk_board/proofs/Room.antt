-- The room and the contents of trees after one of them took room.
use Rattle.std.proofs.Common.{◌≡◌, ℕ, ◌+◌, ◌<◌, ◌≤◌, List, ◌++◌, length, map, take, drop, ◌∙◌, arith}
use Rattle.std.proofs.Common.{slice_set}
use Rattle.std.specs.Prelude.{slice_index_or, vec_len, vec_capacity}
use Rattle.std.proofs.lemmas.List.{take-append-le, take_all, take_more_set}
use Rattle.std.proofs.lemmas.List.Elements.{All-set, All-push}
use Rattle.std.proofs.Math.Seq.{map-set_same}
use Rattle.risk_board.specs.declared.tree.PlainTree.{PlainTree}
use Rattle.risk_board.specs.Tree.{contents}
use Rattle.risk_board.specs.Kept.{HaveRoom}

-- what a `Vec` holds after its elements were lent and all written back
pub refilled : (n : ℕ) (trees old : List PlainTree) → n ≡ length trees
    → take n (trees ++ drop (length trees) old) ≡ trees
refilled n trees old same =
    take-append-le n trees (drop (length trees) old) (omega arith)
    ∙ take_all n trees (omega arith)

module _ (trees : List PlainTree) (index : ℕ) (d new : PlainTree)
    (below : index < length trees) where
  pub contents_stay : contents new ≡ contents (slice_index_or trees index d)
      → map contents (slice_set trees index new) ≡ map contents trees
  contents_stay same = map-set_same contents trees index new d same

  pub room_stays : vec_len new.lines ≡ vec_len (slice_index_or trees index d).lines
      → vec_capacity (slice_index_or trees index d).lines ≤ vec_capacity new.lines
      → (spare : ℕ) → HaveRoom spare trees → HaveRoom spare (slice_set trees index new)
  room_stays taken grown spare room =
      All-set (λ tree. vec_len tree.lines + spare ≤ vec_capacity tree.lines) trees index new
      (omega (arith, room index d below)) room

  pub more_have_room : (lines : ℕ) → vec_len new.lines + lines ≤ vec_capacity new.lines
      → HaveRoom lines (take index trees)
      → HaveRoom lines (take (index + 1) (slice_set trees index new))
  more_have_room lines here room =
      rw (take_more_set trees index new below)
      (All-push (λ tree. vec_len tree.lines + lines ≤ vec_capacity tree.lines)
      (take index trees) new room here)
