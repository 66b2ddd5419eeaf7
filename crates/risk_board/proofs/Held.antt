-- What a hand holds after each of its calls, and after its room changed.
use Rattle.std.proofs.Common.{◌≡◌, ℕ, ◌+◌, ◌-◌, ◌<◌, ◌≤◌, List, [], ◌∷◌, ◌++◌, length, map, ap, sym}
use Rattle.std.proofs.Common.{◌∙◌, arith, slice_set, length-set, get_or-set_same, Vec, Global}
use Rattle.std.specs.Prelude.{slice_index_or, vec_len, vec_capacity}
use Rattle.std.specs.Vec.{with_item}
use Rattle.std.proofs.lemmas.List.{length-map, get_or-map, map-set}
use Rattle.std.proofs.lemmas.List.Elements.{All-set}
use Rattle.risk_board.specs.declared.hand.Call.{Call}
use Rattle.risk_board.specs.declared.hand.Call.TheVariants.{Post, Read}
use Rattle.risk_board.specs.declared.kept.Kept.{Kept}
use Rattle.risk_board.specs.declared.tree.PlainTree.{PlainTree}
use Rattle.risk_board.specs.Calls.{post_count}
use Rattle.risk_board.specs.Tree.{contents, with_post}
use Rattle.risk_board.specs.Kept.{KeepsAll, HasRoom, IsHeld, trees_of, calls_of}
use Rattle.risk_board.proofs.Found.{is_session}
use Rattle.risk_board.proofs.HandCalls.{with_own}
use Rattle.risk_board.proofs.Sound.{sound_with_post, sound_with_read}

module _ {whole : List ℕ → ℕ} {unit : ℕ} {IsLeaf : ℕ → Type 0} (kept : Kept) {session spare : ℕ}
    (held : IsHeld whole unit IsLeaf kept session spare)
    (index : ℕ) (tree : PlainTree) (has : index < length kept.trees.items)
    (at : tree ≡ slice_index_or kept.trees.items index tree)
    (own : Vec Call Global) (mine : own ≡ slice_index_or kept.calls.items session own) where
  found : slice_index_or (trees_of kept) index (contents tree) ≡ contents tree
  found = get_or-map contents kept.trees.items index tree (contents tree) has
      ∙ ap contents (sym at)

  fits : vec_len own + spare ≤ vec_capacity own
  fits = rw (← mine) at (held.room.calls own)

  tree_fits : vec_len tree.lines + spare ≤ vec_capacity tree.lines
  tree_fits = rw (← at) at (held.room.trees index tree has)

  -- what a hand holds after a post
  pub held_with_post : (new : PlainTree) (after : Vec Call Global) (value : ℕ)
      → contents new ≡ with_post session value (contents tree)
      → vec_len new.lines ≡ vec_len tree.lines + 1
      → vec_capacity new.lines ≡ vec_capacity tree.lines
      → after.items ≡ own.items ++ Post index value ∷ []
      → vec_len after ≡ vec_len own + 1
      → vec_capacity after ≡ vec_capacity own
      → 1 ≤ spare → IsLeaf value
      → post_count index (slice_index_or (calls_of kept) session []) < kept.quota
      → IsHeld whole unit IsLeaf (record {
        quota = kept.quota;
        trees = with_item kept.trees index new;
        calls = with_item kept.calls session after;
      }) session (spare - 1)
  held_with_post new after value posted taken room items len capacity some leaf left =
      let below : session < length (calls_of kept) =
      is_session kept session held.in_range in
      let has_tree : index < length (trees_of kept) =
      omega (arith, length-map kept.trees.items contents) in
      let sound = sound_with_post held.sound index session (contents tree) has_tree below
      value leaf left in
      let trees : map contents (slice_set kept.trees.items index new)
      ≡ slice_set (trees_of kept) index
      (with_post session value (slice_index_or (trees_of kept) index (contents tree))) =
      map-set contents kept.trees.items index new
      ∙ ap (λ t. slice_set (trees_of kept) index t)
      (posted ∙ ap (with_post session value) (sym found)) in
      record {
        sound = rw (trees, with_own kept session own held.in_range mine after (Post index value) items) sound;
        in_range = omega (arith, length-set kept.calls.items session after, held.in_range);
        room = record {
          calls = λ d. rw (get_or-set_same kept.calls.items session after d held.in_range)
              (omega (arith, fits));
          trees = All-set (λ t. vec_len t.lines + (spare - 1) ≤ vec_capacity t.lines)
              kept.trees.items index new (omega (arith, tree_fits))
              (λ k d inside. omega (arith, held.room.trees k d inside));
        };
      }

  -- what a hand holds after a read
  pub held_with_read : (after : Vec Call Global) (stamp value : ℕ)
      → stamp ≡ length tree.lines.items → value ≡ whole tree.leaves.items
      → after.items ≡ own.items ++ Read index stamp value ∷ []
      → vec_len after ≡ vec_len own + 1
      → vec_capacity after ≡ vec_capacity own
      → 1 ≤ spare
      → IsHeld whole unit IsLeaf (record {
        quota = kept.quota;
        trees = kept.trees;
        calls = with_item kept.calls session after;
      }) session (spare - 1)
  held_with_read after stamp value counted joined items len capacity some =
      let below : session < length (calls_of kept) =
      is_session kept session held.in_range in
      let has_tree : index < length (trees_of kept) =
      omega (arith, length-map kept.trees.items contents) in
      let sound = rw found at
      (sound_with_read held.sound index session (contents tree) has_tree below) in
      record {
        sound = rw (with_own kept session own held.in_range mine after (Read index stamp value) items, counted, joined) sound;
        in_range = omega (arith, length-set kept.calls.items session after, held.in_range);
        room = record {
          calls = λ d. rw (get_or-set_same kept.calls.items session after d held.in_range)
              (omega (arith, fits));
          trees = λ k d inside. omega (arith, held.room.trees k d inside);
        };
      }

-- what a hand holds after its room changed
pub held_with_room : {whole : List ℕ → ℕ} {unit : ℕ} {IsLeaf : ℕ → Type 0} (kept after : Kept)
    {session spare : ℕ} (room : ℕ) → IsHeld whole unit IsLeaf kept session spare
    → KeepsAll kept after → HasRoom after session room
    → IsHeld whole unit IsLeaf after session room
held_with_room kept after room held keeps has = record {
  sound = rw (keeps.quota, keeps.trees, keeps.calls) held.sound;
  in_range = omega (
    arith,
    held.in_range,
    ap length keeps.calls,
    length-map kept.calls.items (λ calls. calls.items),
    length-map after.calls.items (λ calls. calls.items),
  );
  room = has;
}
