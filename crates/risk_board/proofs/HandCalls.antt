-- What a hand's calls are after one more, and that no other session's have changed.
use Rattle.std.proofs.Common.{◌≡◌, ◌≢◌, ℕ, ◌-◌, ◌<◌, List, [], ◌∷◌, ◌++◌, length, map, refl, ap, sym}
use Rattle.std.proofs.Common.{subst, ◌∙◌, slice_set, length-set, get_or-set_same, zero, suc}
use Rattle.std.proofs.Common.{Vec, Global}
use Rattle.std.specs.Prelude.{slice_index_or, slice_get}
use Rattle.std.specs.Vec.{with_item}
use Rattle.std.proofs.lemmas.List.{length-map, map-set}
use Rattle.risk_board.specs.declared.hand.Call.{Call}
use Rattle.risk_board.specs.declared.hand.Call.TheVariants.{Post, Read}
use Rattle.risk_board.specs.declared.kept.Kept.{Kept}
use Rattle.risk_board.specs.declared.tree.PlainTree.{PlainTree}
use Rattle.risk_board.specs.Hands.{with_call}
use Rattle.risk_board.specs.Plain.{PlainHandValue, hand_of, KeepsOthers}
use Rattle.risk_board.specs.Kept.{calls_of, board_of}
use Rattle.risk_board.proofs.Found.{calls_are}

slice_get-set_other : {X : Type 0} (xs : List X) (i j : ℕ) (x : X) → j ≢ i
    → slice_get (slice_set xs i x) j ≡ slice_get xs j
slice_get-set_other [] i j x apart = refl
slice_get-set_other (y ∷ xs) zero zero x apart = absurd (apart refl)
slice_get-set_other (y ∷ xs) zero (suc j) x apart = refl
slice_get-set_other (y ∷ xs) (suc i) zero x apart = refl
slice_get-set_other (y ∷ xs) (suc i) (suc j) x apart =
    slice_get-set_other xs i j x (λ same. apart (ap (λ n. suc n) same))

-- the calls are as before, and one more of the session
pub record HasCall (kept after : Kept) (session : ℕ) (call : Call) : Type 0 where
  pub quota : after.quota ≡ kept.quota
  pub trees : length after.trees.items ≡ length kept.trees.items
  pub calls : calls_of after ≡ slice_set (calls_of kept) session
      (slice_index_or (calls_of kept) session [] ++ call ∷ [])

module _ {kept after : Kept} {session : ℕ} {call : Call} (has : HasCall kept after session call)
    (below : session < length (calls_of kept)) (spare : ℕ) where
  trees_stay : length (board_of after).lines ≡ length (board_of kept).lines
  trees_stay =
      length-map after.trees.items (λ tree. tree.lines.items)
      ∙ has.trees
      ∙ sym (length-map kept.trees.items (λ tree. tree.lines.items))

  -- so the hand has this call
  pub hand_has_call : (cap : ℕ) (hand : PlainHandValue)
      → record { board = board_of kept; session = session; spare = spare } ≡ hand
      → hand_of cap (record { board = board_of after; session = session; spare = spare - 1 })
      ≡ with_call call (hand_of cap hand)
  hand_has_call cap hand is =
      let own : List Call = slice_index_or (calls_of kept) session [] in
      let calls : slice_index_or (calls_of after) session [] ≡ own ++ call ∷ [] =
      ap (λ calls. slice_index_or calls session []) has.calls
      ∙ get_or-set_same (calls_of kept) session (own ++ call ∷ []) [] below in
      let Added : PlainHandValue → Type 0 = λ h.
      hand_of cap (record { board = board_of after; session = session; spare = spare - 1 })
      ≡ with_call call (hand_of cap h) in
      subst Added is (rw (trees_stay, has.quota, calls) refl)

  -- and the other sessions' calls are as before
  pub others_stay : (hand : PlainHandValue)
      → record { board = board_of kept; session = session; spare = spare } ≡ hand
      → KeepsOthers hand
      (record { board = board_of after; session = session; spare = spare - 1 })
  others_stay hand is =
      let own : List Call = slice_index_or (calls_of kept) session [] in
      let Keeps : PlainHandValue → Type 0 = λ h. KeepsOthers h
      (record { board = board_of after; session = session; spare = spare - 1 }) in
      subst Keeps is (
      record {
        session = refl;
        trees = trees_stay;
        quota = has.quota;
        sessions = ap length has.calls ∙ length-set (calls_of kept) session (own ++ call ∷ []);
        others = λ other apart.
            ap (λ calls. slice_get calls other) has.calls
            ∙ slice_get-set_other (calls_of kept) session other (own ++ call ∷ []) apart;
      }
      )

module _ (kept : Kept) (session : ℕ) (own : Vec Call Global)
    (below : session < length kept.calls.items)
    (mine : own ≡ slice_index_or kept.calls.items session own) where
  -- the list of calls after one more of the session
  pub with_own : (after : Vec Call Global) (call : Call) → after.items ≡ own.items ++ call ∷ []
      → map (λ calls. calls.items) (slice_set kept.calls.items session after)
      ≡ slice_set (calls_of kept) session (slice_index_or (calls_of kept) session [] ++ call ∷ [])
  with_own after call items =
      map-set (λ calls. calls.items) kept.calls.items session after
      ∙ ap (λ s. slice_set (calls_of kept) session s)
      (items ∙ ap (λ s. s ++ call ∷ []) (sym (calls_are kept session own below mine)))

  -- after a post the calls have it
  pub has_post : (index : ℕ) (new : PlainTree) (after : Vec Call Global) (value : ℕ)
      → after.items ≡ own.items ++ Post index value ∷ []
      → HasCall kept (record {
        quota = kept.quota;
        trees = with_item kept.trees index new;
        calls = with_item kept.calls session after;
      }) session (Post index value)
  has_post index new after value items = record {
    quota = refl;
    trees = length-set kept.trees.items index new;
    calls = with_own after (Post index value) items;
  }

  -- after a read too
  pub has_read : (index : ℕ) (after : Vec Call Global) (stamp value : ℕ)
      → after.items ≡ own.items ++ Read index stamp value ∷ []
      → HasCall kept (record {
        quota = kept.quota;
        trees = kept.trees;
        calls = with_item kept.calls session after;
      }) session (Read index stamp value)
  has_read index after stamp value items = record {
    quota = refl;
    trees = refl;
    calls = with_own after (Read index stamp value) items;
  }
