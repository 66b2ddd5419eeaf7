-- What is kept stays sound at a post and at a read.
use Rattle.std.proofs.Common.{◌≡◌, ◌≢◌, ℕ, ◌<◌, List, [], ◌∷◌, ◌++◌, length, sym, arith}
use Rattle.std.proofs.Common.{◌⊎◌, inl, inr, slice_set, length-set}
use Rattle.std.proofs.Common.{get_or-set_same, get_or-set_other}
use Rattle.std.specs.Prelude.{slice_index_or}
use Rattle.std.proofs.lemmas.Bool.{cases_eq}
use Rattle.std.proofs.lemmas.List.{get_or_default}
use Rattle.risk_board.specs.declared.hand.Call.{Call}
use Rattle.risk_board.specs.declared.hand.Call.TheVariants.{Post, Read}
use Rattle.risk_board.specs.Calls.{post_count}
use Rattle.risk_board.specs.Tree.{TreeValue, with_post}
use Rattle.risk_board.specs.Kept.{IsSound, TellsCalls}
use Rattle.risk_board.proofs.Events.{events-other_post, events-other_read}
use Rattle.risk_board.proofs.Events.{post_count-other_post, post_count-read}
use Rattle.risk_board.proofs.TreeCalls.{tells_with_post, tells_with_read, tells_after_other}

module _ {whole : List ℕ → ℕ} {unit : ℕ} {IsLeaf : ℕ → Type 0} {quota : ℕ}
    {trees : List TreeValue} {calls : List (List Call)}
    (sound : IsSound whole unit IsLeaf quota trees calls) (index session : ℕ) (d : TreeValue)
    (has_tree : index < length trees) (in_range : session < length calls) where
  posted_tree : (value : ℕ) → IsLeaf value → post_count index (slice_index_or calls session []) < quota
      → (other : ℕ) (e : TreeValue) → other < length trees → (other ≡ index) ⊎ (other ≢ index)
      → let own = slice_index_or calls session [] in
      TellsCalls whole unit IsLeaf quota
      (slice_set calls session (own ++ Post index value ∷ [])) other
      (slice_index_or (slice_set trees index (with_post session value (slice_index_or trees index d)))
      other e)
  posted_tree value leaf left other e below (inl same) =
      let new : TreeValue = with_post session value (slice_index_or trees index d) in
      rw (same, get_or-set_same trees index new e has_tree)
      (tells_with_post (sound.each index d has_tree) session value in_range leaf left)
  posted_tree value leaf left other e below (inr apart) =
      let own : List Call = slice_index_or calls session [] in
      let new : TreeValue = with_post session value (slice_index_or trees index d) in
      let back : index ≢ other = λ same. apart (sym same) in
      rw (get_or-set_other trees index other new e apart)
      (tells_after_other (sound.each other e below) session (own ++ Post index value ∷ [])
      (events-other_post other index own value back)
      (post_count-other_post other index own value back))

  -- after a session's post
  pub sound_with_post : (value : ℕ) → IsLeaf value
      → post_count index (slice_index_or calls session []) < quota
      → let own = slice_index_or calls session [] in
      IsSound whole unit IsLeaf quota
      (slice_set trees index (with_post session value (slice_index_or trees index d)))
      (slice_set calls session (own ++ Post index value ∷ []))
  sound_with_post value leaf left =
      let own : List Call = slice_index_or calls session [] in
      let new : TreeValue = with_post session value (slice_index_or trees index d) in
      record {
        sessions = omega (arith, length-set calls session (own ++ Post index value ∷ []), sound.sessions);
        few = sound.few;
        each = λ other e below. posted_tree value leaf left other e
            (omega (arith, length-set trees index new, below)) (cases_eq other index);
      }

  read_tree : (other : ℕ) (e : TreeValue) → other < length trees
      → (other ≡ index) ⊎ (other ≢ index)
      → let own = slice_index_or calls session [] in
      let tree = slice_index_or trees index d in
      TellsCalls whole unit IsLeaf quota
      (slice_set calls session (own ++ Read index (length tree.lines) (whole tree.leaves) ∷ []))
      other (slice_index_or trees other e)
  read_tree other e below (inl same) =
      rw (same, get_or_default trees index e d has_tree)
      (tells_with_read (sound.each index d has_tree) session in_range)
  read_tree other e below (inr apart) =
      let own : List Call = slice_index_or calls session [] in
      let tree : TreeValue = slice_index_or trees index d in
      let stamp : ℕ = length tree.lines in
      let back : index ≢ other = λ same. apart (sym same) in
      tells_after_other (sound.each other e below) session
      (own ++ Read index stamp (whole tree.leaves) ∷ [])
      (events-other_read other index own stamp (whole tree.leaves) back)
      (post_count-read other index own stamp (whole tree.leaves))

  -- after a session's read
  pub sound_with_read :
      let own = slice_index_or calls session [] in
      let tree = slice_index_or trees index d in
      IsSound whole unit IsLeaf quota trees
      (slice_set calls session (own ++ Read index (length tree.lines) (whole tree.leaves) ∷ []))
  sound_with_read =
      let own : List Call = slice_index_or calls session [] in
      let tree : TreeValue = slice_index_or trees index d in
      let call : Call = Read index (length tree.lines) (whole tree.leaves) in
      record {
        sessions = omega (arith, length-set calls session (own ++ call ∷ []), sound.sessions);
        few = sound.few;
        each = λ other e below. read_tree other e below (cases_eq other index);
      }
