-- Right lines are of the sessions, and have values that their posts may have.
use Rattle.std.proofs.Common.{◌≡◌, ℕ, zero, suc, ◌<◌, ◌≤◌, List, [], ◌∷◌, length, take, ap, subst, ◌∙◌}
use Rattle.std.proofs.Common.{arith, cond, true, false, ◌==◌, get_or, All}
use Rattle.std.specs.Prelude.{slice_get, Some}
use Rattle.std.proofs.lemmas.List.{length-map, get_or-map}
use Rattle.std.proofs.lemmas.Option.{none-some, get_or_from_slice_get, slice_get-get_or}
use Rattle.risk_board.specs.declared.hand.Line.{Line}
use Rattle.risk_board.specs.History.{posted, lines_of}
use Rattle.risk_board.specs.History.Event.{Posted, Saw}
use Rattle.risk_journal.specs.ActLists.{events_of}
use Rattle.risk_journal.specs.declared.acts.Act.{Act}
use Rattle.risk_journal.specs.declared.acts.Act.TheVariants.{Post, Read, Sent, Refused, Noted, Ended}
use Rattle.journal_check.specs.LineFaults.{IsRightTree}
use Rattle.journal_check.specs.PostBounds.{PostsAtMost}
use Rattle.journal_check.specs.RightLines.{IsNextLine}
use Rattle.journal_check.specs.Tables.{AreCapped}
use Rattle.journal_check.specs.Trees.{tree_events, tree_posts, tree_lines}
use Rattle.journal_check.proofs.LineWalk.{has_next}

rest_all : {X : Type 0} (P : X → Type 0) (x : X) (xs : List X) → All P (x ∷ xs) → All P xs
rest_all P x xs all index d less = all (suc index) d (omega (arith, less))

first_or : (most first : ℕ) (posts : List ℕ) → first ≤ most
    → ((index value : ℕ) → slice_get posts index ≡ Some value → value ≤ most)
    → (index value : ℕ) → slice_get (first ∷ posts) index ≡ Some value → value ≤ most
first_or most first posts low later zero value at =
    omega (arith, low, get_or_from_slice_get (first ∷ posts) 0 value first at)
first_or most first posts low later (suc index) value at = later index value at

-- a value that was posted is one that may be
posts_capped : (most tree : ℕ) (own : List Act) → All (PostsAtMost most) own → (index value : ℕ)
    → slice_get (posted (events_of tree own)) index ≡ Some value → value ≤ most
posts_capped most tree [] all index value at = absurd (none-some value at)
posts_capped most tree (Post in_tree number posts ∷ own) all index value at =
    let later = posts_capped most tree own (rest_all (PostsAtMost most) _ own all) in
    elim (in_tree == tree) as (λ b.
    slice_get (posted (cond b (Posted posts ∷ events_of tree own) (events_of tree own))) index ≡ Some value
    → value ≤ most) [
      | true ↦ first_or most posts (posted (events_of tree own)) (all 0 (Sent 0) (omega arith)) later index value
      | false ↦ later index value
    ] at
posts_capped most tree (Read in_tree stamp place seen ∷ own) all index value at =
    let later = posts_capped most tree own (rest_all (PostsAtMost most) _ own all) in
    elim (in_tree == tree) as (λ b.
    slice_get (posted (cond b (Saw stamp place seen ∷ events_of tree own) (events_of tree own))) index ≡ Some value
    → value ≤ most) [
      | true ↦ later index value
      | false ↦ later index value
    ] at
posts_capped most tree (Sent frame ∷ own) all index value at =
    posts_capped most tree own (rest_all (PostsAtMost most) _ own all) index value at
posts_capped most tree (Refused frame code first second ∷ own) all index value at =
    posts_capped most tree own (rest_all (PostsAtMost most) _ own all) index value at
posts_capped most tree (Noted frame code first second ∷ own) all index value at =
    posts_capped most tree own (rest_all (PostsAtMost most) _ own all) index value at
posts_capped most tree (Ended end ∷ own) all index value at =
    posts_capped most tree own (rest_all (PostsAtMost most) _ own all) index value at

module _ (acts : List (List Act)) (lines : List (List Line)) (tree : ℕ)
    (right : IsRightTree acts lines tree) where
  next_at : (index : ℕ) (d : Line) → index < length (tree_lines tree lines)
      → IsNextLine (tree_posts tree acts) (take index (tree_lines tree lines))
      (get_or (tree_lines tree lines) index d)
  next_at index d less =
      right.right index (get_or (tree_lines tree lines) index d) less
      (slice_get-get_or (tree_lines tree lines) index d less)

  pub lines_below : (components : ℕ) → length acts ≤ components
      → All (λ (line : Line). line.session < components) (tree_lines tree lines)
  lines_below components le index d less =
      omega (
        arith,
        le,
        has_next (tree_posts tree acts) (take index (tree_lines tree lines))
            (get_or (tree_lines tree lines) index d) (next_at index d less),
        length-map (tree_events tree acts) posted,
        length-map acts (events_of tree),
      )

  pub lines_capped : (most : ℕ) → AreCapped most acts
      → All (λ (line : Line). line.value ≤ most) (tree_lines tree lines)
  lines_capped most capped index d less =
      let line : Line = get_or (tree_lines tree lines) index d in
      let earlier : List Line = take index (tree_lines tree lines) in
      let next = next_at index d less in
      let count : length (tree_posts tree acts) ≡ length acts =
      length-map (tree_events tree acts) posted ∙ length-map acts (events_of tree) in
      let inside : line.session < length acts =
      omega (arith, has_next (tree_posts tree acts) earlier line next, count) in
      let own : List Act = get_or acts line.session [] in
      let posts : get_or (tree_posts tree acts) line.session [] ≡ posted (events_of tree own) =
      get_or-map posted (tree_events tree acts) line.session [] []
      (omega (arith, inside, length-map acts (events_of tree)))
      ∙ ap posted (get_or-map (events_of tree) acts line.session [] [] inside) in
      posts_capped most tree own (capped line.session own (slice_get-get_or acts line.session [] inside))
      (length (lines_of line.session earlier)) line.value
      (subst (λ (p : List ℕ). slice_get p (length (lines_of line.session earlier)) ≡ Some line.value)
      posts next.value)
