-- What the rule says of the fronts of a record: they begin with nothing, never fall, and end with
-- all posts.
use Rattle.std.proofs.Common.{◌≡◌, ℕ, zero, suc, ◌+◌, ◌^◌, ◌<◌, ◌≤◌, List, [], ◌∷◌}
use Rattle.std.proofs.Common.{length, refl, ap, sym, ◌∙◌, subst, arith}
use Rattle.std.specs.Prelude.{Some, None, slice_get}
use Rattle.stamp_word.specs.Places.{leaf_of}
use Rattle.node_rule.specs.declared.view.View.{View}
use Rattle.node_rule.specs.declared.view.Plan.{Plan}
use Rattle.node_rule.specs.Sums.{posted}
use Rattle.node_rule.specs.Fronts.{Board, board_of, ancestor, cover}
use Rattle.node_rule.specs.StampPart.{IsTrack, IsStamped}
use Rattle.node_rule.proofs.Adding.{seen-none}
use Rattle.node_rule.proofs.Tree.{ancestor-within, ancestor-root, cover_rises}
use Rattle.f_array.specs.Records.{Did}
use Rattle.trail_replay.specs.Fronts.{front_of, view_of}
use Rattle.trail_replay.specs.Histories.{posts_of_tree}
use Rattle.trail_replay.proofs.BlockLaws.{AreFronts}
use Rattle.trail_replay.proofs.Tracks.{track_at, slice_get-mapped, each-track}

module _ (plan : Plan) (words : List ℕ) (passes : List Did)
    (h : IsStamped plan words (view_of plan.levels passes ∷ []))
    (all : length passes ≡ plan.sessions) (tree : ℕ) (tree_in : tree < plan.trees) where
  abbrev views : List View
  views = view_of plan.levels passes ∷ []

  abbrev board : Board
  board = board_of plan.levels words views

  abbrev front : ℕ → ℕ → ℕ
  front = front_of plan.levels passes tree

  abbrev posts : List (List ℕ)
  posts = posts_of_tree tree passes

  abbrev last : ℕ
  last = board.stamp tree 1

  pub each_session : (session : ℕ) (did : Did) → slice_get passes session ≡ Some did
      → IsTrack plan board (track_at session did) None
  each_session session did at =
      let same : 0 + session ≡ session = omega arith in
      subst (λ n. IsTrack plan board (track_at n did) None) same
      (each-track (λ track. IsTrack plan board track None) 0 session passes did
      (h.each 0 (view_of plan.levels passes) refl).1 at)

  pub session_below : (session : ℕ) (did : Did) → slice_get passes session ≡ Some did
      → session < 2 ^ plan.levels
  session_below session did at =
      let number = (each_session session did at).past.number in
      let enough = h.planned.sessions in omega arith

  -- at the stamp 0 nothing is covered
  cover-zero : (session height : ℕ) → session < 2 ^ plan.levels → height ≤ plan.levels
      → cover (board.seen tree) (leaf_of plan.levels session) height 0 ≡ 0
  cover-zero session zero below le = refl
  cover-zero session (suc height) below le =
      let leaf : ℕ = leaf_of plan.levels session in
      let node = ancestor-within plan.levels height session below (omega arith) in
      let up = ancestor-within plan.levels (suc height) session below le in
      let high = node.high in
      let none : board.seen tree (ancestor leaf height) 0 ≡ 0 =
      seen-none tree (ancestor leaf height) 0 views
      (h.grown.none_at_zero tree (ancestor leaf (suc height)) tree_in up.low
      (omega arith)) in
      ap (cover (board.seen tree) leaf height) none
      ∙ cover-zero session height below (omega arith)

  pub reached_root : (session stamp : ℕ) → session < 2 ^ plan.levels → stamp ≤ last
      → stamp ≤ board.stamp tree (ancestor (leaf_of plan.levels session) plan.levels)
  reached_root session stamp below le =
      subst (λ n. stamp ≤ board.stamp tree n) (sym (ancestor-root plan.levels session below)) le

  pub are_fronts : AreFronts front posts last
  are_fronts = record {
    starts = λ session values at.
        let found = slice_get-mapped (λ did. posted tree did.calls) passes session values at in
        cover-zero session plan.levels (session_below session found.0 found.1) (omega arith);
    rises = λ early late session values at order reached.
        let found = slice_get-mapped (λ did. posted tree did.calls) passes session values at in
        let below = session_below session found.0 found.1 in
        cover_rises plan board h.grown tree session tree_in below plan.levels early late
        (omega arith) order (reached_root session late below reached);
    ends = λ session values at.
        let found = slice_get-mapped (λ did. posted tree did.calls) passes session values at in
        let track = each_session session found.0 found.1 in
        track.present.idle tree tree_in tt
        ∙ (sym (track.past.own tree) ∙ ap length found.2);
  }

  -- no session posted more than the quota
  pub posts_few : (session : ℕ) (values : List ℕ) → slice_get posts session ≡ Some values
      → length values ≤ plan.quota
  posts_few session values at =
      let found = slice_get-mapped (λ did. posted tree did.calls) passes session values at in
      let few = (each_session session found.0 found.1).past.quota tree in
      let same = ap length found.2 in
      omega arith
