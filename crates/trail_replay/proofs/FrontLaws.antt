-- The value at a stamp of the root is the whole of the array after the stamp's lines.
use Rattle.std.proofs.Common.{◌≡◌, ℕ, zero, suc, ◌-◌, ◌^◌, ◌<◌, ◌≤◌, Bool, List, [], ◌∷◌}
use Rattle.std.proofs.Common.{length, refl, ap, sym, ◌∙◌, subst, arith, ⊎_elim, cond}
use Rattle.std.specs.Prelude.{Some, slice_get, slice_index}
use Rattle.std.specs.List.{AllByRecursion}
use Rattle.std.proofs.lemmas.Bool.{cases_lt, ne_eqb}
use Rattle.std.proofs.lemmas.List.{length-map}
use Rattle.std.proofs.lemmas.Grind.{same_number_lists}
use Rattle.std.proofs.lemmas.Option.{slice_get-get_or}
use Rattle.fold_law.specs.Laws.{FoldLaws}
use Rattle.fold_law.specs.Whole.{whole_of}
use Rattle.stamp_word.specs.Places.{leaf_of}
use Rattle.risk_board.specs.declared.hand.Line.{Line}
use Rattle.risk_board.specs.History.{lines_of, array_after}
use Rattle.node_rule.specs.declared.view.View.{View}
use Rattle.node_rule.specs.declared.view.Plan.{Plan}
use Rattle.node_rule.specs.Sums.{over, posted, posts_in, post_of, nth}
use Rattle.node_rule.specs.Fronts.{Board, board_of, leaf_value, value_at}
use Rattle.node_rule.specs.ValuePart.{IsKept}
use Rattle.node_rule.proofs.Bounds.{leaf_under}
use Rattle.node_rule.proofs.Tree.{cover_below}
use Rattle.f_array.specs.Records.{Did}
use Rattle.trail_replay.specs.Blocks.{lines_to}
use Rattle.trail_replay.specs.Fronts.{front_of, view_of}
use Rattle.trail_replay.specs.Histories.{posts_of_tree}
use Rattle.trail_replay.proofs.StampFronts.{are_fronts, reached_root}
use Rattle.trail_replay.proofs.BlockLaws.{AreFronts, all_sessions, lines_of-to, front_within}
use Rattle.trail_replay.proofs.Arrays.{last_value, post_at}
use Rattle.risk_board.proofs.TreeCalls.{length-array_after}
use Rattle.trail_replay.proofs.Arrays.{component-array_after, last_value-own}
use Rattle.trail_replay.proofs.Folds.{leaf_values, length-leaf_values, get-leaf_values}
use Rattle.trail_replay.proofs.Folds.{whole-leaf_values}
use Rattle.trail_replay.proofs.Tracks.{slice_get-map_some}
use Rattle.trail_replay.proofs.Tracks.{over-session, over-no_session}

-- where every line is of an earlier session, a session has none
no_lines : (session most : ℕ) (lines : List Line) → most ≤ session
    → AllByRecursion (λ l. l.session < most) lines → lines_of session lines ≡ []
no_lines session most [] le all = refl
no_lines session most (l ∷ lines) le all =
    let less : l.session < most = all.0 in
    ap (λ b. cond b (l ∷ lines_of session lines) (lines_of session lines))
    (ne_eqb l.session session (λ same. absurd (omega (arith, same))))
    ∙ no_lines session most lines le all.1

module _ (plan : Plan) (unit cap : ℕ) (join : ℕ → ℕ → ℕ) (words : List ℕ) (passes : List Did)
    (h : IsKept plan unit cap join words (view_of plan.levels passes ∷ []))
    (all : length passes ≡ plan.sessions) (tree : ℕ) (tree_in : tree < plan.trees) where
  abbrev views : List View
  views = view_of plan.levels passes ∷ []

  abbrev board : Board
  board = board_of plan.levels words views

  abbrev front : ℕ → ℕ → ℕ
  front = front_of plan.levels passes tree

  abbrev posts : List (List ℕ)
  posts = posts_of_tree tree passes

  abbrev last : ℕ
  last = board.stamp tree 1

  abbrev fronts : AreFronts front posts last
  fronts = are_fronts plan words passes h.stamps all tree tree_in

  -- what a leaf has at the stamp that a front covers of it
  session_value : (session : ℕ) (did : Did) → slice_get passes session ≡ Some did → (count : ℕ)
      → post_at unit (posted tree did.calls) count
      ≡ leaf_value plan.levels unit views tree (leaf_of plan.levels session) count
  session_value session did at zero = refl
  session_value session did at (suc k) =
      let told = over-session (λ track. nth (posted tree track.calls) (suc k)) plan.levels session
      passes did at in
      let same : leaf_of plan.levels session - 2 ^ plan.levels ≡ session = omega arith in
      subst (λ n. slice_index (posted tree did.calls) k
      ≡ over (post_of n tree (suc k)) views) (sym same) (sym told)

  module _ (session stamp : ℕ) (below : session < 2 ^ plan.levels) (le : stamp ≤ last) where
    abbrev lines : List Line
    lines = lines_to front posts stamp

    abbrev leaf_then : ℕ
    leaf_then = leaf_value plan.levels unit views tree (leaf_of plan.levels session)
        (front stamp session)

    of_session : (did : Did) → slice_get passes session ≡ Some did
        → last_value unit (lines_of session lines) ≡ leaf_then
    of_session did at =
        let values : List ℕ = posted tree did.calls in
        let posted_at = slice_get-map_some (λ d. posted tree d.calls) passes session did at in
        ap (last_value unit)
        (lines_of-to front posts last fronts session values posted_at stamp le)
        ∙ (last_value-own unit session (front stamp session) values
        (front_within front posts last fronts session values posted_at stamp le)
        ∙ session_value session did at (front stamp session))

    of_none : length passes ≤ session → last_value unit (lines_of session lines) ≡ leaf_then
    of_none ge =
        let none : lines_of session lines ≡ [] =
        no_lines session (length posts) lines
        (omega (arith, length-map passes (λ (did : Did). posted tree did.calls)))
        (all_sessions front posts (length posts) stamp (omega arith)) in
        let most = cover_below plan board h.stamps.grown tree session tree_in below plan.levels
        stamp (omega arith)
        (reached_root plan words passes h.stamps all tree tree_in session stamp below le) in
        let no_posts : board.posts session tree ≡ 0 =
        over-no_session (posts_in tree) plan.levels session passes ge in
        let covered : front stamp session ≡ 0 = omega arith in
        ap (last_value unit) none
        ∙ ap (leaf_value plan.levels unit views tree (leaf_of plan.levels session)) (sym covered)

    -- a component of the array after a stamp's lines has what its leaf had at that stamp
    component : slice_index (array_after unit (2 ^ plan.levels) lines) session ≡ leaf_then
    component =
        component-array_after unit (2 ^ plan.levels) lines session below
        ∙ ⊎_elim
        (λ (lt : session < length passes). of_session _ (slice_get-get_or passes session
        (record { calls = []; trail = [] }) lt))
        (λ (ge : length passes ≤ session). of_none ge)
        (cases_lt session (length passes))

  -- the value at a stamp of the root is the whole of the array after the stamp's lines
  pub whole-at : (le : ℕ → ℕ → Bool) (under : ℕ → ℕ → Type 0) → FoldLaws unit cap join le under
      → (stamp : ℕ) → stamp ≤ last
      → whole_of join unit (array_after unit (2 ^ plan.levels) (lines_to front posts stamp))
      ≡ value_at plan.levels unit join views tree plan.levels 1 stamp
  whole-at le under laws stamp reached =
      let at_leaf = leaf_value plan.levels unit views tree in
      let array = array_after unit (2 ^ plan.levels) (lines_to front posts stamp) in
      let long = length-array_after unit (2 ^ plan.levels) (lines_to front posts stamp) in
      let wide = length-leaf_values at_leaf (board.seen tree) plan.levels 1 stamp in
      ap (whole_of join unit)
      (same_number_lists array (leaf_values at_leaf (board.seen tree) plan.levels 1 stamp)
      (omega arith)
      (λ k less. component k stamp (omega arith) reached
      ∙ sym (get-leaf_values at_leaf (board.seen tree) plan.levels 1 k
      (leaf_of plan.levels k) stamp (omega arith) (omega arith))))
      ∙ whole-leaf_values unit cap join le under laws at_leaf (board.seen tree)
      (leaf_under plan unit cap join le under laws words views h.stamps h.values tree)
      plan.levels 1 stamp h.stamps.planned.shape.0
