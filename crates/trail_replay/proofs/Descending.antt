-- What the rule says of the way down from a node of a record to its children.
use Rattle.std.proofs.Common.{◌≡◌, ℕ, ◌+◌, ◌*◌, ◌/◌, ◌^◌, ◌<◌, ◌≤◌, List, [], ◌∷◌}
use Rattle.std.proofs.Common.{length, get_or, map, ap, sym, ◌∙◌, subst, arith}
use Rattle.std.proofs.Common.{Vec, Global, lit<}
use Rattle.std.specs.Prelude.{Some, slice_get}
use Rattle.std.specs.List.{AllByRecursion}
use Rattle.std.proofs.Math.Nat.{pow-le-pow_right}
use Rattle.std.proofs.lemmas.List.Elements.{All-get_or, All-from_recursion}
use Rattle.std.proofs.lemmas.List.{length-map}
use Rattle.stamp_word.specs.declared.limits.TheConstants.{LEVELS}
use Rattle.stamp_word.specs.Places.{leaf_of}
use Rattle.node_rule.specs.declared.view.View.{View}
use Rattle.node_rule.specs.declared.view.Plan.{Plan}
use Rattle.node_rule.specs.Sums.{posted, posts_in}
use Rattle.node_rule.specs.Standing.{plan_of}
use Rattle.node_rule.specs.Fronts.{Board, board_of}
use Rattle.node_rule.proofs.Bounds.{stamp_most}
use Rattle.f_array.specs.declared.record.Record.{Record}
use Rattle.f_array.specs.Records.{Did}
use Rattle.trail_replay.specs.declared.reads.ChildStamps.{ChildStamps}
use Rattle.trail_replay.specs.declared.descent.Span.{Span}
use Rattle.trail_replay.specs.Blocks.{block_from}
use Rattle.trail_replay.specs.Descent.{grown_lines, IsSpan, IsSpanBelow}
use Rattle.trail_replay.specs.Fronts.{front_of, view_of, IsStampedRecord}
use Rattle.trail_replay.specs.Histories.{posts_of_tree}
use Rattle.trail_replay.specs.Reads.{unread, row_of, end_stamp, AreRows, ArePosts, IsPrepared}
use Rattle.trail_replay.specs.Sums.{read_in_all}
use Rattle.trail_replay.proofs.Covering.{seen-trails}
use Rattle.trail_replay.proofs.GrownBlocks.{root-block}
use Rattle.trail_replay.proofs.PreparedTables.{seen-left, seen-right, all-long, map-twice}
use Rattle.trail_replay.proofs.BlockSteps.{item_at}
use Rattle.trail_replay.proofs.Tracks.{slice_get-mapped, over-session}

-- what was prepared of a record was prepared of it under its other name
module _ (inside view : Record) (rows : List (List (List ChildStamps))) (posts : List (List (List ℕ)))
    (same : inside ≡ view) (prepared : IsPrepared inside rows posts) where
  pub rows_seen : AreRows view rows
  rows_seen = subst (λ (r : Record). AreRows r rows) same prepared.read

  pub posts_seen : (tree : ℕ) → tree < view.shape.trees → ArePosts view tree posts
  posts_seen tree tree_in =
      let own = subst (λ (r : Record). IsPrepared r rows posts) same prepared in
      own.posted tree tree_in

-- the lists of one session among those of all
module _ (tree : ℕ) (items : List (Vec (Vec ℕ Global) Global)) (i : ℕ)
    (lists : Vec (Vec ℕ Global) Global) (less : i < length items)
    (found : lists ≡ get_or items i lists) where
  pub list_inside
      : AllByRecursion (λ own. tree < length own) (map (λ l. map (λ v. v.items) l.items) items)
      → tree < length lists.items
  list_inside long =
      subst (λ (l : Vec (Vec ℕ Global) Global). tree < length l.items) (sym found)
      (All-get_or (λ (l : Vec (Vec ℕ Global) Global). tree < length l.items) items i lists less
      (All-from_recursion (λ (l : Vec (Vec ℕ Global) Global). tree < length l.items) items
      (all-long (λ (l : Vec (Vec ℕ Global) Global). l.items) (λ (v : Vec ℕ Global). v.items) tree
      items long)))

  pub list_at : (posts : List (List ℕ))
      → map (λ own. get_or own tree []) (map (λ l. map (λ v. v.items) l.items) items) ≡ posts
      → slice_get posts i ≡ Some (get_or (map (λ v. v.items) lists.items) tree [])
  list_at posts each =
      item_at (λ (l : Vec (Vec ℕ Global) Global). get_or (map (λ v. v.items) l.items) tree []) items
      posts i lists
      (sym (map-twice (λ (l : Vec (Vec ℕ Global) Global). map (λ (v : Vec ℕ Global). v.items) l.items)
      (λ (own : List (List ℕ)). get_or own tree []) items) ∙ each) less found

module _ (taken : Record) (stamped : IsStampedRecord taken) (tree : ℕ)
    (tree_in : tree < taken.shape.trees) where
  abbrev levels : ℕ
  levels = taken.shape.levels

  abbrev passes : List Did
  passes = taken.passes.items

  abbrev views : List View
  views = view_of levels passes ∷ []

  abbrev plan : Plan
  plan = plan_of levels taken.shape.trees (length passes) stamped.0

  abbrev board : Board
  board = board_of levels taken.words.items views

  -- a leaf has as many stamps as its session has posts
  pub leaf_posts : (session : ℕ) (values : List ℕ) → session < 2 ^ levels
      → slice_get (posts_of_tree tree passes) session ≡ Some values
      → end_stamp taken tree (leaf_of levels session) ≡ length values
  leaf_posts session values below at =
      let found = slice_get-mapped (λ (did : Did). posted tree did.calls) passes session values at in
      stamped.1.grown.leaves tree session tree_in below
      ∙ (over-session (posts_in tree) levels session passes found.0 found.1
      ∙ ap length found.2)

  -- there is a leaf for each session
  pub enough_leaves : length (posts_of_tree tree passes) ≤ 2 ^ levels
  enough_leaves =
      let enough = stamped.1.planned.sessions in
      omega (arith, enough, length-map passes (λ (did : Did). posted tree did.calls))

  -- the nodes of a tree can be counted
  pub few_nodes : 2 * 2 ^ levels ≤ 2 ^ 31
  few_nodes =
      let most : 2 ^ levels ≤ 2 ^ LEVELS = pow-le-pow_right (lit< tt) stamped.1.planned.shape.0 in
      omega (arith, most)

  -- the block of a stamp of the root
  pub block_below : (before upto : ℕ)
      → grown_lines (λ child stamp. read_in_all tree child stamp passes) (posts_of_tree tree passes)
      levels 1 0 before upto
      ≡ block_from (front_of levels passes tree before) (front_of levels passes tree upto) 0
      (posts_of_tree tree passes)
  block_below before upto =
      (λ k. grown_lines (λ child stamp. sym (seen-trails levels tree child stamp passes) k)
      (posts_of_tree tree passes) levels 1 0 before upto)
      ∙ root-block levels (board.seen tree) (posts_of_tree tree passes) before upto enough_leaves

  module _ (node child : ℕ) (some : 1 ≤ node) (inner : node < 2 ^ levels)
      (low : 2 * node ≤ child) (high : child ≤ 2 * node + 1) where
    parent : child / 2 ≡ node
    parent = omega (arith, low, high)

    at_parent : (stamp : ℕ) → stamp ≤ end_stamp taken tree node
        → stamp ≤ end_stamp taken tree (child / 2)
    at_parent stamp reached = subst (λ n. stamp ≤ end_stamp taken tree n) (sym parent) reached

    reads_within : (stamp : ℕ) → stamp ≤ end_stamp taken tree node
        → read_in_all tree child stamp passes ≤ end_stamp taken tree child
    reads_within stamp reached =
        let told = seen-trails levels tree child stamp passes in
        let below = stamped.1.grown.below tree child stamp tree_in (omega (arith, some, low))
        (omega (arith, inner, high)) (at_parent stamp reached) in
        omega (arith, told, below)

    reads_fit : (stamp : ℕ) → stamp ≤ end_stamp taken tree node
        → read_in_all tree child stamp passes < 2 ^ 32
    reads_fit stamp reached =
        let within = reads_within stamp reached in
        let most = stamp_most plan taken.words.items views stamped.1 tree child tree_in
        (omega (arith, some, low)) (omega (arith, inner, high)) in
        omega (arith, within, most)

    span_of : (span below : Span) → IsSpan taken tree node span
        → below.before ≡ read_in_all tree child span.before passes
        → below.upto ≡ read_in_all tree child span.upto passes
        → IsSpanBelow taken tree child span below
    span_of span below is early late =
        let rises = stamped.1.grown.rises tree child span.before span.upto tree_in
        (omega (arith, some, low)) (omega (arith, inner, high)) is.ordered
        (at_parent span.upto is.reached) in
        let first = seen-trails levels tree child span.before passes in
        let last = seen-trails levels tree child span.upto passes in
        let within = reads_within span.upto is.reached in
        record {
          before = early;
          upto = late;
          own = record {
            ordered = omega (arith, rises, first, last, early, late);
            reached = omega (arith, within, late);
          };
        }

  module _ (rows : List (List (List ChildStamps))) (are : AreRows taken rows) (node : ℕ)
      (some : 1 ≤ node) (inner : node < 2 ^ levels) where
    left_read : (stamp : ℕ) → stamp ≤ end_stamp taken tree node
        → (get_or (row_of rows tree node) stamp unread).left
        ≡ read_in_all tree (2 * node) stamp passes
    left_read stamp reached =
        let child : ℕ = 2 * node in
        let up : child / 2 ≡ node = omega arith in
        subst (λ n. (get_or (row_of rows tree n) stamp unread).left
        ≡ read_in_all tree child stamp passes) up
        (seen-left taken rows are tree child stamp tree_in (omega (arith, inner))
        (at_parent node child some inner (omega arith) (omega arith) stamp reached)
        (reads_fit node child some inner (omega arith) (omega arith) stamp reached)
        (omega arith))

    right_read : (stamp : ℕ) → stamp ≤ end_stamp taken tree node
        → (get_or (row_of rows tree node) stamp unread).right
        ≡ read_in_all tree (2 * node + 1) stamp passes
    right_read stamp reached =
        let child : ℕ = 2 * node + 1 in
        let up : child / 2 ≡ node = omega arith in
        subst (λ n. (get_or (row_of rows tree n) stamp unread).right
        ≡ read_in_all tree child stamp passes) up
        (seen-right taken rows are tree child stamp tree_in (omega (arith, inner))
        (at_parent node child some inner (omega arith) (omega arith) stamp reached)
        (reads_fit node child some inner (omega arith) (omega arith) stamp reached)
        (λ even. absurd (omega (arith, even))))

    -- the row tells what the installs read of the left child, and of the right
    pub left_span : (span below : Span) (early late : ChildStamps) → IsSpan taken tree node span
        → early ≡ get_or (row_of rows tree node) span.before unread
        → late ≡ get_or (row_of rows tree node) span.upto unread
        → below.before ≡ early.left → below.upto ≡ late.left
        → IsSpanBelow taken tree (2 * node) span below
    left_span span below early late is found_early found_late first last =
        span_of node (2 * node) some inner (omega arith) (omega arith) span below is
        (first ∙ (ap (λ (c : ChildStamps). c.left) found_early
        ∙ left_read span.before (omega (arith, is.ordered, is.reached))))
        (last ∙ (ap (λ (c : ChildStamps). c.left) found_late ∙ left_read span.upto is.reached))

    pub right_span : (span below : Span) (early late : ChildStamps) → IsSpan taken tree node span
        → early ≡ get_or (row_of rows tree node) span.before unread
        → late ≡ get_or (row_of rows tree node) span.upto unread
        → below.before ≡ early.right → below.upto ≡ late.right
        → IsSpanBelow taken tree (2 * node + 1) span below
    right_span span below early late is found_early found_late first last =
        span_of node (2 * node + 1) some inner (omega arith) (omega arith) span below is
        (first ∙ (ap (λ (c : ChildStamps). c.right) found_early
        ∙ right_read span.before (omega (arith, is.ordered, is.reached))))
        (last ∙ (ap (λ (c : ChildStamps). c.right) found_late ∙ right_read span.upto is.reached))
