-- A tree tells the calls after each call, in it or in another.
use Rattle.std.proofs.Common.{◌≡◌, ℕ, ◌+◌, ◌*◌, ◌^◌, ◌<◌, ◌≤◌, List, [], ◌∷◌, ◌++◌, length, map}
use Rattle.std.proofs.Common.{refl, ap, sym, ◌∙◌, arith, slice_set, length-set, length-append, sum}
use Rattle.std.specs.Prelude.{Some, slice_get, slice_index, slice_index_or, replicate, fold}
use Rattle.std.proofs.lemmas.List.{map-set, length-map, length-replicate, get_or-map}
use Rattle.std.proofs.lemmas.List.Elements.{All-set}
use Rattle.std.proofs.lemmas.List.Sums.{fold_push, sum_by-set, sum_by-le}
use Rattle.std.proofs.lemmas.Option.{slice_get-get_or}
use Rattle.std.proofs.Math.Nat.{mul-le-mul}
use Rattle.std.proofs.Math.Seq.{map-set_same}
use Rattle.fold_law.specs.declared.limits.TheConstants.{SESSIONS, QUOTA}
use Rattle.risk_board.specs.declared.hand.Line.{Line}
use Rattle.risk_board.specs.declared.hand.Call.{Call}
use Rattle.risk_board.specs.declared.hand.Call.TheVariants.{Post, Read}
use Rattle.risk_board.specs.Calls.{post_count}
use Rattle.risk_board.specs.History.{array_after, components_of}
use Rattle.risk_board.specs.Plain.{plain_events}
use Rattle.risk_board.specs.Tree.{TreeValue, with_post, next_line}
use Rattle.risk_board.specs.Kept.{TellsCalls}
use Rattle.risk_board.proofs.Doublings.{sessions_have_components, components_are_few}
use Rattle.risk_board.proofs.Events.{events, events-post, events-read, post_count-post}
use Rattle.risk_board.proofs.Events.{post_count-read, post_count_of_events}
use Rattle.risk_board.proofs.Posts.{line}
use Rattle.risk_board.proofs.PlainSteps.{plain_with_post, plain_with_read}

length-array : (array : List ℕ) (lines : List Line)
    → length (fold (λ array line. slice_set array line.session line.value) array lines)
    ≡ length array
length-array array [] = refl
length-array array (l ∷ lines) =
    length-array (slice_set array l.session l.value) lines
    ∙ length-set array l.session l.value

pub length-array_after : (unit components : ℕ) (lines : List Line)
    → length (array_after unit components lines) ≡ components
length-array_after unit components lines =
    length-array (replicate components unit) lines ∙ length-replicate components unit

module _ {whole : List ℕ → ℕ} {unit : ℕ} {IsLeaf : ℕ → Type 0} {quota : ℕ}
    {calls : List (List Call)} {index : ℕ} {tree : TreeValue}
    (tells : TellsCalls whole unit IsLeaf quota calls index tree) where
  -- each session has a component, and there are no more components than the most sessions
  length-leaves : length tree.leaves ≡ components_of (length calls)
  length-leaves = ap length tells.array ∙ length-array_after unit _ tree.lines

  pub has_component : (session : ℕ) → session < length calls → session < length tree.leaves
  has_component session below =
      omega (arith, length-leaves, sessions_have_components (length calls))

  pub components_fit : length calls ≤ SESSIONS → length tree.leaves ≤ SESSIONS
  components_fit few = omega (arith, length-leaves, components_are_few (length calls) few)

  -- the lines are no more than all posts that the quota lets
  pub lines_fit : length calls ≤ SESSIONS → quota ≤ QUOTA → length tree.lines < 2 ^ 32
  lines_fit few small =
      let counted : length tree.posts ≡ length calls =
      ap length tells.counts ∙ length-map calls (post_count index) in
      let few_counts : length tree.posts ≤ SESSIONS = omega arith in
      let most : sum tree.posts ≤ length tree.posts * quota =
      sum_by-le (λ n. n) quota tree.posts tells.within in
      let product : length tree.posts * quota ≤ SESSIONS * QUOTA =
      mul-le-mul {n₂ = SESSIONS} {m₂ = QUOTA} few_counts small in
      omega (arith, tells.total)

  -- each session has a count, which is that of its calls and within the quota
  pub has_count : (session : ℕ) → session < length calls → session < length tree.posts
  has_count session below =
      omega (arith, ap length tells.counts, length-map calls (post_count index))

  pub count_is : (session d : ℕ) → session < length calls
      → slice_index_or tree.posts session d ≡ post_count index (slice_index_or calls session [])
  count_is session d below =
      ap (λ posts. slice_index_or posts session d) tells.counts
      ∙ get_or-map (post_count index) calls session [] d below

  pub count_is_within : (session d : ℕ) → session < length calls
      → slice_index_or tree.posts session d ≤ quota
  count_is_within session d below = tells.within session d (has_count session below)

  -- where another tree had the call, nothing changed
  pub tells_after_other : (session : ℕ) (own : List Call)
      → events index own ≡ events index (slice_index_or calls session [])
      → post_count index own ≡ post_count index (slice_index_or calls session [])
      → TellsCalls whole unit IsLeaf quota (slice_set calls session own) index tree
  tells_after_other session own same counted =
      let sessions : length (slice_set calls session own) ≡ length calls =
      length-set calls session own in
      let seen : plain_events index (slice_set calls session own) ≡ plain_events index calls =
      map-set_same (events index) calls session own [] same in
      let counts : map (post_count index) (slice_set calls session own)
      ≡ map (post_count index) calls =
      map-set_same (post_count index) calls session own [] counted in
      record {
        plain = rw (sessions, seen) tells.plain;
        array = rw sessions tells.array;
        leaves = tells.leaves;
        counts = tells.counts ∙ sym counts;
        total = tells.total;
        within = tells.within;
      }

  -- the events of a session
  events_at : (session : ℕ) → session < length calls
      → slice_get (plain_events index calls) session
      ≡ Some (events index (slice_index_or calls session []))
  events_at session below =
      slice_get-get_or (plain_events index calls) session []
      (omega (arith, length-map calls (events index)))
      ∙ ap (λ own. Some own) (get_or-map (events index) calls session [] [] below)

  -- after a post in it
  pub tells_with_post : (session value : ℕ) → session < length calls → IsLeaf value
      → post_count index (slice_index_or calls session []) < quota
      → let own = slice_index_or calls session [] in
      TellsCalls whole unit IsLeaf quota (slice_set calls session (own ++ Post index value ∷ []))
      index (with_post session value tree)
  tells_with_post session value below leaf left =
      let own : List Call = slice_index_or calls session [] in
      let more : List Call = own ++ Post index value ∷ [] in
      let count : slice_index tree.posts session ≡ post_count index own = count_is session 0 below in
      let sessions : length (slice_set calls session more) ≡ length calls =
      length-set calls session more in
      let next : next_line session value tree ≡ line session _ value =
      ap (λ n. line session n value)
      (omega (arith, count, post_count_of_events index own)) in
      let seen : plain_events index (slice_set calls session more)
      ≡ slice_set (plain_events index calls) session (events index own ++ _ ∷ []) =
      map-set (events index) calls session more
      ∙ ap (λ s. slice_set (plain_events index calls) session s) (events-post index own value) in
      let plain = plain_with_post whole unit (components_of (length calls)) tree.lines
      (plain_events index calls) session (events index own) value
      (omega (arith, length-map calls (events index))) (events_at session below) tells.plain in
      let counted : slice_index tree.posts session + 1 ≡ post_count index more =
      omega (arith, count, post_count-post index own value) in
      let sums : sum (slice_set tree.posts session (slice_index tree.posts session + 1))
      + slice_index tree.posts session
      ≡ sum tree.posts + (slice_index tree.posts session + 1) =
      sum_by-set (λ n. n) tree.posts session (slice_index tree.posts session + 1) 0
      (has_count session below) in
      record {
        plain = rw (sessions, seen, next) plain;
        array = ap (λ array. slice_set array session value) tells.array
            ∙ sym (fold_push (λ array l. slice_set array l.session l.value) _ tree.lines _)
            ∙ ap (λ n. array_after unit (components_of n) (with_post session value tree).lines)
            (sym sessions);
        leaves = All-set IsLeaf tree.leaves session value leaf tells.leaves;
        counts = ap (λ posts. slice_set posts session (slice_index tree.posts session + 1)) tells.counts
            ∙ ap (λ n. slice_set (map (post_count index) calls) session n) counted
            ∙ sym (map-set (post_count index) calls session more);
        total = omega (arith, sums, tells.total, length-append tree.lines (next_line session value tree ∷ []));
        within = All-set (λ n. n ≤ quota) tree.posts session _ (omega arith) tells.within;
      }

  -- after a read of it
  pub tells_with_read : (session : ℕ) → session < length calls
      → let own = slice_index_or calls session [] in
      let seen = Read index (length tree.lines) (whole tree.leaves) in
      TellsCalls whole unit IsLeaf quota (slice_set calls session (own ++ seen ∷ [])) index tree
  tells_with_read session below =
      let own : List Call = slice_index_or calls session [] in
      let call : Call = Read index (length tree.lines) (whole tree.leaves) in
      let more : List Call = own ++ call ∷ [] in
      let sessions : length (slice_set calls session more) ≡ length calls =
      length-set calls session more in
      let seen : plain_events index (slice_set calls session more)
      ≡ slice_set (plain_events index calls) session (events index own ++ _ ∷ []) =
      map-set (events index) calls session more
      ∙ ap (λ s. slice_set (plain_events index calls) session s)
      (events-read index own (length tree.lines) (whole tree.leaves)) in
      let plain = plain_with_read whole unit (components_of (length calls)) tree.lines
      (plain_events index calls) session (events index own) (events_at session below) tells.plain in
      let counts : map (post_count index) (slice_set calls session more)
      ≡ map (post_count index) calls =
      map-set_same (post_count index) calls session more []
      (post_count-read index index own (length tree.lines) (whole tree.leaves)) in
      record {
        plain = rw (sessions, seen, tells.array) plain;
        array = rw sessions tells.array;
        leaves = tells.leaves;
        counts = tells.counts ∙ sym counts;
        total = tells.total;
        within = tells.within;
      }
