-- The history of a tree of a lawful record is legal.
use Rattle.std.proofs.Common.{◌≡◌, ℕ, zero, suc, ◌^◌, ◌<◌, Bool, List, [], ◌∷◌, length, map, take}
use Rattle.std.proofs.Common.{refl, ap, sym, ◌∙◌, subst, arith}
use mathlib.Core.Option.{some}
use lib.ListN.{get_elem?}
use Rattle.std.specs.Prelude.{Some, None, slice_get, slice_index}
use Rattle.std.proofs.lemmas.List.{length-map}
use Rattle.fold_law.specs.Laws.{FoldLaws}
use Rattle.fold_law.specs.Whole.{whole_of}
use Rattle.risk_board.specs.declared.hand.Line.{Line}
use Rattle.risk_board.specs.declared.hand.Call.TheVariants.{Read}
use Rattle.risk_board.specs.History.{Event, IsLegal, IsOwnLegal, PlacesFollow, events_of_calls}
use Rattle.risk_board.specs.History.{own_lines}
use Rattle.risk_board.specs.History.{array_after, lines_of}
use Rattle.node_rule.specs.declared.view.Plan.{Plan}
use Rattle.node_rule.specs.Sums.{Each, posted}
use Rattle.node_rule.specs.Fronts.{Board, board_of, value_at}
use Rattle.node_rule.specs.StampPart.{IsTrack}
use Rattle.node_rule.specs.ValuePart.{IsCallValued, IsKept}
use Rattle.f_array.specs.declared.record.Record.{Record}
use Rattle.f_array.specs.Records.{Did}
use Rattle.trail_replay.specs.Blocks.{lines_to, place_at}
use Rattle.trail_replay.specs.Fronts.{front_of, view_of, last_stamp, IsLawful}
use Rattle.trail_replay.specs.Histories.{posts_of_tree, history_of, places_of, place_in_tree}
use Rattle.trail_replay.specs.Histories.{placed_events, HasLegalHistory, AreLegalIn}
use Rattle.trail_replay.proofs.BlockLaws.{all_sessions, lines_of-all, count_to}
use Rattle.trail_replay.proofs.BlockLaws.{place_rises, take-place}
use Rattle.trail_replay.proofs.StampFronts.{are_fronts, each_session}
use Rattle.trail_replay.proofs.FrontLaws.{whole-at}
use Rattle.trail_replay.proofs.Places.{get-places_to, same_events, same_maps}
use Rattle.trail_replay.proofs.Placed.{posted-events, places_follow, stamps_rise, Fits, reads_fit}
use Rattle.trail_replay.proofs.Tracks.{track_at, slice_get-mapped, slice_get-map_some, each-track}

each-get : {A : Type 0} (P : A → Type 0) (xs : List A) (k : ℕ) (x : A) → Each P xs
    → get_elem? xs k ≡ some x → P x
each-get P [] k x each at = absurd (cc)
each-get P (y ∷ xs) zero x each at = let same : y ≡ x = cc in subst P same each.0
each-get P (y ∷ xs) (suc k) x each at = each-get P xs k x each.1 at

module _ (plan : Plan) (unit cap : ℕ) (join : ℕ → ℕ → ℕ) (le : ℕ → ℕ → Bool)
    (under : ℕ → ℕ → Type 0) (laws : FoldLaws unit cap join le under) (words : List ℕ)
    (passes : List Did) (h : IsKept plan unit cap join words (view_of plan.levels passes ∷ []))
    (all : length passes ≡ plan.sessions) (tree : ℕ) (tree_in : tree < plan.trees) where
  abbrev front : ℕ → ℕ → ℕ
  front = front_of plan.levels passes tree

  abbrev posts : List (List ℕ)
  posts = posts_of_tree tree passes

  abbrev board : Board
  board = board_of plan.levels words (view_of plan.levels passes ∷ [])

  abbrev last : ℕ
  last = board.stamp tree 1

  abbrev lines : List Line
  lines = lines_to front posts last

  abbrev place : ℕ → ℕ
  place = place_at front posts

  abbrev events : List (List Event)
  events = map (λ did. events_of_calls place tree did.calls) passes

  abbrev whole : List ℕ → ℕ
  whole = whole_of join unit

  module _ (session : ℕ) (did : Did) (at : slice_get passes session ≡ Some did) where
    valued : Each (IsCallValued plan cap (value_at plan.levels unit join
        (view_of plan.levels passes ∷ []))) did.calls
    valued = each-track (λ track. Each (IsCallValued plan cap (value_at plan.levels unit join
        (view_of plan.levels passes ∷ []))) track.calls) 0 session passes did
        (h.values.each 0 (view_of plan.levels passes) refl).calls at

    is_track : IsTrack plan board (track_at session did) None
    is_track = each_session plan words passes h.stamps all tree tree_in session did at

    posted_at : slice_get posts session ≡ Some (posted tree did.calls)
    posted_at = slice_get-map_some (λ d. posted tree d.calls) passes session did at

    fits : (k s v : ℕ) → get_elem? did.calls k ≡ some (Read tree s v)
        → Fits place tree whole unit (2 ^ plan.levels) lines session
        (length (posted tree (take k did.calls))) s v
    fits k s v found =
        let read = is_track.past.calls k (Read tree s v) found in
        let is : v ≡ value_at plan.levels unit join (view_of plan.levels passes ∷ []) tree
        plan.levels 1 s =
        each-get (IsCallValued plan cap (value_at plan.levels unit join
        (view_of plan.levels passes ∷ []))) did.calls k (Read tree s v) valued found in
        let fronts = are_fronts plan words passes h.stamps all tree tree_in in
        let first = take-place front posts s last read.reached in
        record {
          within = place_rises front posts s last read.reached;
          is = is
              ∙ (sym (whole-at plan unit cap join words passes h all tree tree_in le under laws s
              read.reached)
              ∙ ap (λ l. whole (array_after unit (2 ^ plan.levels) l)) (sym first));
          own = ap (λ l. length (lines_of session l)) first
              ∙ (count_to front posts last fronts session (posted tree did.calls) posted_at s
              read.reached
              ∙ read.covers);
        }

    own_legal : IsOwnLegal whole unit (2 ^ plan.levels) lines session
        (events_of_calls place tree did.calls)
    own_legal =
        let fronts = are_fronts plan words passes h.stamps all tree tree_in in
        record {
          each_once = lines_of-all front posts last fronts session (posted tree did.calls) posted_at
              ∙ ap (own_lines session 1) (sym (posted-events place tree did.calls));
          reads = reads_fit place tree whole unit (2 ^ plan.levels) lines session [] did.calls fits;
          stamps = stamps_rise place tree 0 did.calls (λ k s v found. omega arith)
              is_track.past.in_order;
        }

  pub legal : IsLegal whole unit (2 ^ plan.levels) lines events
  legal = record {
    few = let long = length-map passes (λ (did : Did). events_of_calls place tree did.calls) in
        let enough = h.stamps.planned.sessions in omega arith;
    sessions = let long = length-map passes (λ (did : Did). events_of_calls place tree did.calls) in
        let wide = length-map passes (λ (did : Did). posted tree did.calls) in
        all_sessions front posts (length events) last (omega arith);
    each = λ session own at.
        let found = slice_get-mapped (λ (did : Did). events_of_calls place tree did.calls) passes
        session own at in
        subst (IsOwnLegal whole unit (2 ^ plan.levels) lines session) found.2
        (own_legal session found.0 found.1);
    places = λ one own other others at also.
        let first = slice_get-mapped (λ (did : Did). events_of_calls place tree did.calls) passes
        one own at in
        let second = slice_get-mapped (λ (did : Did). events_of_calls place tree did.calls) passes
        other others also in
        subst (λ x. PlacesFollow x others) first.2
        (subst (λ y. PlacesFollow (events_of_calls place tree first.0.calls) y) second.2
        (places_follow place tree (place_rises front posts) first.0.calls second.0.calls));
  }

-- of every lawful record
pub legal_history : (unit cap : ℕ) (join : ℕ → ℕ → ℕ) (le : ℕ → ℕ → Bool) (under : ℕ → ℕ → Type 0)
    → FoldLaws unit cap join le under → (taken : Record) (tree : ℕ) → IsLawful unit cap join taken
    → tree < taken.shape.trees → HasLegalHistory join unit taken tree
legal_history unit cap join le under laws taken tree lawful tree_in =
    legal _ unit cap join le under laws taken.words.items taken.passes.items lawful.kept refl tree
    tree_in

-- in the terms of a history's own lines and places
pub legal_lines : (unit cap : ℕ) (join : ℕ → ℕ → ℕ) (le : ℕ → ℕ → Bool) (under : ℕ → ℕ → Type 0)
    → FoldLaws unit cap join le under → (taken : Record) (tree : ℕ) → IsLawful unit cap join taken
    → tree < taken.shape.trees → (lines : List Line) (places : List ℕ)
    → lines ≡ history_of taken tree → places ≡ places_of taken tree
    → AreLegalIn join unit taken tree lines places
legal_lines
    unit cap join le under laws taken tree lawful tree_in own own_places are_lines are_places =
    let passes = taken.passes.items in
    let front = front_of taken.shape.levels passes tree in
    let same : map (λ (did : Did). events_of_calls
    (λ stamp. slice_index (places_of taken tree) stamp) tree did.calls) passes
    ≡ placed_events taken tree =
    same_maps _ _ passes (λ session did at.
    let track = each_session _ taken.words.items passes lawful.kept.stamps refl tree tree_in session
    did at in
    same_events (λ stamp. slice_index (places_of taken tree) stamp) (place_in_tree taken tree) tree
    did.calls (λ k s v found.
    get-places_to front (posts_of_tree tree passes) (last_stamp taken tree) s
    (track.past.calls k (Read tree s v) found).reached)) in
    let whole = subst (IsLegal (whole_of join unit) unit (2 ^ taken.shape.levels)
    (history_of taken tree)) (sym same)
    (legal_history unit cap join le under laws taken tree lawful tree_in) in
    subst (λ (z : List Line × List ℕ). AreLegalIn join unit taken tree z.0 z.1)
    (λ i. (sym are_lines i, sym are_places i)) whole
