-- The events of one session's calls, with the place of each read by its stamp.
use Rattle.std.proofs.Common.{◌≡◌, ℕ, suc, ◌+◌, ◌≤◌, ◌==◌, Bool, true, false, cond, List, [], ◌∷◌}
use Rattle.std.proofs.Common.{◌++◌}
use Rattle.std.proofs.Common.{length, take, refl, ap, sym, ◌∙◌, subst, arith, length-append}
use Rattle.std.proofs.Common.{append_assoc}
use mathlib.Core.Option.{some}
use lib.ListN.{get_elem?}
use Rattle.std.proofs.lemmas.Bool.{eqb-true}
use Rattle.std.proofs.lemmas.List.{append-nil as append_nil}
use Rattle.risk_board.specs.declared.hand.Line.{Line}
use Rattle.risk_board.specs.declared.hand.Call.{Call}
use Rattle.risk_board.specs.declared.hand.Call.TheVariants.{Post, Read}
use Rattle.risk_board.specs.History as history
use Rattle.risk_board.specs.History.{Event, events_of_calls, array_after, lines_of, ReadsFit}
use Rattle.risk_board.specs.History.{StampsRise}
use Rattle.risk_board.specs.History.{PlaceFollows, PlacesFollow}
use Rattle.risk_board.specs.History.Event.{Posted, Saw}
use Rattle.node_rule.specs.Views.{pick}
use Rattle.node_rule.specs.Sums.{posted}
use Rattle.node_rule.proofs.CallLists.{posted-append}

module _ (place : ℕ → ℕ) (tree : ℕ) where
  abbrev events : List Call → List Event
  events calls = events_of_calls place tree calls

  post_by_case : (b : Bool) (value : ℕ) (later : List Event) (values : List ℕ)
      → history.posted later ≡ values
      → history.posted (cond b (Posted value ∷ later) later) ≡ pick b (value ∷ values) values
  post_by_case true value later values same = ap (λ s. value ∷ s) same
  post_by_case false value later values same = same

  read_by_case : (b : Bool) (stamp at value : ℕ) (later : List Event)
      → history.posted (cond b (Saw stamp at value ∷ later) later) ≡ history.posted later
  read_by_case true stamp at value later = refl
  read_by_case false stamp at value later = refl

  -- the posts of the events are those of the calls
  pub posted-events : (calls : List Call) → history.posted (events calls) ≡ posted tree calls
  posted-events [] = refl
  posted-events (Post t value ∷ calls) =
      post_by_case (t == tree) value (events calls) (posted tree calls) (posted-events calls)
  posted-events (Read t stamp value ∷ calls) =
      read_by_case (t == tree) stamp (place stamp) value (events calls) ∙ posted-events calls

  -- where places rise with stamps, the places of reads follow their stamps
  module _ (rises : (early late : ℕ) → early ≤ late → place early ≤ place late) where
    follows_post : (b : Bool) (stamp at value : ℕ) (later : List Event)
        → PlaceFollows stamp at later → PlaceFollows stamp at (cond b (Posted value ∷ later) later)
    follows_post true stamp at value later follows = follows
    follows_post false stamp at value later follows = follows

    follows_read : (b : Bool) (stamp other value : ℕ) (later : List Event)
        → PlaceFollows stamp (place stamp) later
        → PlaceFollows stamp (place stamp) (cond b (Saw other (place other) value ∷ later) later)
    follows_read true stamp other value later follows =
        (((λ le. rises stamp other le), (λ le. rises other stamp le)), follows)
    follows_read false stamp other value later follows = follows

    place_follows : (stamp : ℕ) (calls : List Call)
        → PlaceFollows stamp (place stamp) (events calls)
    place_follows stamp [] = tt
    place_follows stamp (Post t value ∷ calls) =
        follows_post (t == tree) stamp (place stamp) value (events calls)
        (place_follows stamp calls)
    place_follows stamp (Read t other value ∷ calls) =
        follows_read (t == tree) stamp other value (events calls) (place_follows stamp calls)

    both_post : (b : Bool) (value : ℕ) (later others : List Event) → PlacesFollow later others
        → PlacesFollow (cond b (Posted value ∷ later) later) others
    both_post true value later others follow = follow
    both_post false value later others follow = follow

    both_read : (b : Bool) (stamp value : ℕ) (later others : List Event)
        → PlaceFollows stamp (place stamp) others → PlacesFollow later others
        → PlacesFollow (cond b (Saw stamp (place stamp) value ∷ later) later) others
    both_read true stamp value later others here follow = (here, follow)
    both_read false stamp value later others here follow = follow

    pub places_follow : (calls others : List Call) → PlacesFollow (events calls) (events others)
    places_follow [] others = tt
    places_follow (Post t value ∷ calls) others =
        both_post (t == tree) value (events calls) (events others) (places_follow calls others)
    places_follow (Read t stamp value ∷ calls) others =
        both_read (t == tree) stamp value (events calls) (events others)
        (place_follows stamp others) (places_follow calls others)

  rise_post : (b : Bool) (least value : ℕ) (later : List Event) → StampsRise least later
      → StampsRise least (cond b (Posted value ∷ later) later)
  rise_post true least value later rise = rise
  rise_post false least value later rise = rise

  rise_read : (b : Bool) (least stamp value : ℕ) (later : List Event)
      → (b ≡ true → (least ≤ stamp) × StampsRise stamp later) → StampsRise least later
      → StampsRise least (cond b (Saw stamp (place stamp) value ∷ later) later)
  rise_read true least stamp value later here there = here refl
  rise_read false least stamp value later here there = there

  -- where no read has an earlier stamp than one before it
  pub stamps_rise : (least : ℕ) (calls : List Call)
      → ((k s v : ℕ) → get_elem? calls k ≡ some (Read tree s v) → least ≤ s)
      → ((k l t s u v w : ℕ) → k ≤ l → get_elem? calls k ≡ some (Read t s v)
      → get_elem? calls l ≡ some (Read t u w) → s ≤ u)
      → StampsRise least (events calls)
  stamps_rise least [] low order = tt
  stamps_rise least (Post t value ∷ calls) low order =
      rise_post (t == tree) least value (events calls)
      (stamps_rise least calls (λ k. low (suc k))
      (λ k l t s u v w le. order (suc k) (suc l) t s u v w (omega arith)))
  stamps_rise least (Read t stamp value ∷ calls) low order =
      rise_read (t == tree) least stamp value (events calls)
      (λ test.
      let same : t ≡ tree = eqb-true t tree test in
      let first = ap (λ n. some (Read n stamp value)) same in (
        low 0 stamp value first,
        stamps_rise stamp calls
            (λ k s v at. order 0 (suc k) tree stamp s value v (omega arith) first at)
            (λ k l t s u v w le. order (suc k) (suc l) t s u v w (omega arith)),
      ))
      (stamps_rise least calls (λ k. low (suc k))
      (λ k l t s u v w le. order (suc k) (suc l) t s u v w (omega arith)))

  count_post : (b : Bool) (value : ℕ) (values : List ℕ)
      → length (pick b (value ∷ values) values) ≡ length values + cond b 1 0
  count_post true value values = omega arith
  count_post false value values = omega arith

  module _ (whole : List ℕ → ℕ) (unit components : ℕ) (lines : List Line) (session : ℕ) where
    -- a read after so many own posts fits
    pub record Fits (made stamp value : ℕ) : Type 0 where
      pub within : place stamp ≤ length lines
      pub is : value ≡ whole (array_after unit components (take (place stamp) lines))
      pub own : length (lines_of session (take (place stamp) lines)) ≡ made

    fit_post : (b : Bool) (made value : ℕ) (later : List Event)
        → ReadsFit whole unit components lines session (made + cond b 1 0) later
        → ReadsFit whole unit components lines session made (cond b (Posted value ∷ later) later)
    fit_post true made value later fit = fit
    fit_post false made value later fit =
        let same : made + 0 ≡ made = omega arith in
        subst (λ n. ReadsFit whole unit components lines session n later) same fit

    fit_read : (b : Bool) (made stamp value : ℕ) (later : List Event)
        → (b ≡ true → Fits made stamp value)
        → ReadsFit whole unit components lines session made later
        → ReadsFit whole unit components lines session made
        (cond b (Saw stamp (place stamp) value ∷ later) later)
    fit_read true made stamp value later here fit =
        let f = here refl in (f.within, f.is, f.own, fit)
    fit_read false made stamp value later here fit = fit

    -- where each read fits after the calls before it
    pub reads_fit : (before calls : List Call)
        → ((k s v : ℕ) → get_elem? calls k ≡ some (Read tree s v)
        → Fits (length (posted tree (before ++ take k calls))) s v)
        → ReadsFit whole unit components lines session (length (posted tree before)) (events calls)
    reads_fit before [] each = tt
    reads_fit before (Post t value ∷ calls) each =
        let call : List Call = Post t value ∷ [] in
        let count : length (posted tree (before ++ call))
        ≡ length (posted tree before) + cond (t == tree) 1 0 =
        ap length (posted-append tree before call)
        ∙ (length-append (posted tree before) (posted tree call)
        ∙ (let more : length (posted tree call) ≡ 0 + cond (t == tree) 1 0 =
        count_post (t == tree) value [] in omega arith)) in
        fit_post (t == tree) (length (posted tree before)) value (events calls)
        (subst (λ n. ReadsFit whole unit components lines session n (events calls)) count
        (reads_fit (before ++ call) calls
        (λ k s v at. subst (λ b. Fits (length (posted tree b)) s v)
        (sym (append_assoc before call (take k calls))) (each (suc k) s v at))))
    reads_fit before (Read t stamp value ∷ calls) each =
        let call : List Call = Read t stamp value ∷ [] in
        let count : length (posted tree (before ++ call)) ≡ length (posted tree before) =
        ap length (posted-append tree before call ∙ append_nil (posted tree before)) in
        fit_read (t == tree) (length (posted tree before)) stamp value (events calls)
        (λ test.
        let same : t ≡ tree = eqb-true t tree test in
        subst (λ b. Fits (length (posted tree b)) stamp value) (append_nil before)
        (each 0 stamp value (ap (λ n. some (Read n stamp value)) same)))
        (subst (λ n. ReadsFit whole unit components lines session n (events calls)) count
        (reads_fit (before ++ call) calls
        (λ k s v at. subst (λ b. Fits (length (posted tree b)) s v)
        (sym (append_assoc before call (take k calls))) (each (suc k) s v at))))
