-- A session stands in a tree's history as its own steps leave it, whatever others do between them and
-- however posts and reads change its standing.
use Rattle.std.proofs.Common.{◌≡◌, ℕ, zero, suc, ◌<◌, ◌==◌, List, [], ◌∷◌, length, take, map}
use Rattle.std.proofs.Common.{fold, replicate, refl, ap, sym, ◌∙◌, arith, Bool, true, false, cond}
use Rattle.std.proofs.Common.{length-set}
use Rattle.std.specs.Prelude.{Some, slice_get, slice_set}
use Rattle.std.proofs.lemmas.Bool.{eqb-true, eqb-false}
use Rattle.std.proofs.lemmas.List.{get_or-set_same, get_or-set_other, length-replicate, take-map}
use Rattle.std.proofs.lemmas.Option.{slice_get_within}
use Rattle.risk_board.specs.declared.hand.Line.{Line}
use Rattle.risk_board.specs.History.{Event, IsLegal}
use Rattle.risk_board.specs.History.Event.{Posted, Saw}
use Rattle.admit_core.specs.Admitted.{Standing, Moment, nothing, standing_at, moments, session_of}
use Rattle.admit_core.specs.Admitted.{steps_of, step_of, made_in}
use Rattle.admit_core.specs.Admitted.Moment.{Posts, Reads}
use Rattle.admit_core.proofs.OwnSteps.{steps_are_own}

-- where one session's standing changes
changed : (own session : ℕ) (change : Standing → Standing) (standings : List Standing)
    → session < length standings
    → standing_at session (slice_set standings own (change (standing_at own standings)))
    ≡ cond (own == session) (change (standing_at session standings))
    (standing_at session standings)
changed own session change standings inside = by_test (own == session) refl
  where
    by_test : (here : Bool) → (own == session) ≡ here
        → standing_at session (slice_set standings own (change (standing_at own standings)))
        ≡ cond here (change (standing_at session standings)) (standing_at session standings)
    by_test true is =
        ap (λ n. standing_at session (slice_set standings n (change (standing_at n standings))))
        (eqb-true own session is)
        ∙ get_or-set_same standings session (change (standing_at session standings)) nothing inside
    by_test false is =
        get_or-set_other standings own session (change (standing_at own standings)) nothing
        (λ e. eqb-false own session is (sym e))

-- the steps of a session in a front are a front of its steps
steps_of-take : (session count : ℕ) (passed : List Moment)
    → steps_of session (take count passed)
    ≡ take (length (steps_of session (take count passed))) (steps_of session passed)
steps_of-take session zero passed = refl
steps_of-take session (suc count) [] = refl
steps_of-take session (suc count) (moment ∷ passed) =
    by_test (session_of moment == session) (steps_of-take session count passed)
  where
    front : List Moment
    front = steps_of session (take count passed)

    all : List Moment
    all = steps_of session passed

    by_test : (own : Bool) → front ≡ take (length front) all
        → cond own (moment ∷ front) front
        ≡ take (length (cond own (moment ∷ front) front)) (cond own (moment ∷ all) all)
    by_test true is = ap (λ s. moment ∷ s) is
    by_test false is = is

standing_at-opening : (session sessions : ℕ)
    → standing_at session (replicate sessions nothing) ≡ nothing
standing_at-opening session zero = refl
standing_at-opening zero (suc sessions) = refl
standing_at-opening (suc session) (suc sessions) = standing_at-opening session sessions

-- how a post and a read of a value change a session's standing
module _ (post read : ℕ → Standing → Standing) where
  -- one session after a step of its own, and after an event of its own
  abbrev after_step : Standing → Moment → Standing
  after_step standing (Posts session value) = post value standing
  after_step standing (Reads session value) = read value standing

  abbrev after_event : Standing → Event → Standing
  after_event standing (Posted value) = post value standing
  after_event standing (Saw stamp place value) = read value standing

  -- the sessions after a step of one of them, and after several
  abbrev after_moment : List Standing → Moment → List Standing
  after_moment standings (Posts session value) =
      slice_set standings session (post value (standing_at session standings))
  after_moment standings (Reads session value) =
      slice_set standings session (read value (standing_at session standings))

  abbrev standings_after : ℕ → List Moment → List Standing
  standings_after sessions passed = fold after_moment (replicate sessions nothing) passed

  -- a step changes its own session alone
  standing_after : (session : ℕ) (standings : List Standing) (moment : Moment)
      → session < length standings
      → standing_at session (after_moment standings moment)
      ≡ cond (session_of moment == session) (after_step (standing_at session standings) moment)
      (standing_at session standings)
  standing_after session standings (Posts own value) inside =
      changed own session (post value) standings inside
  standing_after session standings (Reads own value) inside =
      changed own session (read value) standings inside

  length-after_moment : (standings : List Standing) (moment : Moment)
      → length (after_moment standings moment) ≡ length standings
  length-after_moment standings (Posts own value) =
      length-set standings own (post value (standing_at own standings))
  length-after_moment standings (Reads own value) =
      length-set standings own (read value (standing_at own standings))

  -- its steps alone say how a session stands
  stands : (session : ℕ) (standings : List Standing) (passed : List Moment)
      → session < length standings
      → standing_at session (fold after_moment standings passed)
      ≡ fold after_step (standing_at session standings) (steps_of session passed)
  stands session standings [] inside = refl
  stands session standings (moment ∷ passed) inside =
      let now = after_moment standings moment in
      stands session now passed (omega (arith, length-after_moment standings moment))
      ∙ ap (λ s. fold after_step s (steps_of session passed))
      (standing_after session standings moment inside)
      ∙ by_test (session_of moment == session)
    where
      before : Standing
      before = standing_at session standings

      later : List Moment
      later = steps_of session passed

      by_test : (own : Bool)
          → fold after_step (cond own (after_step before moment) before) later
          ≡ fold after_step before (cond own (moment ∷ later) later)
      by_test true = refl
      by_test false = refl

  -- its events do what its steps do
  fold-step_of : (session : ℕ) (start : Standing) (own : List Event)
      → fold after_step start (map (step_of session) own)
      ≡ fold after_event start own
  fold-step_of session start [] = refl
  fold-step_of session start (Posted value ∷ own) =
      fold-step_of session (post value start) own
  fold-step_of session start (Saw stamp place value ∷ own) =
      fold-step_of session (read value start) own

  -- from the opening a session stands as its steps leave it
  stands_at : (session sessions : ℕ) (passed : List Moment) → session < sessions
      → standing_at session (standings_after sessions passed)
      ≡ fold after_step nothing (steps_of session passed)
  stands_at session sessions passed inside =
      stands session (replicate sessions nothing) passed
      (omega (arith, length-replicate sessions nothing))
      ∙ ap (λ s. fold after_step s (steps_of session passed))
      (standing_at-opening session sessions)

  length-standings_after : (standings : List Standing) (passed : List Moment)
      → length (fold after_moment standings passed) ≡ length standings
  length-standings_after standings [] = refl
  length-standings_after standings (moment ∷ passed) =
      length-standings_after (after_moment standings moment) passed
      ∙ length-after_moment standings moment

  -- sessions that stand as their own events leave them
  own_standings : (standings : List Standing) (events : List (List Event))
      → length standings ≡ length events
      → ((session : ℕ) (own : List Event) → slice_get events session ≡ Some own
      → standing_at session standings ≡ fold after_event nothing own)
      → standings ≡ map (fold after_event nothing) events
  own_standings [] [] many own = refl
  own_standings [] (events ∷ others) many own = absurd (omega (arith, many))
  own_standings (standing ∷ standings) [] many own = absurd (omega (arith, many))
  own_standings (standing ∷ standings) (events ∷ others) many own =
      ap (λ s. s ∷ standings) (own 0 events refl)
      ∙ ap (λ s. fold after_event nothing events ∷ s)
      (own_standings standings others (omega (arith, many))
      (λ session later at. own (suc session) later at))

  module _ (whole : List ℕ → ℕ) (unit components : ℕ) (lines : List Line)
      (events : List (List Event)) (legal : IsLegal whole unit components lines events) where
    steps : (session : ℕ) (own : List Event) → slice_get events session ≡ Some own
        → steps_of session (moments lines events) ≡ map (step_of session) own
    steps = steps_are_own whole unit components lines events legal

    -- at the end
    pub ends : (session : ℕ) (own : List Event) → slice_get events session ≡ Some own
        → standing_at session (standings_after (length events) (moments lines events))
        ≡ fold after_event nothing own
    ends session own at =
        stands_at session (length events) (moments lines events)
        (slice_get_within events session own at)
        ∙ ap (fold after_step nothing) (steps session own at)
        ∙ fold-step_of session nothing own

    -- and after so many steps
    pub stands_after : (session : ℕ) (own : List Event) (count : ℕ)
        → slice_get events session ≡ Some own
        → standing_at session
        (standings_after (length events) (take count (moments lines events)))
        ≡ fold after_event nothing (take (made_in session count (moments lines events)) own)
    stands_after session own count at =
        stands_at session (length events) (take count (moments lines events))
        (slice_get_within events session own at)
        ∙ ap (fold after_step nothing)
        (steps_of-take session count (moments lines events)
        ∙ ap (take (made_in session count (moments lines events))) (steps session own at)
        ∙ take-map (step_of session) (made_in session count (moments lines events)) own)
        ∙ fold-step_of session nothing (take (made_in session count (moments lines events)) own)

    -- how all of them stand at the end
    pub all_end : standings_after (length events) (moments lines events)
        ≡ map (fold after_event nothing) events
    all_end =
        own_standings (standings_after (length events) (moments lines events)) events
        (length-standings_after (replicate (length events) nothing) (moments lines events)
        ∙ length-replicate (length events) nothing) ends
