-- The events of one session that remain at a place of a tree's history: the reads at the place
-- stand first, and all others at later places.
use Rattle.std.proofs.Common.{◌≡◌, ◌≢◌, ℕ, ◌+◌, ◌≤◌, ◌<◌, ◌==◌, List, [], ◌∷◌, ◌++◌, length}
use Rattle.std.proofs.Common.{take, map, refl, ap, sym, ◌∙◌, subst, arith, Bool, true, false, cond}
use Rattle.std.proofs.lemmas.Bool.{eqb-true, eqb-false, ne_eqb}
use Rattle.risk_board.specs.declared.hand.Line.{Line}
use Rattle.risk_board.specs.History.{Event, posted, lines_of, ReadsFit, StampsRise, PlaceFollows}
use Rattle.risk_board.specs.History.{PlacesFollow}
use Rattle.risk_board.specs.History.Event.{Posted, Saw}
use Rattle.admit_core.specs.Admitted.{reads_at, step_of}
use Rattle.admit_core.specs.Admitted.Moment.{Reads}

-- the reads stand at places that never fall, from the least on
abbrev pub PlacesRise : ℕ → List Event → Type 0
PlacesRise least [] = Unit {0}
PlacesRise least (Posted value ∷ events) = PlacesRise least events
PlacesRise least (Saw stamp place value ∷ events) = (least ≤ place) × PlacesRise place events

-- what stands so to all events stands so to those behind the first
follows_rest : (event : Event) (events others : List Event)
    → PlacesFollow events (event ∷ others) → PlacesFollow events others
follows_rest event [] others follow = tt
follows_rest event (Posted value ∷ events) others follow =
    follows_rest event events others follow
follows_rest (Posted other) (Saw stamp place value ∷ events) others follow =
    (follow.0, follows_rest (Posted other) events others follow.1)
follows_rest (Saw other at seen) (Saw stamp place value ∷ events) others follow =
    (follow.0.1, follows_rest (Saw other at seen) events others follow.1)

-- behind a read of that stamp and place
rises_behind : (stamp place : ℕ) (events : List Event) → StampsRise stamp events
    → PlaceFollows stamp place events → PlacesFollow events events → PlacesRise place events
rises_behind stamp place [] rise first follow = tt
rises_behind stamp place (Posted value ∷ events) rise first follow =
    rises_behind stamp place events rise first
    (follows_rest (Posted value) events events follow)
rises_behind stamp place (Saw other at value ∷ events) rise first follow = (
  first.0.0 rise.0,
  rises_behind other at events rise.1 follow.0.1
      (follows_rest (Saw other at value) events events follow.1),
)

-- the places of a session's reads rise with their stamps
pub places_rise : (least : ℕ) (events : List Event) → StampsRise least events
    → PlacesFollow events events → PlacesRise 0 events
places_rise least [] rise follow = tt
places_rise least (Posted value ∷ events) rise follow =
    places_rise least events rise (follows_rest (Posted value) events events follow)
places_rise least (Saw stamp place value ∷ events) rise follow = (
  omega arith,
  rises_behind stamp place events rise.1 follow.0.1
      (follows_rest (Saw stamp place value) events events follow.1),
)

-- the events behind the leading reads at a place
abbrev pub after_place : ℕ → List Event → List Event
after_place place [] = []
after_place place (Posted value ∷ events) = Posted value ∷ events
after_place place (Saw stamp at value ∷ events) =
    cond (at == place) (after_place place events) (Saw stamp at value ∷ events)

pub posted-after_place : (place : ℕ) (events : List Event)
    → posted (after_place place events) ≡ posted events
posted-after_place place [] = refl
posted-after_place place (Posted value ∷ events) = refl
posted-after_place place (Saw stamp at value ∷ events) =
    by_test (at == place) (posted-after_place place events)
  where
    by_test : (here : Bool) → posted (after_place place events) ≡ posted events
        → posted (cond here (after_place place events) (Saw stamp at value ∷ events))
        ≡ posted events
    by_test true is = is
    by_test false is = refl

-- at a later place there are the same reads
pub reads_at-after_place : (session place later : ℕ) (events : List Event) → place < later
    → reads_at session later (after_place place events) ≡ reads_at session later events
reads_at-after_place session place later [] below = refl
reads_at-after_place session place later (Posted value ∷ events) below = refl
reads_at-after_place session place later (Saw stamp at value ∷ events) below =
    by_test (at == place) refl (reads_at-after_place session place later events below)
  where
    by_test : (here : Bool) → (at == place) ≡ here
        → reads_at session later (after_place place events) ≡ reads_at session later events
        → reads_at session later
        (cond here (after_place place events) (Saw stamp at value ∷ events))
        ≡ reads_at session later (Saw stamp at value ∷ events)
    by_test true is behind =
        let same : at ≡ place = eqb-true at place is in
        let apart : at ≢ later = omega arith in
        behind ∙ sym (ap (λ b. cond b (Reads session value ∷ reads_at session later events)
        (reads_at session later events)) (ne_eqb at later apart))
    by_test false is behind = refl

-- no read stands below the places that rise
pub none_at_place : (session place least : ℕ) (events : List Event) → place < least
    → PlacesRise least events → reads_at session place events ≡ []
none_at_place session place least [] below rise = refl
none_at_place session place least (Posted value ∷ events) below rise =
    none_at_place session place least events below rise
none_at_place session place least (Saw stamp at value ∷ events) below rise =
    let apart : at ≢ place = omega (arith, rise.0) in
    let later : place < at = omega (arith, rise.0) in
    ap (λ b. cond b (Reads session value ∷ reads_at session place events)
    (reads_at session place events)) (ne_eqb at place apart)
    ∙ none_at_place session place at events later rise.1

-- the reads at the place, and then what is behind them
pub split_at_place : (session place : ℕ) (events : List Event)
    → reads_at session place (after_place place events) ≡ []
    → map (step_of session) events
    ≡ reads_at session place events ++ map (step_of session) (after_place place events)
split_at_place session place [] none = refl
split_at_place session place (Posted value ∷ events) none =
    sym (ap (λ s. s ++ map (step_of session) (Posted value ∷ events)) none)
split_at_place session place (Saw stamp at value ∷ events) none =
    by_test (at == place) refl none (split_at_place session place events)
  where
    all : List Event
    all = Saw stamp at value ∷ events

    by_test : (here : Bool) → (at == place) ≡ here
        → reads_at session place (cond here (after_place place events) all) ≡ []
        → (reads_at session place (after_place place events) ≡ []
        → map (step_of session) events
        ≡ reads_at session place events ++ map (step_of session) (after_place place events))
        → map (step_of session) all ≡ reads_at session place all
        ++ map (step_of session) (cond here (after_place place events) all)
    by_test true is none_here split =
        ap (λ s. Reads session value ∷ s) (split none_here)
        ∙ sym (ap (λ b. cond b (Reads session value ∷ reads_at session place events)
        (reads_at session place events) ++ map (step_of session) (after_place place events)) is)
    by_test false is none_here split = sym (ap (λ s. s ++ map (step_of session) all) none_here)

module _ (whole : List ℕ → ℕ) (unit components : ℕ) (lines : List Line) (session : ℕ) where
  -- so many lines of the session stand before a place
  abbrev pub before_place : ℕ → ℕ
  before_place place = length (lines_of session (take place lines))

  -- each read after so many posts fits
  abbrev pub Fits : ℕ → List Event → Type 0
  Fits made events = ReadsFit whole unit components lines session made events

  -- reads behind a further post are at later places
  rises_past_post : (place made : ℕ) (events : List Event) → before_place place < made
      → PlacesRise place events → Fits made events → PlacesRise (place + 1) events
  rises_past_post place made [] more rise fit = tt
  rises_past_post place made (Posted value ∷ events) more rise fit =
      rises_past_post place (made + 1) events (omega arith) rise fit
  rises_past_post place made (Saw stamp at value ∷ events) more rise fit =
      let apart : at ≢ place =
      λ same. omega (arith, fit.2, ap (λ n. before_place n) same) in
      (omega (arith, rise.0), rise.1)

  -- and so are all behind the leading reads at a place
  pub after_place_rises : (place made : ℕ) (events : List Event) → before_place place ≡ made
      → PlacesRise place events → Fits made events
      → PlacesRise (place + 1) (after_place place events)
  after_place_rises place made [] count rise fit = tt
  after_place_rises place made (Posted value ∷ events) count rise fit =
      rises_past_post place (made + 1) events (omega arith) rise fit
  after_place_rises place made (Saw stamp at value ∷ events) count rise fit =
      by_test (at == place) refl
      (λ from. after_place_rises place made events count from fit.3)
    where
      by_test : (here : Bool) → (at == place) ≡ here
          → (PlacesRise place events → PlacesRise (place + 1) (after_place place events))
          → PlacesRise (place + 1)
          (cond here (after_place place events) (Saw stamp at value ∷ events))
      by_test true is behind =
          behind (subst (λ (n : ℕ). PlacesRise n events) (eqb-true at place is) rise.1)
      by_test false is behind =
          let apart : at ≢ place = eqb-false at place is in
          (omega (arith, rise.0), rise.1)

  pub after_place_fits : (place made : ℕ) (events : List Event) → Fits made events
      → Fits made (after_place place events)
  after_place_fits place made [] fit = tt
  after_place_fits place made (Posted value ∷ events) fit = fit
  after_place_fits place made (Saw stamp at value ∷ events) fit =
      by_test (at == place) (after_place_fits place made events fit.3)
    where
      by_test : (here : Bool) → Fits made (after_place place events)
          → Fits made (cond here (after_place place events) (Saw stamp at value ∷ events))
      by_test true behind = behind
      by_test false behind = fit
