-- One place of a history: its reads and then its line.
use Rattle.std.proofs.Common.{◌≡◌, ℕ, ◌+◌, ◌<◌, List, [], ◌∷◌, length, get_or, map, refl, sym, ap, ◌∙◌}
use Rattle.std.proofs.Common.{Bool, true, false, ◌&&◌, fold, Vec, Global}
use Rattle.std.proofs.lemmas.List.{length-map, get_or-map}
use Rattle.risk_board.specs.declared.hand.Line.{Line}
use Rattle.admit_core.specs.Admitted.{after_moment}
use Rattle.admit_core.specs.Admitted.{Standing as OwnStanding}
use Rattle.tree_check.specs.declared.read_at.ReadAt.{ReadAt}
use Rattle.tree_check.specs.Reads.{line_moment, moments_by, read_moment}
use Rattle.tree_check.specs.Staying.{stays_from}
use Rattle.tree_check.proofs.Stays.{from_place, is_low, last_place, place_parts}

-- the lists as they are kept
abbrev pub kept : List (Vec ReadAt Global) → List (List ReadAt)
kept places = map (λ (own : Vec ReadAt Global). own.items) places

-- a list that was looked up
pub kept_in : (places : List (Vec ReadAt Global)) (place : ℕ) (own : Vec ReadAt Global)
    (reads : List ReadAt) → place < length places → own ≡ get_or places place own
    → reads ≡ own.items → reads ≡ get_or (kept places) place []
kept_in places place own reads below is are =
    are ∙ ap (λ (o : Vec ReadAt Global). o.items) is
    ∙ sym (get_or-map (λ (o : Vec ReadAt Global). o.items) places place own [] below)

pub kept_long : (places : List (Vec ReadAt Global)) (n : ℕ) → length places ≡ n
    → length (kept places) ≡ n
kept_long places n long = length-map places (λ (o : Vec ReadAt Global). o.items) ∙ long

and_true : (b : Bool) → (b && true) ≡ b
and_true true = refl
and_true false = refl

passed_first : (a b : Bool) → a ≡ false → (a && b) ≡ false
passed_first true b is = absurd cc
passed_first false b is = refl

module _ (limit : ℕ) (lines : List Line) (places : List (List ReadAt))
    (long : length places ≡ length lines + 1) (start now : List OwnStanding) (place : ℕ)
    (so_far : stays_from limit now (from_place limit lines places long place)
    ≡ stays_from limit start (moments_by lines places))
    (reads : List ReadAt) (are : reads ≡ get_or places place [])
    (read : Bool) (read_is : read ≡ stays_from limit now (map read_moment reads)) where
  own_is : read ≡ stays_from limit now (map read_moment (get_or places place []))
  own_is = read_is ∙ ap (λ rs. stays_from limit now (map read_moment rs)) are

  -- no line is left: what is along the whole is what the last reads leave
  pub last_reads : place ≡ length lines → read ≡ stays_from limit start (moments_by lines places)
  last_reads last = own_is ∙ sym (last_place limit lines places long now place last) ∙ so_far

  module _ (none : Line) (below : place < length lines) where
    -- the reads pass the limit
    pub reads_passed : read ≡ false → false ≡ stays_from limit start (moments_by lines places)
    reads_passed is =
        sym (passed_first (stays_from limit now (map read_moment (get_or places place []))) _
        (sym own_is ∙ is))
        ∙ sym (place_parts limit lines places long now place none below) ∙ so_far

    module _ (after : List OwnStanding) (kept_so : read ≡ true)
        (after_is : after ≡ fold (after_moment limit) now (map read_moment reads)) (line : Bool)
        (line_is : line ≡ stays_from limit after (line_moment (get_or lines place none) ∷ [])) where
      stands : after ≡ fold (after_moment limit) now (map read_moment (get_or places place []))
      stands = after_is ∙ ap (λ rs. fold (after_moment limit) now (map read_moment rs)) are

      low_is : is_low limit (fold (after_moment limit) now (map read_moment (get_or places place [])))
          (line_moment (get_or lines place none)) ≡ line
      low_is =
          ap (λ s. is_low limit s (line_moment (get_or lines place none))) (sym stands)
          ∙ sym (and_true (is_low limit after (line_moment (get_or lines place none))))
          ∙ sym line_is

      -- the reads are within it, and then it is as the line says
      whole_is : stays_from limit start (moments_by lines places)
          ≡ (line && stays_from limit (after_moment limit after (line_moment (get_or lines place none)))
          (from_place limit lines places long (place + 1)))
      whole_is =
          sym so_far ∙ place_parts limit lines places long now place none below
          ∙ ap (λ b. b && (is_low limit
          (fold (after_moment limit) now (map read_moment (get_or places place [])))
          (line_moment (get_or lines place none)) && stays_from limit (after_moment limit
          (fold (after_moment limit) now (map read_moment (get_or places place [])))
          (line_moment (get_or lines place none))) (from_place limit lines places long (place + 1))))
          (sym own_is ∙ kept_so)
          ∙ ap (λ b. b && stays_from limit (after_moment limit
          (fold (after_moment limit) now (map read_moment (get_or places place [])))
          (line_moment (get_or lines place none))) (from_place limit lines places long (place + 1)))
          low_is
          ∙ ap (λ s. line && stays_from limit (after_moment limit s
          (line_moment (get_or lines place none))) (from_place limit lines places long (place + 1)))
          (sym stands)

      pub line_passed : line ≡ false → false ≡ stays_from limit start (moments_by lines places)
      line_passed is = sym (whole_is ∙ passed_first line _ is)

      pub goes_on : (next : List OwnStanding) → line ≡ true
          → next ≡ after_moment limit after (line_moment (get_or lines place none))
          → stays_from limit next (from_place limit lines places long (place + 1))
          ≡ stays_from limit start (moments_by lines places)
      goes_on next is next_is =
          ap (λ s. stays_from limit s (from_place limit lines places long (place + 1))) next_is
          ∙ sym (whole_is ∙ ap (λ b. b && stays_from limit
          (after_moment limit after (line_moment (get_or lines place none)))
          (from_place limit lines places long (place + 1))) is)
