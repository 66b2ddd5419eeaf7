-- What is admitted along steps, one after another.
use Rattle.std.proofs.Common.{◌≡◌, ℕ, ◌+◌, ◌<◌, ◌≤◌, zero, suc, List, [], ◌∷◌, ◌++◌, length, drop, get_or}
use Rattle.std.proofs.Common.{map, refl, sym, ap, ◌∙◌, arith, Bool, true, false, ◌&&◌, fold, cond}
use Rattle.std.specs.Prelude.{nat_le, filter}
use Rattle.std.specs.List.{AllByRecursion}
use Rattle.std.proofs.Math.Seq.{drop-cons}
use Rattle.risk_board.specs.declared.hand.Line.{Line}
use Rattle.admit_core.specs.Admitted.{Moment, after_moment}
use Rattle.admit_core.specs.Admitted.{Standing as OwnStanding}
use Rattle.tree_check.specs.declared.read_at.ReadAt.{ReadAt}
use Rattle.tree_check.specs.Reads.{read_moment, line_moment, moments_by}
use Rattle.tree_check.specs.Staying.{admitted_by, stays_from}

-- the step is within the limit
abbrev pub is_low : ℕ → List OwnStanding → Moment → Bool
is_low limit standings moment = nat_le (admitted_by (after_moment limit standings moment)) limit

and_assoc : (a b c : Bool) → (a && (b && c)) ≡ ((a && b) && c)
and_assoc true b c = refl
and_assoc false b c = refl

module _ (limit : ℕ) where
  -- steps and others behind them
  pub stays-append : (standings : List OwnStanding) (first behind : List Moment)
      → stays_from limit standings (first ++ behind)
      ≡ (stays_from limit standings first
      && stays_from limit (fold (after_moment limit) standings first) behind)
  stays-append standings [] behind = refl
  stays-append standings (moment ∷ first) behind =
      ap (λ b. is_low limit standings moment && b)
      (stays-append (after_moment limit standings moment) first behind)
      ∙ and_assoc (is_low limit standings moment) _ _

  -- after the reads so far
  pub record IsReadTo (start now : List OwnStanding) (reads : List ReadAt) (i : ℕ) : Type 0 where
    pub stays : stays_from limit now (map read_moment (drop i reads))
        ≡ stays_from limit start (map read_moment reads)
    pub after : fold (after_moment limit) now (map read_moment (drop i reads))
        ≡ fold (after_moment limit) start (map read_moment reads)

  split_read : (reads : List ReadAt) (i : ℕ) (none : ReadAt) → i < length reads
      → map read_moment (drop i reads)
      ≡ read_moment (get_or reads i none) ∷ map read_moment (drop (i + 1) reads)
  split_read reads i none in_range =
      ap (map read_moment) (drop-cons reads i none in_range
      ∙ ap (λ n. get_or reads i none ∷ drop n reads) (let s : suc i ≡ i + 1 = omega arith in s))

  pub read_next : (start now next : List OwnStanding) (reads : List ReadAt) (i : ℕ) (none : ReadAt)
      → i < length reads → IsReadTo start now reads i
      → next ≡ after_moment limit now (read_moment (get_or reads i none))
      → nat_le (admitted_by next) limit ≡ true → IsReadTo start next reads (i + 1)
  read_next start now next reads i none in_range so_far is low = record {
    stays = ap (λ s. stays_from limit s (map read_moment (drop (i + 1) reads))) is
        ∙ ap (λ b. b && stays_from limit (after_moment limit now (read_moment (get_or reads i none)))
        (map read_moment (drop (i + 1) reads)))
        (sym (ap (λ s. nat_le (admitted_by s) limit) (sym is) ∙ low))
        ∙ ap (stays_from limit now) (sym (split_read reads i none in_range))
        ∙ so_far.stays;
    after = ap (λ s. fold (after_moment limit) s (map read_moment (drop (i + 1) reads))) is
        ∙ ap (fold (after_moment limit) now) (sym (split_read reads i none in_range))
        ∙ so_far.after;
  }

  pub read_fails : (start now next : List OwnStanding) (reads : List ReadAt) (i : ℕ) (none : ReadAt)
      → i < length reads → IsReadTo start now reads i
      → next ≡ after_moment limit now (read_moment (get_or reads i none))
      → nat_le (admitted_by next) limit ≡ false
      → false ≡ stays_from limit start (map read_moment reads)
  read_fails start now next reads i none in_range so_far is high =
      ap (λ b. b && stays_from limit (after_moment limit now (read_moment (get_or reads i none)))
      (map read_moment (drop (i + 1) reads)))
      (sym (ap (λ s. nat_le (admitted_by s) limit) (sym is) ∙ high))
      ∙ ap (stays_from limit now) (sym (split_read reads i none in_range))
      ∙ so_far.stays

  none_left : (reads : List ReadAt) (i : ℕ) → length reads ≤ i → map read_moment (drop i reads) ≡ []
  none_left reads i whole = ap (map read_moment) (nothing reads i whole) where
    nothing : (xs : List ReadAt) (n : ℕ) → length xs ≤ n → drop n xs ≡ []
    nothing [] zero all = refl
    nothing [] (suc n) all = refl
    nothing (x ∷ xs) zero all = absurd (omega (arith, all))
    nothing (x ∷ xs) (suc n) all = nothing xs n (omega (arith, all))

  pub read_all : (start now : List OwnStanding) (reads : List ReadAt) (i : ℕ) → length reads ≤ i
      → IsReadTo start now reads i
      → (true ≡ stays_from limit start (map read_moment reads))
      × (now ≡ fold (after_moment limit) start (map read_moment reads))
  read_all start now reads i whole so_far = (
    ap (stays_from limit now) (sym (none_left reads i whole)) ∙ so_far.stays,
    ap (fold (after_moment limit) now) (sym (none_left reads i whole)) ∙ so_far.after,
  )

and_true : (b : Bool) → (b && true) ≡ b
and_true true = refl
and_true false = refl

and_false : (b c : Bool) → b ≡ false → (b && c) ≡ false
and_false true c is = absurd cc
and_false false c is = refl

-- the reads' sessions at a place
pub read_session : (sessions : ℕ) (reads : List ReadAt) (i : ℕ) (none : ReadAt)
    → AllByRecursion (λ read. read.session < sessions) reads → i < length reads
    → (get_or reads i none).session < sessions
read_session sessions [] i none each in_range = absurd (omega (arith, in_range))
read_session sessions (read ∷ reads) zero none each in_range = each.0
read_session sessions (read ∷ reads) (suc i) none each in_range =
    read_session sessions reads i none each.1 (omega (arith, in_range))

-- those of the reads at a place are among all
pub filter_sessions : (sessions : ℕ) (p : ReadAt → Bool) (reads : List ReadAt)
    → AllByRecursion (λ read. read.session < sessions) reads
    → AllByRecursion (λ read. read.session < sessions) (filter p reads)
filter_sessions sessions p [] each = tt
filter_sessions sessions p (read ∷ reads) each =
    choose (p read) (filter_sessions sessions p reads each.1) where
      choose : (b : Bool) → AllByRecursion (λ r. r.session < sessions) (filter p reads)
          → AllByRecursion (λ r. r.session < sessions) (cond b (read ∷ filter p reads) (filter p reads))
      choose true rest = (each.0, rest)
      choose false rest = rest

-- along the lines from a place on
module _ (limit : ℕ) (lines : List Line) (places : List (List ReadAt))
    (long : length places ≡ length lines + 1) where
  abbrev pub from_place : ℕ → List Moment
  from_place place = moments_by (drop place lines) (drop place places)

  no_line : (xs : List Line) (n : ℕ) → n ≡ length xs → drop n xs ≡ []
  no_line [] zero all = refl
  no_line [] (suc n) all = refl
  no_line (x ∷ xs) zero all = absurd (omega (arith, all))
  no_line (x ∷ xs) (suc n) all = no_line xs n (omega (arith, all))

  split_place : (place : ℕ) (none : Line) → place < length lines
      → from_place place
      ≡ map read_moment (get_or places place [])
      ++ line_moment (get_or lines place none) ∷ from_place (place + 1)
  split_place place none in_range =
      let next : suc place ≡ place + 1 = omega arith in
      ap (λ ls. moments_by ls (drop place places))
      (drop-cons lines place none in_range ∙ ap (λ n. get_or lines place none ∷ drop n lines) next)
      ∙ ap (moments_by (get_or lines place none ∷ drop (place + 1) lines))
      (drop-cons places place [] (omega (arith, in_range, long))
      ∙ ap (λ n. get_or places place [] ∷ drop n places) next)

  -- the reads at the place, then its line, then the rest
  pub place_parts : (start : List OwnStanding) (place : ℕ) (none : Line) → place < length lines
      → (let reads = map read_moment (get_or places place []) in
      let read = fold (after_moment limit) start reads in
      let line = line_moment (get_or lines place none) in
      stays_from limit start (from_place place)
      ≡ (stays_from limit start reads
      && (is_low limit read line
      && stays_from limit (after_moment limit read line) (from_place (place + 1)))))
  place_parts start place none in_range =
      ap (stays_from limit start) (split_place place none in_range)
      ∙ stays-append limit start (map read_moment (get_or places place []))
      (line_moment (get_or lines place none) ∷ from_place (place + 1))

  -- the last reads have no line behind them
  pub last_place : (start : List OwnStanding) (place : ℕ) → place ≡ length lines
      → stays_from limit start (from_place place)
      ≡ stays_from limit start (map read_moment (get_or places place []))
  last_place start place is =
      ap (λ ls. stays_from limit start (moments_by ls (drop place places))) (no_line lines place is)
      ∙ ap (λ ps. stays_from limit start (moments_by [] ps))
      (drop-cons places place [] (omega (arith, is, long)))
