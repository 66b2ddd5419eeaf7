-- What the sums over a record's view say of one session.
use Rattle.std.proofs.Common.{◌≡◌, ℕ, zero, suc, ◌+◌, ◌<◌, ◌≤◌, ◌==◌, List, [], ◌∷◌}
use Rattle.std.proofs.Common.{length, map, refl, ap, sym, ◌∙◌, subst, arith, eq-eqb}
use Rattle.std.specs.Prelude.{Some, slice_get}
use Rattle.std.proofs.lemmas.Bool.{ne_eqb}
use Rattle.node_rule.specs.declared.view.Track.{Track}
use Rattle.node_rule.specs.Sums.{Each, total, over, when}
use Rattle.f_array.specs.Records.{Did}
use Rattle.trail_replay.specs.Fronts.{tracks_from, view_of}

-- what a session of a record did
abbrev pub track_at : ℕ → Did → Track
track_at number did = record { number = number; calls = did.calls; trail = did.trail }

-- the element that a mapped list has at a place
pub slice_get-mapped : {A B : Type 0} (f : A → B) (xs : List A) (k : ℕ) (y : B)
    → slice_get (map f xs) k ≡ Some y → (x : A) × (slice_get xs k ≡ Some x) × (f x ≡ y)
slice_get-mapped f [] k y e = absurd (cc)
slice_get-mapped f (x ∷ xs) zero y e = let same : f x ≡ y = cc in (x, refl, same)
slice_get-mapped f (x ∷ xs) (suc k) y e = slice_get-mapped f xs k y e

pub slice_get-map_some : {A B : Type 0} (f : A → B) (xs : List A) (k : ℕ) (x : A)
    → slice_get xs k ≡ Some x → slice_get (map f xs) k ≡ Some (f x)
slice_get-map_some f [] k x e = absurd (cc)
slice_get-map_some f (y ∷ xs) zero x e = let same : y ≡ x = cc in ap (λ z. Some (f z)) same
slice_get-map_some f (y ∷ xs) (suc k) x e = slice_get-map_some f xs k x e

-- what holds of each track holds of that of a session
pub each-track : (P : Track → Type 0) (first away : ℕ) (passes : List Did) (did : Did)
    → Each P (tracks_from first passes) → slice_get passes away ≡ Some did
    → P (track_at (first + away) did)
each-track P first away [] did each at = absurd (cc)
each-track P first zero (d ∷ passes) did each at =
    let same : d ≡ did = cc in
    let here : first ≡ first + 0 = omega arith in
    subst (λ n. P (track_at n did)) here (subst (λ x. P (track_at first x)) same each.0)
each-track P first (suc away) (d ∷ passes) did each at =
    let next : (first + 1) + away ≡ first + suc away = omega arith in
    subst (λ n. P (track_at n did)) next (each-track P (first + 1) away passes did each.1 at)

module _ (g : Track → ℕ) where
  -- what the track with this number tells
  abbrev pub told_by : ℕ → Track → ℕ
  told_by number track = when (track.number == number) (g track)

  total-before : (number first : ℕ) (passes : List Did) → number < first
      → total (told_by number) (tracks_from first passes) ≡ 0
  total-before number first [] less = refl
  total-before number first (did ∷ passes) less =
      let here : told_by number (track_at first did) ≡ 0 =
      ap (λ b. when b (g (track_at first did)))
      (ne_eqb first number (λ same. absurd (omega (arith, same)))) in
      let rest = total-before number (first + 1) passes (omega arith) in
      omega arith

  total-past : (number first : ℕ) (passes : List Did) → first + length passes ≤ number
      → total (told_by number) (tracks_from first passes) ≡ 0
  total-past number first [] past = refl
  total-past number first (did ∷ passes) past =
      let here : told_by number (track_at first did) ≡ 0 =
      ap (λ b. when b (g (track_at first did)))
      (ne_eqb first number (λ same. absurd (omega (arith, same)))) in
      let rest = total-past number (first + 1) passes (omega arith) in
      omega arith

  total-at : (first away : ℕ) (passes : List Did) (did : Did) → slice_get passes away ≡ Some did
      → total (told_by (first + away)) (tracks_from first passes)
      ≡ g (track_at (first + away) did)
  total-at first away [] did at = absurd (cc)
  total-at first zero (d ∷ passes) did at =
      let same : d ≡ did = cc in
      let zero_more : first + 0 ≡ first = omega arith in
      let here : told_by first (track_at first d) ≡ g (track_at first did) =
      ap (λ b. when b (g (track_at first d))) (eq-eqb first first refl)
      ∙ ap (λ x. g (track_at first x)) same in
      let rest = total-before first (first + 1) passes (omega arith) in
      let all : total (told_by first) (tracks_from first (d ∷ passes))
      ≡ g (track_at first did) = omega arith in
      subst (λ n. total (told_by n) (tracks_from first (d ∷ passes)) ≡ g (track_at n did))
      (sym zero_more) all
  total-at first (suc away) (d ∷ passes) did at =
      let next : (first + 1) + away ≡ first + suc away = omega arith in
      let here : told_by (first + suc away) (track_at first d) ≡ 0 =
      ap (λ b. when b (g (track_at first d)))
      (ne_eqb first (first + suc away) (λ same. absurd (omega (arith, same)))) in
      let rest : total (told_by (first + suc away)) (tracks_from (first + 1) passes)
      ≡ g (track_at (first + suc away) did) =
      subst (λ n. total (told_by n) (tracks_from (first + 1) passes) ≡ g (track_at n did)) next
      (total-at (first + 1) away passes did at) in
      omega arith

  -- over a record's view a session tells what it did, and a number with no session tells nothing
  pub over-session : (levels session : ℕ) (passes : List Did) (did : Did)
      → slice_get passes session ≡ Some did
      → over (told_by session) (view_of levels passes ∷ []) ≡ g (track_at session did)
  over-session levels session passes did at =
      let same : 0 + session ≡ session = omega arith in
      let all : total (told_by session) (tracks_from 0 passes) ≡ g (track_at session did) =
      subst (λ n. total (told_by n) (tracks_from 0 passes) ≡ g (track_at n did)) same
      (total-at 0 session passes did at) in
      omega arith

  pub over-no_session : (levels session : ℕ) (passes : List Did) → length passes ≤ session
      → over (told_by session) (view_of levels passes ∷ []) ≡ 0
  over-no_session levels session passes past =
      let all = total-past session 0 passes (omega arith) in omega arith
