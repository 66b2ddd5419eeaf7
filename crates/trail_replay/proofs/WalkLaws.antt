-- The array of the most components, along a walk, and that of fewer.
use Rattle.std.proofs.Common.{◌≡◌, ℕ, zero, suc, ◌+◌, ◌-◌, ◌<◌, ◌≤◌, Bool, List, [], ◌∷◌, ◌++◌}
use Rattle.std.proofs.Common.{length}
use Rattle.std.proofs.Common.{take, drop, set, refl, ap, sym, ◌∙◌, subst, arith, slice_set}
use Rattle.std.specs.Prelude.{replicate, fold}
use Rattle.std.specs.List.{AllByRecursion}
use Rattle.std.proofs.Math.Seq.{take-add}
use Rattle.std.proofs.Math.ListN.{replicate-append-replicate}
use Rattle.std.proofs.lemmas.List.{set-append_left, length-set, length-replicate}
use Rattle.fold_law.specs.declared.limits.TheConstants.{SESSIONS}
use Rattle.fold_law.specs.Laws.{FoldLaws}
use Rattle.fold_law.specs.Whole.{whole_of}
use Rattle.risk_board.specs.declared.hand.Line.{Line}
use Rattle.risk_board.specs.History.{array_after}
use Rattle.trail_replay.specs.Arrays.{AreLines, after_lines, whole_at, IsWholeAt}
use Rattle.risk_board.proofs.TreeCalls.{length-array_after}
use Rattle.trail_replay.proofs.Folds.{whole_under, fold-append}

-- what holds of each element holds of those of a part
pub all-take : {A : Type 0} (P : A → Type 0) (xs : List A) (n : ℕ) → AllByRecursion P xs
    → AllByRecursion P (take n xs)
all-take P xs zero all = tt
all-take P [] (suc n) all = tt
all-take P (x ∷ xs) (suc n) all = (all.0, all-take P xs n all.1)

pub all-drop : {A : Type 0} (P : A → Type 0) (xs : List A) (n : ℕ) → AllByRecursion P xs
    → AllByRecursion P (drop n xs)
all-drop P xs zero all = all
all-drop P [] (suc n) all = tt
all-drop P (x ∷ xs) (suc n) all = all-drop P xs n all.1

pub all-weaker : {A : Type 0} (P Q : A → Type 0) → ((x : A) → P x → Q x) → (xs : List A)
    → AllByRecursion P xs → AllByRecursion Q xs
all-weaker P Q f [] all = tt
all-weaker P Q f (x ∷ xs) all = (f x all.0, all-weaker P Q f xs all.1)

all-set : (P : ℕ → Type 0) (xs : List ℕ) (i v : ℕ) → P v → AllByRecursion P xs
    → AllByRecursion P (set xs i v)
all-set P [] i v new all = tt
all-set P (x ∷ xs) zero v new all = (new, all.1)
all-set P (x ∷ xs) (suc i) v new all = (all.0, all-set P xs i v new all.1)

all-replicate : (P : ℕ → Type 0) (n v : ℕ) → P v → AllByRecursion P (replicate n v)
all-replicate P zero v h = tt
all-replicate P (suc n) v h = (h, all-replicate P n v h)

all-after : (P : ℕ → Type 0) (array : List ℕ) (lines : List Line) → AllByRecursion P array
    → AllByRecursion (λ l. P l.value) lines → AllByRecursion P (after_lines array lines)
all-after P array [] all values = all
all-after P array (l ∷ lines) all values =
    all-after P (slice_set array l.session l.value) lines
    (all-set P array l.session l.value values.0 all) values.1

-- some lines more
pub after-more : (unit components before upto : ℕ) (lines : List Line) → before ≤ upto
    → after_lines (array_after unit components (take before lines))
    (take (upto - before) (drop before lines))
    ≡ array_after unit components (take upto lines)
after-more unit components before upto lines le =
    let first = take before lines in
    let rest = take (upto - before) (drop before lines) in
    let same : before + (upto - before) ≡ upto = omega arith in
    sym (both (replicate components unit) first rest)
    ∙ ap (array_after unit components)
    (sym (take-add before (upto - before) lines) ∙ ap (λ n. take n lines) same)
  where
    both : (array : List ℕ) (xs ys : List Line)
        → after_lines array (xs ++ ys) ≡ after_lines (after_lines array xs) ys
    both array [] ys = refl
    both array (l ∷ xs) ys = both (slice_set array l.session l.value) xs ys

-- components that no line sets stay
after-first : (xs ys : List ℕ) (lines : List Line)
    → AllByRecursion (λ l. l.session < length xs) lines
    → after_lines (xs ++ ys) lines ≡ after_lines xs lines ++ ys
after-first xs ys [] all = refl
after-first xs ys (l ∷ lines) all =
    let next = slice_set xs l.session l.value in
    let long = length-set xs l.session l.value in
    ap (λ s. after_lines s lines) (set-append_left xs ys l.session l.value all.0)
    ∙ after-first next ys lines
    (subst (λ n. AllByRecursion (λ x. x.session < n) lines) (sym long) all.1)

module _ (unit cap : ℕ) (join : ℕ → ℕ → ℕ) (le : ℕ → ℕ → Bool) (under : ℕ → ℕ → Type 0)
    (laws : FoldLaws unit cap join le under) (lines : List Line) (are : AreLines cap lines) where
  pub all_under : (components place : ℕ)
      → AllByRecursion (under 1) (array_after unit components (take place lines))
  all_under components place =
      all-after (under 1) (replicate components unit) (take place lines)
      (all-replicate (under 1) components unit (laws.unit_under 1))
      (all-take (λ l. under 1 l.value) lines place
      (all-weaker (λ l. (l.session < SESSIONS) × (l.value ≤ cap)) (λ l. under 1 l.value)
      (λ l h. laws.leaf_under l.value h.1) lines are))

  units-stay : (n a m : ℕ) → m ≤ SESSIONS → under m a → fold join a (replicate n unit) ≡ a
  units-stay zero a m few first = refl
  units-stay (suc n) a m few first =
      let same : join a unit ≡ a = laws.unit_right m a few first in
      ap (λ b. fold join b (replicate n unit)) same ∙ units-stay n a m few first

  -- the whole is the same of however many components
  pub whole-fewer : (place : ℕ) → IsWholeAt join unit lines place (whole_at join unit lines place)
  whole-fewer place components few sessions =
      let some = take place lines in
      let more : ℕ = SESSIONS - components in
      let array = array_after unit components some in
      let long = length-array_after unit components some in
      let wide : components + more ≡ SESSIONS = omega arith in
      let parts : replicate SESSIONS unit ≡ replicate components unit ++ replicate more unit =
      ap (λ n. replicate n unit) (sym wide)
      ∙ sym (replicate-append-replicate components more unit) in
      let inside = subst (λ n. AllByRecursion (λ l. l.session < n) some)
      (sym (length-replicate components unit))
      (all-take (λ l. l.session < components) lines place sessions) in
      let all : array_after unit SESSIONS some ≡ array ++ replicate more unit =
      ap (λ s. after_lines s some) parts
      ∙ after-first (replicate components unit) (replicate more unit) some inside in
      let low = whole_under unit cap join le under laws array (omega arith)
      (all_under components place) in
      ap (whole_of join unit) all
      ∙ (fold-append unit cap join le under laws unit array (replicate more unit)
      ∙ units-stay more (whole_of join unit array) (length array) (omega arith) low)
