-- The first screen of a name is taken out of a set.
use Rattle.std.proofs.Common.{◌≡◌, ◌≢◌, ℕ, ◌<◌, ◌≤◌, List, [], ◌∷◌, All, length, map, ap, arith, slice_index_or, suc, zero, refl, remove, sym, ◌∙◌, Bool, true, false}
use Rattle.std.specs.Cmp.Lexicographic.{bytes_decides}
use Rattle.screen_kit.specs.Screens.{ScreenValue}
use Rattle.screen_kit.specs.Sets.{HasName, LosesFirst, is_named, without_first}

-- none of the first i screens has the name
abbrev pub NoneBefore : List ℕ → ℕ → List ScreenValue → Type 0
NoneBefore name zero screens = Unit {0}
NoneBefore name (suc i) [] = Unit {0}
NoneBefore name (suc i) (screen ∷ screens) = (screen.name ≢ name) × NoneBefore name i screens

-- nor has the next
pub none_before_next : {B : Type 0} (f : B → ScreenValue) (name : List ℕ) (xs : List B)
    (i : ℕ) (d : B)
    → i < length xs → d ≡ slice_index_or xs i d → (f d).name ≢ name
    → NoneBefore name i (map f xs) → NoneBefore name (suc i) (map f xs)
none_before_next f name [] i d in_range is other before = absurd (omega arith)
none_before_next f name (x ∷ xs) zero d in_range is other before =
    ((λ named. other (ap (λ b. (f b).name) is ∙ named)), tt)
none_before_next f name (x ∷ xs) (suc i) d in_range is other before =
    (before.0, none_before_next f name xs i d (omega arith) is other before.1)

-- where none of all has the name, no screen has it
pub none_has_name : {B : Type 0} (f : B → ScreenValue) (name : List ℕ) (xs : List B)
    (i : ℕ) → length xs ≤ i
    → NoneBefore name i (map f xs) → ¬ HasName name (map f xs)
none_has_name f name [] i all before (k, screen, in_range, is, named) = absurd (omega arith)
none_has_name f name (x ∷ xs) zero all before found = absurd (omega arith)
none_has_name f name (x ∷ xs) (suc i) all before (zero, screen, in_range, is, named) =
    before.0 (ap (λ s. s.name) is ∙ named)
none_has_name f name (x ∷ xs) (suc i) all before (suc k, screen, in_range, is, named) =
    none_has_name f name xs i (omega arith) before.1 (k, screen, omega arith, is, named)

-- where the screen at i has it and none before, it is the first
pub loses_first : {B : Type 0} (f : B → ScreenValue) (name : List ℕ) (xs : List B) (i : ℕ) (d : B)
    → i < length xs → d ≡ slice_index_or xs i d → (f d).name ≡ name
    → NoneBefore name i (map f xs) → LosesFirst name (map f xs) (map f (remove xs i))
loses_first f name [] i d in_range is named before = absurd (omega arith)
loses_first f name (x ∷ xs) zero d in_range is named before = record {
  before = [];
  screen = f x;
  later = map f xs;
  stood = refl;
  left = refl;
  named = ap (λ b. (f b).name) (sym is) ∙ named;
  first = λ k e short. absurd (omega arith);
}
loses_first f name (x ∷ xs) (suc i) d in_range is named before =
    let rest : LosesFirst name (map f xs) (map f (remove xs i)) =
    loses_first f name xs i d (omega arith) is named before.1 in
    record {
      before = f x ∷ rest.before;
      screen = rest.screen;
      later = rest.later;
      stood = ap (λ s. f x ∷ s) rest.stood;
      left = ap (λ s. f x ∷ s) rest.left;
      named = rest.named;
      first = all_cons (f x) rest.before before.0 rest.first;
    }
  where
    all_cons : (screen : ScreenValue) (screens : List ScreenValue) → screen.name ≢ name
        → All (λ other. other.name ≢ name) screens
        → All (λ other. other.name ≢ name) (screen ∷ screens)
    all_cons screen screens other others zero e short = other
    all_cons screen screens other others (suc k) e short = others k e (omega arith)

-- the test of a name
named_passes : (name : List ℕ) (screen : ScreenValue)
    → screen.name ≡ name → is_named name screen ≡ true
named_passes name screen named = (bytes_decides screen.name name).1 named

other_fails : (name : List ℕ) (screen : ScreenValue)
    → screen.name ≢ name → is_named name screen ≡ false
other_fails name screen other =
    by (is_named name screen) (λ held. other ((bytes_decides screen.name name).0 held))
  where
    by : (b : Bool) → (b ≢ true) → b ≡ false
    by true never = absurd (never refl)
    by false never = refl

-- where the screen at i has the name and none before, the set without it is without the first
pub without_first-at : {B : Type 0} (f : B → ScreenValue) (name : List ℕ) (xs : List B)
    (i : ℕ) (d : B)
    → i < length xs → d ≡ slice_index_or xs i d → (f d).name ≡ name
    → NoneBefore name i (map f xs) → map f (remove xs i) ≡ without_first name (map f xs)
without_first-at f name [] i d in_range is named before = absurd (omega arith)
without_first-at f name (x ∷ xs) zero d in_range is named before =
    rw (named_passes name (f x) (ap (λ b. (f b).name) (sym is) ∙ named)) refl
without_first-at f name (x ∷ xs) (suc i) d in_range is named before =
    rw (other_fails name (f x) before.0)
    (ap (λ s. f x ∷ s) (without_first-at f name xs i d (omega arith) is named before.1))

-- and where none of all has it, that is the set
pub without_first-none : {B : Type 0} (f : B → ScreenValue) (name : List ℕ) (xs : List B)
    (i : ℕ) → length xs ≤ i
    → NoneBefore name i (map f xs) → map f xs ≡ without_first name (map f xs)
without_first-none f name [] i all before = refl
without_first-none f name (x ∷ xs) zero all before = absurd (omega arith)
without_first-none f name (x ∷ xs) (suc i) all before =
    rw (other_fails name (f x) before.0)
    (ap (λ s. f x ∷ s) (without_first-none f name xs i (omega arith) before.1))
