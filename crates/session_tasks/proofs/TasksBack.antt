-- What comes back from tasks: the passes, their calls, and what each session did.
use Rattle.std.proofs.Common.{◌≡◌, ℕ, zero, suc, ◌<◌, List, [], ◌∷◌, length, map}
use Rattle.std.proofs.Common.{refl, sym, ap, ◌∙◌, subst, arith}
use Rattle.std.proofs.lemmas.List.{length-map}
use Rattle.std.specs.Prelude.{slice_index_or, slice_get, Some}
use Rattle.std.specs.List.{AllZip, AllByRecursion}
use Rattle.risk_board.specs.declared.hand.Call.{Call}
use Rattle.risk_journal.specs.declared.acts.Act.{Act}
use Rattle.risk_journal.specs.declared.acts.End.{End}
use Rattle.node_rule.specs.Standing.{Forested}
use Rattle.f_array.specs.Passes.{PassValue, IsSamePass, new_passes}
use Rattle.f_array.specs.Records.{AreAllOf}
use Rattle.f_array.proofs.NewPasses.{new_passes_are_all, same_passes_are_all}
use Rattle.gate_files.specs.Objects.{ObjectsValue}
use Rattle.session_tasks.specs.Rules.{InputRule, EarlyRule}
use Rattle.session_tasks.specs.Did.{HasDone, HaveDone}
use Rattle.gate_files.proofs.Lists.{map_at, mapped_at}

pub zip_long : {A B : Type 0} (R : A → B → Type 0) (xs : List A) (ys : List B) → AllZip R xs ys
    → length ys ≡ length xs
zip_long R [] [] all = refl
zip_long R [] (y ∷ ys) all = absurd all
zip_long R (x ∷ xs) [] all = absurd all
zip_long R (x ∷ xs) (y ∷ ys) all = ap suc (zip_long R xs ys all.1)

zip_at : {A B : Type 0} (R : A → B → Type 0) (before : A → PassValue) (after : B → PassValue)
    → ((x : A) (y : B) → R x y → IsSamePass (before x) (after y))
    → (xs : List A) (ys : List B) → AllZip R xs ys → (k : ℕ) (other : PassValue)
    → k < length (map before xs)
    → IsSamePass (slice_index_or (map before xs) k other) (slice_index_or (map after ys) k other)
zip_at R before after same [] [] all k other below = absurd (omega arith)
zip_at R before after same [] (y ∷ ys) all k other below = absurd all
zip_at R before after same (x ∷ xs) [] all k other below = absurd all
zip_at R before after same (x ∷ xs) (y ∷ ys) all zero other below = same x y all.0
zip_at R before after same (x ∷ xs) (y ∷ ys) all (suc k) other below =
    zip_at R before after same xs ys all.1 k other (omega arith)

-- the passes that came back are all those of the forest
pub all_back : {A B : Type 0} (R : A → B → Type 0) (before : A → PassValue) (after : B → PassValue)
    → ((x : A) (y : B) → R x y → IsSamePass (before x) (after y))
    → (xs : List A) (ys : List B) → AllZip R xs ys → (forest : Forested) (n : ℕ)
    → map before xs ≡ new_passes forest n → forest.plan.sessions ≡ n
    → AreAllOf forest (map after ys)
all_back R before after same xs ys all forest n are planned =
    same_passes_are_all forest (map before xs) (map after ys)
    (length-map ys after ∙ zip_long R xs ys all ∙ sym (length-map xs before))
    (λ k other below. zip_at R before after same xs ys all k other below)
    (new_passes_are_all forest (map before xs) n are planned)

-- the calls of the passes are those of the acts
pub calls_back : {A B : Type 0} (R : A → B → Type 0) (after : B → PassValue) (acts : B → List Act)
    (pick : List Act → List Call)
    → ((x : A) (y : B) → R x y → (after y).track.calls ≡ pick (acts y))
    → (xs : List A) (ys : List B) → AllZip R xs ys
    → map (λ pass. pass.track.calls) (map after ys) ≡ map pick (map acts ys)
calls_back R after acts pick same [] [] all = refl
calls_back R after acts pick same [] (y ∷ ys) all = absurd all
calls_back R after acts pick same (x ∷ xs) [] all = absurd all
calls_back R after acts pick same (x ∷ xs) (y ∷ ys) all =
    ap (λ own. own ∷ map (λ pass. pass.track.calls) (map after ys)) (same x y all.0)
    ∙ ap (λ more. pick (acts y) ∷ more) (calls_back R after acts pick same xs ys all.1)

-- what holds of each pair holds of what is taken of the second
pub each_back : {A B C : Type 0} (R : A → B → Type 0) (P : C → Type 0) (f : B → C)
    → ((x : A) (y : B) → R x y → P (f y)) → (xs : List A) (ys : List B) → AllZip R xs ys
    → AllByRecursion P (map f ys)
each_back R P f holds [] [] all = tt
each_back R P f holds [] (y ∷ ys) all = absurd all
each_back R P f holds (x ∷ xs) [] all = absurd all
each_back R P f holds (x ∷ xs) (y ∷ ys) all =
    (holds x y all.0, each_back R P f holds xs ys all.1)

pair_at : {A B : Type 0} (R : A → B → Type 0) (xs : List A) (ys : List B) (place : ℕ) (x : A)
    (y : B) → AllZip R xs ys → slice_get xs place ≡ Some x → slice_get ys place ≡ Some y → R x y
pair_at R [] ys place x y all is is_y = absurd cc
pair_at R (first ∷ xs) [] place x y all is is_y = absurd all
pair_at {A} {B} R (first ∷ xs) (other ∷ ys) zero x y all is is_y =
    let same : first ≡ x = cc in
    let same_y : other ≡ y = cc in
    subst (λ (a : A). R a y) same (subst (λ (b : B). R first b) same_y all.0)
pair_at R (first ∷ xs) (other ∷ ys) (suc place) x y all is is_y =
    pair_at R xs ys place x y all.1 is is_y

at_one_place : {X : Type 0} (xs : List X) (place : ℕ) (x y : X) → slice_get xs place ≡ Some x
    → slice_get xs place ≡ Some y → x ≡ y
at_one_place xs place x y is other = cc

-- what stands at a place of what is taken of a list is taken of what stands there
taken_at : {X Y : Type 0} (f : X → Y) (xs : List X) (ys : List Y) (place : ℕ) (x : X) (y : Y)
    → ys ≡ map f xs → slice_get xs place ≡ Some x → slice_get ys place ≡ Some y → f x ≡ y
taken_at {X} {Y} f xs ys place x y are is is_y =
    at_one_place ys place (f x) y
    (ap (λ (all : List Y). slice_get all place) are ∙ map_at f xs place x is) is_y

-- What sessions did as tasks, each held to the rules of its number, is what they did.
pub have_done : {A B : Type 0} (R : A → B → Type 0) (Input : ℕ → InputRule) (Early : ℕ → EarlyRule)
    (before : A → ObjectsValue) (after : B → ObjectsValue)
    (acts : B → List Act) (end : B → End)
    (xs : List A) (ys : List B)
    → ((session : ℕ) (x : A) (y : B) → slice_get xs session ≡ Some x → R x y
    → HasDone (Input session) (Early session) (before x) (after y) (acts y) (end y))
    → AllZip R xs ys → (afters : List ObjectsValue)
    (all : List (List Act)) (ends : List End) → afters ≡ map after ys → all ≡ map acts ys
    → ends ≡ map end ys
    → HaveDone Input Early (map before xs) afters all ends
have_done R Input Early before after acts end xs ys holds zipped afters all ends are_after are_acts
    are_ends = record {
      act_count = counted acts all are_acts;
      end_count = counted end ends are_ends;
      object_count = counted after afters are_after;
      each = λ session own now did one is_own is_now is_did is_end.
          let x = mapped_at before xs session own is_own in
          let y = mapped_at after ys session now
          (ap (λ l. slice_get l session) (sym are_after) ∙ is_now) in
          let done = holds session x.0 y.0 x.1 (pair_at R xs ys session x.0 y.0 zipped x.1 y.1) in
          subst (λ o. HasDone (Input session) (Early session) o now did one) x.2
          (subst (λ n. HasDone (Input session) (Early session) (before x.0) n did one) y.2
          (subst (λ a. HasDone (Input session) (Early session) (before x.0) (after y.0) a one)
          (taken_at acts ys all session y.0 did are_acts y.1 is_did)
          (subst (λ e. HasDone (Input session) (Early session) (before x.0) (after y.0)
          (acts y.0) e)
          (taken_at end ys ends session y.0 one are_ends y.1 is_end) done)));
    } where
      counted : {C : Type 0} (f : _ → C) (taken : List C) → taken ≡ map f ys
          → length taken ≡ length (map before xs)
      counted f taken are =
          ap length are ∙ length-map ys f ∙ zip_long R xs ys zipped ∙ sym (length-map xs before)

-- what was done with these objects was done with those that they are
pub done_before : (Input : ℕ → InputRule) (Early : ℕ → EarlyRule)
    (before others after : List ObjectsValue) (acts : List (List Act)) (ends : List End)
    → others ≡ before → HaveDone Input Early others after acts ends
    → HaveDone Input Early before after acts ends
done_before Input Early before others after acts ends same done =
    subst (λ (all : List ObjectsValue). HaveDone Input Early all after acts ends) same done

-- what is taken of what is taken of each
pub mapped_twice : {X Y Z : Type 0} (f : Y → Z) (g : X → Y) (xs : List X)
    → map f (map g xs) ≡ map (λ x. f (g x)) xs
mapped_twice f g [] = refl
mapped_twice {X} {Y} {Z} f g (x ∷ xs) = ap (λ (l : List Z). f (g x) ∷ l) (mapped_twice f g xs)
