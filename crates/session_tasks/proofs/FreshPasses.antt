-- The passes of a new forest made no call.
use Rattle.std.proofs.Common.{◌≡◌, ℕ, zero, suc, List, [], ◌∷◌, ◌++◌, map, refl, sym, subst}
use Rattle.std.specs.List.{AllByRecursion}
use Rattle.node_rule.specs.Standing.{Forested}
use Rattle.f_array.specs.Passes.{PassValue, new_pass, new_passes}
use Rattle.session_tasks.specs.Forests.{IsFresh}

all_pushed : {X : Type 0} (P : X → Type 0) (xs : List X) (x : X) → AllByRecursion P xs → P x
    → AllByRecursion P (xs ++ x ∷ [])
all_pushed P [] x all here = (here, tt)
all_pushed P (first ∷ xs) x all here = (all.0, all_pushed P xs x all.1 here)

all_fresh : (forest : Forested) (n : ℕ) → AllByRecursion (IsFresh forest) (new_passes forest n)
all_fresh forest zero = tt
all_fresh forest (suc n) =
    all_pushed (IsFresh forest) (new_passes forest n) (new_pass forest n) (all_fresh forest n)
    (record { of = (refl, refl); idle = refl })

-- what holds of what is taken of each holds of each
of_taken : {X Y : Type 0} (P : Y → Type 0) (f : X → Y) (xs : List X) → AllByRecursion P (map f xs)
    → AllByRecursion (λ x. P (f x)) xs
of_taken P f [] all = tt
of_taken P f (x ∷ xs) all = (all.0, of_taken P f xs all.1)

-- tasks over the passes of a new forest have fresh ones
pub each_fresh : {A : Type 0} (forest : Forested) (pass : A → PassValue) (tasks : List A) (n : ℕ)
    → map pass tasks ≡ new_passes forest n → AllByRecursion (λ t. IsFresh forest (pass t)) tasks
each_fresh forest pass tasks n are =
    of_taken (IsFresh forest) pass tasks
    (subst (AllByRecursion (IsFresh forest)) (sym are) (all_fresh forest n))
