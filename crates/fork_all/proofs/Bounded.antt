-- What a call of a closure asks besides its own clause, where the function around it has type
-- parameters.
use Rattle.std.proofs.Common.{List, [], ◌∷◌}
use Rattle.std.specs.List.{AllByRecursion}
use mathlib.Core.Bool.{Bool}
use denote.Exit.{if_kept, unseen}
use denote.Param.Send.{Quiet, Quiet-if}

-- what holds of all, beside what holds anyhow
pub all_with : {A : Type 0} (P : A → Type 0) (C : Type 0) (xs : List A) → AllByRecursion P xs → C
    → AllByRecursion (λ x. P x × C) xs
all_with P C [] all also = tt
all_with P C (x ∷ xs) all also = ((all.0, also), all_with P C xs all.1 also)

-- of a value of which nothing is told at an end nothing is left
pub nothing_left : {D : Type 0} (b : Bool) → Quiet (if_kept {D = D} b unseen unseen)
nothing_left {D} b = Quiet-if b (unseen {D = D}) (unseen {D = D}) (λ x w. tt) (λ x w. tt)
