-- Lists that go place by place.
use Rattle.std.proofs.Common.{◌≡◌, ℕ, suc, ◌<◌, List, [], ◌∷◌, length, map, get_or}
use Rattle.std.proofs.Common.{arith, sym, subst}
use Rattle.std.specs.List.{AllZip, AllByRecursion}
use Rattle.fork_all.specs.Slots.{IsDone, IsFilled, Waits}
use Rattle.fork_all.specs.declared.slots.Slot.{Slot}
use Rattle.fork_all.specs.declared.slots.Slot.TheVariants.{Waiting, Taken, Done}

-- what holds at each index holds place by place
pub zip_of : {X : Type 0} (R : X → X → Type 0) (xs ys : List X) → length ys ≡ length xs
    → ((i : ℕ) (d : X) → i < length xs → R (get_or xs i d) (get_or ys i d)) → AllZip R xs ys
zip_of R [] [] same each = tt
zip_of R [] (y ∷ ys) same each = absurd (omega (arith, same))
zip_of R (x ∷ xs) [] same each = absurd (omega (arith, same))
zip_of R (x ∷ xs) (y ∷ ys) same each =
    (each 0 x (omega arith), zip_of R xs ys (omega (arith, same)) (λ i d below. each (suc i) d (omega (arith, below))))

-- items of which this holds wait with it
pub all_wait : {T : Type 0} (D : Type 0) (P : T → Type 0) (items : List T)
    → AllByRecursion P items → AllByRecursion (Waits {D = D} P) (map Waiting items)
all_wait D P [] all = tt
all_wait D P (item ∷ items) all = (all.0, all_wait D P items all.1)

-- places that were filled are done
pub all_done : {T D : Type 0} (R : T → D → Type 0) (before after : List (Slot T D))
    → AllZip (IsFilled R) before after → AllByRecursion IsDone after
all_done R [] [] all = tt
all_done R [] (new ∷ after) all = absurd all
all_done R (old ∷ before) [] all = absurd all
all_done R (old ∷ before) (Done done ∷ after) all = (tt, all_done R before after all.1)
all_done R (Waiting item ∷ before) (Taken ∷ after) all = absurd all.0
all_done R (Waiting item ∷ before) (Waiting other ∷ after) all = absurd all.0
all_done R (Taken ∷ before) (Taken ∷ after) all = absurd all.0
all_done R (Taken ∷ before) (Waiting other ∷ after) all = absurd all.0
all_done R (Done own ∷ before) (Taken ∷ after) all = absurd all.0
all_done R (Done own ∷ before) (Waiting other ∷ after) all = absurd all.0

given : {T D : Type 0} (R : T → D → Type 0) (items : List T) (all : List D)
    → AllZip (IsFilled R) (map Waiting items) (map Done all) → AllZip R items all
given R [] [] zipped = tt
given R [] (done ∷ all) zipped = absurd zipped
given R (item ∷ items) [] zipped = absurd zipped
given R (item ∷ items) (done ∷ all) zipped = (zipped.0, given R items all zipped.1)

-- what fills the places of items was given for them
pub all_given : {T D : Type 0} (R : T → D → Type 0) (items : List T) (all : List D)
    (before after : List (Slot T D)) → before ≡ map Waiting items → map Done all ≡ after
    → AllZip (IsFilled R) before after → AllZip R items all
all_given R items all before after waited done filled =
    given R items all
    (subst (λ (own : List (Slot _ _)). AllZip (IsFilled R) own (map Done all)) waited
    (subst (AllZip (IsFilled R) before) (sym done) filled))
