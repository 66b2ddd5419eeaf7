-- Places of items: that wait, and that were filled.
use Rattle.fork_all.specs.declared.slots.Slot.{Slot}
use Rattle.fork_all.specs.declared.slots.Slot.TheVariants.{Waiting, Taken, Done}

-- an item waits here of which this holds
abbrev pub Waits : {T D : Type 0} → (T → Type 0) → Slot T D → Type 0
Waits Holds (Waiting item) = Holds item
Waits Holds Taken = ⊥
Waits Holds (Done done) = ⊥

-- what was given stands here
abbrev pub IsDone : {T D : Type 0} → Slot T D → Type 0
IsDone (Waiting item) = ⊥
IsDone Taken = ⊥
IsDone (Done done) = Unit {0}

-- an item waited here, and what was given for it stands here now
abbrev pub IsFilled : {T D : Type 0} → (T → D → Type 0) → Slot T D → Slot T D → Type 0
IsFilled Gives (Waiting item) (Done done) = Gives item done
IsFilled Gives (Waiting item) Taken = ⊥
IsFilled Gives (Waiting item) (Waiting other) = ⊥
IsFilled Gives Taken after = ⊥
IsFilled Gives (Done done) after = ⊥
