-- What an act may have by itself that no act of a lawful journal has.
use Rattle.std.specs.Prelude.{◌≡◌, ℕ, ◌≤◌, ◌<◌, List, Some, slice_get}
use Rattle.risk_journal.specs.JournalText.{end_number}
use Rattle.risk_journal.specs.declared.acts.Act.{Act}
use Rattle.risk_journal.specs.declared.acts.Act.TheVariants.{Post, Read, Sent, Refused, Noted, Ended}
use Rattle.journal_check.specs.declared.act_rows.ActFault.{ActFault}
use Rattle.journal_check.specs.declared.act_rows.ActFault.TheVariants.{Early, Above}

-- the act says that a session ended by a fault: by a read, by a write or for want of memory
abbrev pub EndsEarly : Act → Type 0
EndsEarly (Post tree index value) = ⊥
EndsEarly (Read tree stamp place value) = ⊥
EndsEarly (Sent frame) = ⊥
EndsEarly (Refused frame code first second) = ⊥
EndsEarly (Noted frame code first second) = ⊥
EndsEarly (Ended end) = 4 ≤ end_number end

-- the act is of a tree above this one
abbrev pub IsAbove : ℕ → Act → Type 0
IsAbove last (Post tree index value) = last < tree
IsAbove last (Read tree stamp place value) = last < tree
IsAbove last (Sent frame) = ⊥
IsAbove last (Refused frame code first second) = ⊥
IsAbove last (Noted frame code first second) = ⊥
IsAbove last (Ended end) = ⊥

-- the act has the fault
abbrev pub Has : ActFault → Act → Type 0
Has Early act = EndsEarly act
Has (Above last) act = IsAbove last act

-- the item at this index, from 0, is the first of a list that is so
pub record IsFirstHas {X : Type 0} (Is : X → Type 0) (items : List X) (index : ℕ) : Type 0 where
  pub item : X
  pub at : slice_get items index ≡ Some item
  pub is : Is item
  pub before : (earlier : ℕ) (other : X) → earlier < index → slice_get items earlier ≡ Some other
      → ¬ Is other

-- no item of a list is so
abbrev pub NoneHas : {X : Type 0} → (X → Type 0) → List X → Type 0
NoneHas {X} Is items = (index : ℕ) (item : X) → slice_get items index ≡ Some item → ¬ Is item
