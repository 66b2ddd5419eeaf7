-- Where the fields of the table stand in a message: a slot for each row.
use Rattle.std.specs.Prelude.{◌≡◌, ℕ, ◌<◌, List, [], ◌∷◌, length, slice_index_or, None}
use Rattle.std.specs.Prelude.{Bool, true, false, ◌&&◌}
use Rattle.fix_fields.specs.Fields.{FieldValue}
use Rattle.fix_orders.specs.declared.kind.Kind.{Kind}
use Rattle.fix_orders.specs.declared.slots.Slot.{Slot}
use Rattle.fix_orders.specs.declared.slots.Slot.TheVariants.{Absent, Once, Often}
use Rattle.fix_orders.specs.declared.slots.Slots.{Slots}
use Rattle.fix_orders.specs.declared.table.Need.{Need}
use Rattle.fix_orders.specs.declared.table.Need.TheVariants.{Unread, Optional, Required}
use Rattle.fix_orders.specs.declared.table.Need.TheVariants.{WithLimit, WithTrade}
use Rattle.fix_orders.specs.declared.table.ReadAs.{ReadAs}
use Rattle.fix_orders.specs.declared.table.ReadAs.TheVariants.{Sequence, Identifier, AnyText}
use Rattle.fix_orders.specs.declared.table.ReadAs.TheVariants.{SideCode, Quantity, OrdType, Price}
use Rattle.fix_orders.specs.Faults.{values_of, first_fault}
use Rattle.fix_orders.specs.Table.{table, row_at, need_in}

-- the slot says how often a tag with these values stands, and which value is the first
abbrev pub SlotHas : Slot → List (List ℕ) → Type 0
SlotHas Absent values = values ≡ []
SlotHas (Once text) values = values ≡ text.now ∷ []
SlotHas (Often text) values =
    (other : List ℕ) × (more : List (List ℕ)) × (values ≡ text.now ∷ other ∷ more)

-- each slot says so of its row's tag
pub record SlotsHave (slots : Slots) (fields : List FieldValue) : Type 0 where
  pub size : length slots.places ≡ 16
  pub each : (place : ℕ) → place < 16
      → SlotHas (slice_index_or slots.places place Absent) (values_of (row_at place).tag fields)

-- the slots are those of a message of this kind that has no fault
pub record IsChecked (kind : Kind) (slots : Slots) : Type 0 where
  pub fields : List FieldValue
  pub has : SlotsHave slots fields
  pub none : first_fault kind fields table ≡ None

-- a value is read as an id
abbrev pub is_identifier : ReadAs → Bool
is_identifier Identifier = true
is_identifier Sequence = false
is_identifier AnyText = false
is_identifier SideCode = false
is_identifier Quantity = false
is_identifier OrdType = false
is_identifier Price = false

-- a field has to be there in each message of a kind
abbrev pub is_always : Need → Bool
is_always Required = true
is_always Unread = false
is_always Optional = false
is_always WithLimit = false
is_always WithTrade = false

-- a field may be there in each message of a kind
abbrev pub is_optional : Need → Bool
is_optional Optional = true
is_optional Required = false
is_optional Unread = false
is_optional WithLimit = false
is_optional WithTrade = false

-- the place is that of an id which each message of the kind has
abbrev pub is_id_place : Kind → ℕ → Bool
is_id_place kind place =
    is_identifier (row_at place).read_as && is_always (need_in kind (row_at place))

-- the place is that of an id which a message of the kind may have
abbrev pub is_optional_place : Kind → ℕ → Bool
is_optional_place kind place =
    is_identifier (row_at place).read_as && is_optional (need_in kind (row_at place))
