-- In a message without a fault each row is read.
use Rattle.std.proofs.Common.{◌≡◌, ℕ, ◌<◌, ◌==◌, List, [], ◌∷◌, length, refl, subst}
use Rattle.std.proofs.Common.{zero, suc, Bool, true, false, ◌&&◌, arith, get_or}
use Rattle.std.specs.Prelude.{Option, Some, None, if◌then◌else◌}
use Rattle.std.proofs.lemmas.Bool.{false≢true}
use Rattle.fix_fields.specs.Fields.{FieldValue}
use Rattle.fix_orders.specs.declared.kind.Kind.{Kind}
use Rattle.fix_orders.specs.declared.message.FieldFault.{FieldFault}
use Rattle.fix_orders.specs.declared.reason.Reason.{Reason}
use Rattle.fix_orders.specs.declared.reason.Reason.TheVariants.{Empty}
use Rattle.fix_orders.specs.declared.slots.Slots.{Slots}
use Rattle.fix_orders.specs.declared.table.Need.{Need}
use Rattle.fix_orders.specs.declared.table.Need.TheVariants.{Unread, Optional, Required}
use Rattle.fix_orders.specs.declared.table.Need.TheVariants.{WithLimit, WithTrade}
use Rattle.fix_orders.specs.declared.table.ReadAs.{ReadAs}
use Rattle.fix_orders.specs.declared.table.ReadAs.TheVariants.{Sequence, Identifier, AnyText}
use Rattle.fix_orders.specs.declared.table.ReadAs.TheVariants.{SideCode, Quantity, OrdType, Price}
use Rattle.fix_orders.specs.declared.table.Row.{Row}
use Rattle.fix_orders.specs.Faults.{text_reason, values_reason, values_of, value_of, first_value}
use Rattle.fix_orders.specs.Faults.{is_read, is_required, row_reason, first_fault, fault_or}
use Rattle.fix_orders.specs.Slotted.{IsChecked, is_identifier, is_always, is_optional}
use Rattle.fix_orders.specs.Slotted.{is_id_place, is_optional_place}
use Rattle.fix_orders.specs.Table.{table, row_at, need_in}

both : (a b : Bool) → (a && b) ≡ true → (a ≡ true) × (b ≡ true)
both true b e = (refl, e)
both false b e = absurd (false≢true e)

first_is_none : (reason : Option Reason) (tag : ℕ) (later : Option FieldFault)
    → fault_or reason tag later ≡ None → (reason ≡ None) × (later ≡ None)
first_is_none None tag later e = (refl, e)
first_is_none (Some reason) tag later e = absurd (differ e)
  where
    differ : {fault : FieldFault} → Some fault ≡ None → ⊥
    differ e = cc

pub each_none : (kind : Kind) (fields : List FieldValue) (rows : List Row) (i : ℕ) (d : Row)
    → first_fault kind fields rows ≡ None → i < length rows
    → row_reason kind fields (get_or rows i d) ≡ None
each_none kind fields [] i d none h = absurd (omega arith)
each_none kind fields (r ∷ rows) zero d none h =
    (first_is_none (row_reason kind fields r) r.tag (first_fault kind fields rows) none).0
each_none kind fields (r ∷ rows) (suc i) d none h =
    each_none kind fields rows i d
    (first_is_none (row_reason kind fields r) r.tag (first_fault kind fields rows) none).1
    (omega arith)

-- no row of a message without a fault has a reason
pub checked_row : (kind : Kind) (slots : Slots) (place : ℕ) → (checked : IsChecked kind slots)
    → place < 16 → row_reason kind checked.fields (row_at place) ≡ None
checked_row kind slots place checked below =
    each_none kind checked.fields table place (row_at 16) checked.none below

read_as_id : (r : ReadAs) → is_identifier r ≡ true → r ≡ Identifier
read_as_id Identifier e = refl
read_as_id Sequence e = absurd (false≢true e)
read_as_id AnyText e = absurd (false≢true e)
read_as_id SideCode e = absurd (false≢true e)
read_as_id Quantity e = absurd (false≢true e)
read_as_id OrdType e = absurd (false≢true e)
read_as_id Price e = absurd (false≢true e)

always_needed : (n : Need) → is_always n ≡ true → n ≡ Required
always_needed Required e = refl
always_needed Unread e = absurd (false≢true e)
always_needed Optional e = absurd (false≢true e)
always_needed WithLimit e = absurd (false≢true e)
always_needed WithTrade e = absurd (false≢true e)

maybe_needed : (n : Need) → is_optional n ≡ true → n ≡ Optional
maybe_needed Optional e = refl
maybe_needed Unread e = absurd (false≢true e)
maybe_needed Required e = absurd (false≢true e)
maybe_needed WithLimit e = absurd (false≢true e)
maybe_needed WithTrade e = absurd (false≢true e)

-- the reason of an id by its values
reason_is : (kind : Kind) (fields : List FieldValue) (r : Row) (n : Need)
    → row_reason kind fields r ≡ None → r.read_as ≡ Identifier → need_in kind r ≡ n
    → (if is_read fields n then values_reason (is_required n) Identifier (values_of r.tag fields)
    else None) ≡ None
reason_is kind fields r n none id need =
    let P : ReadAs → Type 0 = λ a. (if is_read fields (need_in kind r)
    then values_reason (is_required (need_in kind r)) a (values_of r.tag fields) else None)
    ≡ None in
    let Q : Need → Type 0 = λ m. (if is_read fields m
    then values_reason (is_required m) Identifier (values_of r.tag fields) else None) ≡ None in
    subst Q need (subst P id none)

by_length : (empty : Bool) (reason : Option Reason) → (if empty then Some Empty else reason) ≡ None
    → reason ≡ None
by_length true reason e = cc
by_length false reason e = e

-- the one value of a field that has to be there is read
pub one_text : (r : ReadAs) (values : List (List ℕ)) → values_reason true r values ≡ None
    → text_reason r (first_value values) ≡ None
one_text r [] e = cc
one_text r (v ∷ []) e = by_length (length v == 0) (text_reason r v) e
one_text r (v ∷ w ∷ more) e = cc

-- the text of an id that each message of the kind has
pub id_text : (kind : Kind) (slots : Slots) (place : ℕ) → (checked : IsChecked kind slots)
    → place < 16 → is_id_place kind place ≡ true
    → text_reason Identifier (value_of (row_at place).tag checked.fields) ≡ None
id_text kind slots place checked below id =
    let parts = both (is_identifier (row_at place).read_as)
    (is_always (need_in kind (row_at place))) id in
    one_text Identifier (values_of (row_at place).tag checked.fields)
    (reason_is kind checked.fields (row_at place) Required
    (checked_row kind slots place checked below)
    (read_as_id (row_at place).read_as parts.0)
    (always_needed (need_in kind (row_at place)) parts.1))

-- the reason of an id that a message of the kind may have
pub optional_reason : (kind : Kind) (slots : Slots) (place : ℕ) → (checked : IsChecked kind slots)
    → place < 16 → is_optional_place kind place ≡ true
    → values_reason false Identifier (values_of (row_at place).tag checked.fields) ≡ None
optional_reason kind slots place checked below id =
    let parts = both (is_identifier (row_at place).read_as)
    (is_optional (need_in kind (row_at place))) id in
    reason_is kind checked.fields (row_at place) Optional
    (checked_row kind slots place checked below)
    (read_as_id (row_at place).read_as parts.0)
    (maybe_needed (need_in kind (row_at place)) parts.1)

-- one value is an id
pub once_text : (values : List (List ℕ)) (text : List ℕ)
    → values_reason false Identifier values ≡ None → values ≡ text ∷ []
    → text_reason Identifier text ≡ None
once_text values text none once =
    let P : List (List ℕ) → Type 0 = λ vs. values_reason false Identifier vs ≡ None in
    by_length (length text == 0) (text_reason Identifier text) (subst P once none)

-- two values are a fault
pub often_text : (values : List (List ℕ)) (text other : List ℕ) (more : List (List ℕ))
    → values_reason false Identifier values ≡ None → values ≡ text ∷ other ∷ more → ⊥
often_text values text other more none often =
    let P : List (List ℕ) → Type 0 = λ vs. values_reason false Identifier vs ≡ None in
    let repeated = subst P often none in cc
