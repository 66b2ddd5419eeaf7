-- A message that is passed on: its type is one byte.
use Rattle.std.proofs.Common.{◌≡◌, ℕ, ◌≤◌, List, [], ◌∷◌, ◌++◌, length, refl, sym, ap, ◌∙◌}
use Rattle.std.proofs.Common.{subst, arith, codes, Bool, true, false}
use Rattle.std.specs.Prelude.{Option, Some, None, Result, Ok, Err, IfSome, filter, not}
use Rattle.std.specs.Prelude.{if◌then◌else◌}
use Rattle.std.specs.List.{list_any}
use Rattle.std.specs.Str.{bytes_eq}
use Rattle.std.proofs.lemmas.Bool.{false≢true}
use Rattle.std.proofs.lemmas.Grind.{flat_map-append}
use Rattle.std.proofs.lemmas.Slice.Eq.{bytes_eq-Decides}
use Rattle.fix_fields.specs.Fields.{FieldValue, field_text, fields_text}
use Rattle.fix_orders.specs.declared.kind.Kind.TheVariants.{NewOrderSingle, OrderCancelRequest}
use Rattle.fix_orders.specs.declared.kind.Kind.TheVariants.{OrderCancelReplaceRequest}
use Rattle.fix_orders.specs.declared.kind.Kind.TheVariants.{ExecutionReport, OrderCancelReject}
use Rattle.fix_orders.specs.declared.kind.Kind.TheVariants.{Admin, Other}
use Rattle.fix_orders.specs.declared.message.FieldFault.{FieldFault}
use Rattle.fix_orders.specs.declared.message.Message.{Message}
use Rattle.fix_orders.specs.declared.message.Stamp.{Stamp}
use Rattle.fix_orders.specs.Faults.{value_of, first_fault}
use Rattle.fix_orders.specs.Kinds.{kind_of, admin_types}
use Rattle.fix_orders.specs.Put.{is_passed, HasPut, IsStamp}
use Rattle.fix_orders.specs.Reading.{read_of, message_of, message_unless}
use Rattle.fix_orders.specs.Table.{table}
use Rattle.fix_orders.specs.Writing.{opening_fields, forward_fields, is_own_field}
use Rattle.fix_orders.proofs.Openings.{opening_few}
use Rattle.fix_orders.proofs.OtherFields.{others_text}

-- a message that was read has no fault, and is that of its kind
pub unless_ok : (fault : Option FieldFault) (whole read : Message)
    → message_unless fault whole ≡ Ok read → (fault ≡ None) × (whole ≡ read)
unless_ok None whole read e = (refl, cc)
unless_ok (Some fault) whole read e = absurd (differ fault read e)
  where
    differ : (f : FieldFault) (m : Message)
        → (let r : Result Message FieldFault = Err f in r) ≡ Ok m → ⊥
    differ f m e = cc

-- a text is one printable byte
pub record IsTypeByte (text : List ℕ) : Type 0 where
  pub byte : ℕ
  pub is : text ≡ byte ∷ []
  pub least : 33 ≤ byte
  pub most : byte ≤ 126

type_byte : (text : List ℕ) (byte : ℕ) → text ≡ byte ∷ [] → 33 ≤ byte → byte ≤ 126
    → IsTypeByte text
type_byte text byte is least most =
    record { byte = byte; is = is; least = least; most = most }

not_passed : (admin : Bool) (fields : List FieldValue)
    → is_passed (message_of (if admin then Admin else Other) fields) ≡ true → ⊥
not_passed true fields e = false≢true e
not_passed false fields e = false≢true e

type_by : (d f g report reject admin : Bool) (text : List ℕ) (fields : List FieldValue)
    → (d ≡ true → text ≡ codes "D") → (f ≡ true → text ≡ codes "F")
    → (g ≡ true → text ≡ codes "G") → (report ≡ true → text ≡ codes "8")
    → (reject ≡ true → text ≡ codes "9")
    → is_passed (message_of (if d then NewOrderSingle else (if f then OrderCancelRequest
    else (if g then OrderCancelReplaceRequest else (if report then ExecutionReport
    else (if reject then OrderCancelReject else (if admin then Admin else Other)))))) fields) ≡ true
    → IsTypeByte text
type_by true f g report reject admin text fields is_d is_f is_g is_8 is_9 e =
    type_byte text 68 (is_d refl) (omega arith) (omega arith)
type_by false true g report reject admin text fields is_d is_f is_g is_8 is_9 e =
    type_byte text 70 (is_f refl) (omega arith) (omega arith)
type_by false false true report reject admin text fields is_d is_f is_g is_8 is_9 e =
    type_byte text 71 (is_g refl) (omega arith) (omega arith)
type_by false false false true reject admin text fields is_d is_f is_g is_8 is_9 e =
    type_byte text 56 (is_8 refl) (omega arith) (omega arith)
type_by false false false false true admin text fields is_d is_f is_g is_8 is_9 e =
    type_byte text 57 (is_9 refl) (omega arith) (omega arith)
type_by false false false false false admin text fields is_d is_f is_g is_8 is_9 e =
    absurd (not_passed admin fields e)

-- the type of a message that is passed on is one byte
pub type_is_byte : (fields : List FieldValue) (whole : Message) → read_of fields ≡ Ok whole
    → is_passed whole ≡ true → IsTypeByte (value_of 35 fields)
type_is_byte fields whole read passed =
    let text = value_of 35 fields in
    let same = unless_ok (first_fault (kind_of text) fields table)
    (message_of (kind_of text) fields) whole read in
    type_by (bytes_eq text (codes "D")) (bytes_eq text (codes "F")) (bytes_eq text (codes "G"))
    (bytes_eq text (codes "8")) (bytes_eq text (codes "9")) (list_any (bytes_eq text) admin_types)
    text fields ((bytes_eq-Decides text (codes "D")).0) ((bytes_eq-Decides text (codes "F")).0)
    ((bytes_eq-Decides text (codes "G")).0) ((bytes_eq-Decides text (codes "8")).0)
    ((bytes_eq-Decides text (codes "9")).0) (ap is_passed same.1 ∙ passed)

-- the body has room for what is passed on
pub forward_room : (kind : ℕ) (stamp : Stamp) (writer : Option (List ℕ)) → IsStamp stamp
    → HasPut (opening_fields (kind ∷ []) stamp) writer → IfSome writer (λ body. length body ≤ 200)
forward_room kind stamp writer is has =
    let Room : Option (List ℕ) → Type 0 = λ o. IfSome o (λ body. length body ≤ 200) in
    subst Room (sym has) (omega (arith, opening_few kind stamp is))

-- the first fields and those that are passed on
pub forward_put : (kind : ℕ) (stamp : Stamp) (fields : List FieldValue)
    (opened new : Option (List ℕ)) → HasPut (opening_fields (kind ∷ []) stamp) opened
    → kind ∷ [] ≡ value_of 35 fields
    → IfSome opened (λ body. new ≡ Some (body ++ others_text fields))
    → HasPut (forward_fields stamp fields) new
forward_put kind stamp fields opened new has type_is more =
    let first = opening_fields (kind ∷ []) stamp in
    let others = filter (λ f. not (is_own_field f)) fields in
    let More : Option (List ℕ) → Type 0 =
    λ o. IfSome o (λ body. new ≡ Some (body ++ others_text fields)) in
    subst More has more
    ∙ ap Some (sym (flat_map-append field_text first others))
    ∙ ap (λ t. Some (fields_text (opening_fields t stamp ++ others))) type_is
