-- The kind, then the fault or the message.
use Rattle.std.proofs.Common.{◌≡◌, ℕ, List, [], ◌∷◌, map, sym, ap, ◌∙◌}
use Rattle.std.specs.Prelude.{Some, None, Ok, Err}
use Rattle.fix_fields.specs.Fields.{FieldValue, field}
use Rattle.fix_fields.specs.Places.{field_at}
use Rattle.fix_fields.specs.declared.walk.Field.{Field}
use Rattle.fix_orders.specs.declared.kind.Kind.{Kind}
use Rattle.fix_orders.specs.declared.message.FieldFault.{FieldFault}
use Rattle.fix_orders.specs.declared.message.Message.{Message}
use Rattle.fix_orders.specs.Faults.{value_of, first_fault}
use Rattle.fix_orders.specs.Kinds.{kind_of}
use Rattle.fix_orders.specs.Reading.{read_of, read_as, message_of, message_unless}
use Rattle.fix_orders.specs.Table.{table}

-- the first field tells the type
pub first_is_type : (bytes : List ℕ) (places rest : List Field) (f : Field)
    (listed others : List FieldValue) (value text : List ℕ) → places ≡ f ∷ rest
    → map (field_at bytes) places ≡ listed → listed ≡ field 35 value ∷ others
    → text ≡ (field_at bytes f).value → text ≡ value_of 35 listed
first_is_type bytes places rest f listed others value text walk said kind is =
    let all : field_at bytes f ∷ map (field_at bytes) rest ≡ field 35 value ∷ others =
    ap (map (field_at bytes)) (sym walk) ∙ said ∙ kind in
    let first : field_at bytes f ≡ field 35 value = cc in
    is ∙ ap (λ (g : FieldValue). g.value) first ∙ sym (ap (value_of 35) kind)

-- a sound frame has a field
pub some_field : (bytes : List ℕ) (places : List Field) (listed others : List FieldValue)
    (value : List ℕ) → places ≡ [] → map (field_at bytes) places ≡ listed
    → listed ≡ field 35 value ∷ others → ⊥
some_field bytes places listed others value walk said kind =
    let all : [] ≡ field 35 value ∷ others = ap (map (field_at bytes)) (sym walk) ∙ said ∙ kind in
    cc

pub read_fault : (kind : Kind) (text : List ℕ) (listed : List FieldValue) (fault : FieldFault)
    → kind ≡ kind_of text → text ≡ value_of 35 listed
    → Some fault ≡ first_fault kind listed table → Err fault ≡ read_of listed
read_fault kind text listed fault kind_is text_is some =
    ap (λ o. message_unless o (message_of kind listed)) some
    ∙ ap (λ k. read_as k listed) (kind_is ∙ ap kind_of text_is)

pub read_whole : (kind : Kind) (text : List ℕ) (listed : List FieldValue) (whole : Message)
    → kind ≡ kind_of text → text ≡ value_of 35 listed
    → None ≡ first_fault kind listed table → whole ≡ message_of kind listed
    → Ok whole ≡ read_of listed
read_whole kind text listed whole kind_is text_is none whole_is =
    ap Ok whole_is
    ∙ ap (λ o. message_unless o (message_of kind listed)) none
    ∙ ap (λ k. read_as k listed) (kind_is ∙ ap kind_of text_is)
