-- The messages that refuse a request or a message: what they are, and how long.
use Rattle.std.proofs.Common.{◌≡◌, ℕ, ◌+◌, ◌≤◌, ◌<◌, ◌^◌, List, [], ◌∷◌, ◌++◌, length}
use Rattle.std.proofs.Common.{refl, sym, ap, ◌∙◌, subst, arith, length-append, decimal, codes}
use Rattle.std.specs.Prelude.{Option, Some, IsTrue}
use Rattle.std.specs.List.{AllByRecursion, list_all}
use Rattle.std.proofs.lemmas.Grind.{flat_map-append}
use Rattle.std.proofs.lemmas.Fmt.{length-decimal-le}
use Rattle.fix_fields.specs.Fields.{FieldValue, IsField, field, field_text, fields_text, soh}
use Rattle.fix_fields.specs.Fields.{is_value_byte}
use Rattle.fix_fields.proofs.FieldList.{fields_text-cons}
use Rattle.fix_orders.specs.declared.message.Stamp.{Stamp}
use Rattle.fix_orders.specs.Faults.{value_of}
use Rattle.fix_orders.specs.Put.{IsShort, IsStamp, HasPut, HasRoom, IsTypeText}
use Rattle.fix_orders.specs.Writing.{opening_fields, reply_fields, cancel_reject_fields}
use Rattle.fix_orders.specs.Writing.{session_reject_fields}
use Rattle.fix_orders.proofs.ShortFields.{IsPart, part, number_is_short, parts_few, sized}
use Rattle.fix_orders.proofs.Openings.{opening_few}
use Rattle.fix_orders.proofs.Walks.{fields_few, fields_each}

pub digits_are_short : (n : ℕ) (digits : List ℕ) → n < 2 ^ 32 → digits ≡ decimal n → IsShort digits
digits_are_short n digits fits is = rw is (number_is_short n fits)

-- a text of the gate's own
pub own_is_short : (text : List ℕ) → IsTrue (list_all is_value_byte text) → length text ≤ 64
    → IsShort text
own_is_short text whole few = record { without_soh = whole; few = few }

-- the fields of a refused request behind the first ones
abbrev pub cancel_second : List ℕ → List FieldValue
cancel_second orig = field 41 orig ∷ field 39 (codes "8") ∷ []

abbrev pub cancel_codes : List ℕ → List ℕ → List FieldValue
cancel_codes answers reason = field 434 answers ∷ field 102 reason ∷ []

abbrev pub text_fields : List ℕ → List FieldValue
text_fields text = field 58 text ∷ []

pub reply_parts : (id : List ℕ) → IsShort id → AllByRecursion IsPart (reply_fields id)
reply_parts id i = (
  part 37 (codes "NONE") (omega arith) (omega arith) (own_is_short _ refl (omega arith)),
  (part 11 id (omega arith) (omega arith) i, tt),
)

pub second_parts : (orig : List ℕ) → IsShort orig → AllByRecursion IsPart (cancel_second orig)
second_parts orig o = (
  part 41 orig (omega arith) (omega arith) o,
  (part 39 (codes "8") (omega arith) (omega arith) (own_is_short _ refl (omega arith)), tt),
)

pub code_parts : (answers reason : List ℕ) → IsShort answers → IsShort reason
    → AllByRecursion IsPart (cancel_codes answers reason)
code_parts answers reason a r = (
  part 434 answers (omega arith) (omega arith) a,
  (part 102 reason (omega arith) (omega arith) r, tt),
)

pub text_parts : (text : List ℕ) → IsShort text → AllByRecursion IsPart (text_fields text)
text_parts text t = (part 58 text (omega arith) (omega arith) t, tt)

pub both_parts : (fields more : List FieldValue) → AllByRecursion IsPart fields
    → AllByRecursion IsPart more → AllByRecursion IsPart (fields ++ more)
both_parts [] more each others = others
both_parts (f ∷ fields) more each others = (each.0, both_parts fields more each.1 others)

-- short fields fit behind the first ones and other short ones
pub short_room : (kind : ℕ) (stamp : Stamp) (put more : List FieldValue) (writer : Option (List ℕ))
    → IsStamp stamp → HasPut (opening_fields (kind ∷ []) stamp ++ put) writer
    → AllByRecursion IsPart put → AllByRecursion IsPart more → length put + length more ≤ 100
    → HasRoom more writer
short_room kind stamp put more writer is has each others few = (
  opening_fields (kind ∷ []) stamp ++ put,
  has,
  omega (
    arith,
    opening_few kind stamp is,
    ap length (flat_map-append field_text (opening_fields (kind ∷ []) stamp) put),
    length-append (fields_text (opening_fields (kind ∷ []) stamp)) (fields_text put),
    parts_few put each,
    parts_few more others,
    few,
  ),
)

pub cancel_is : (id orig answers reason text i o : List ℕ) (stamp : Stamp) (a r : ℕ)
    (writer : Option (List ℕ)) → id ≡ i → orig ≡ o → answers ≡ decimal a → reason ≡ decimal r
    → HasPut (opening_fields (57 ∷ []) stamp
    ++ reply_fields id ++ cancel_second orig ++ cancel_codes answers reason
    ++ text_fields text) writer
    → HasPut (cancel_reject_fields i o stamp a r text) writer
cancel_is id orig answers reason text i o stamp a r writer id_is orig_is answers_is reason_is has =
    let said : List ℕ → List ℕ → List ℕ → List ℕ → Option (List ℕ) = λ v w x y.
    Some (fields_text (opening_fields (57 ∷ []) stamp ++ reply_fields v ++ cancel_second w
    ++ cancel_codes x y ++ text_fields text)) in
    has ∙ ap (λ v. said v orig answers reason) id_is ∙ ap (λ v. said i v answers reason) orig_is
    ∙ ap (λ v. said i o v reason) answers_is ∙ ap (λ v. said i o (decimal a) v) reason_is

-- the value of MsgType (35) of a sound frame can be written
pub record CanBeWritten (text : List ℕ) : Type 0 where
  pub without_soh : IsTrue (list_all is_value_byte text)
  pub few : length text ≤ 8190

type_by : (listed others : List FieldValue) (value text : List ℕ) → listed ≡ field 35 value ∷ others
    → AllByRecursion IsField listed → length (fields_text listed) ≤ 8192
    → text ≡ value_of 35 listed → CanBeWritten text
type_by listed others value text kind each few is =
    let same : text ≡ value = is ∙ ap (value_of 35) kind in
    let P : List FieldValue → Type 0 = λ fs. AllByRecursion IsField fs in
    let parts = subst P kind each in
    let Q : List FieldValue → Type 0 = λ fs. length (fields_text fs) ≤ 8192 in
    let short = subst Q kind few in
    rw same (record {
      without_soh = parts.0.without_soh;
      few = omega (
        arith,
        short,
        ap length (fields_text-cons (field 35 value) others),
        length-append (field_text (field 35 value)) (fields_text others),
        length-append (decimal 35 ++ 61 ∷ value) (soh ∷ []),
        length-append (decimal 35) (61 ∷ value),
      );
    })

pub type_is_written : (text : List ℕ) → IsTypeText text → CanBeWritten text
type_is_written text (bytes, frame, listed, has, is) =
    let kind = has.1.parts.4.fields.kind in
    type_by listed kind.1 kind.0 text kind.3 (fields_each bytes frame listed has)
    (fields_few bytes frame listed has) is

-- the fields of a refused message behind the first ones
abbrev pub session_first : List ℕ → List ℕ → List FieldValue
session_first seq tag = field 45 seq ∷ field 371 tag ∷ []

abbrev pub session_second : List ℕ → List ℕ → List FieldValue
session_second kind reason = field 372 kind ∷ field 373 reason ∷ []

pub session_parts : (seq tag : List ℕ) → IsShort seq → IsShort tag
    → AllByRecursion IsPart (session_first seq tag)
session_parts seq tag s t =
    (part 45 seq (omega arith) (omega arith) s, (part 371 tag (omega arith) (omega arith) t, tt))

pub session_fields : (kind reason : List ℕ) → CanBeWritten kind → IsShort reason
    → AllByRecursion IsField (session_second kind reason)
session_fields kind reason k r = (
  record { least = omega arith; most = omega arith; without_soh = k.without_soh },
  (record { least = omega arith; most = omega arith; without_soh = r.without_soh }, tt),
)

two_texts : (a b : List ℕ) → length (a ++ (b ++ [])) ≡ length a + (length b + 0)
two_texts a b = omega (arith, length-append a (b ++ []), length-append b [])

few_digits : (n : ℕ) (digits : List ℕ) → n < 2 ^ 32 → digits ≡ decimal n → length digits ≤ 10
few_digits n digits fits is =
    let P : List ℕ → Type 0 = λ d. length d ≤ 10 in
    subst P (sym is) (length-decimal-le 10 n (omega arith) (omega arith) (omega arith))

pub session_room : (stamp : Stamp) (s t r : ℕ) (seq tag kind reason : List ℕ)
    (writer : Option (List ℕ)) → IsStamp stamp
    → HasPut (opening_fields (51 ∷ []) stamp ++ session_first seq tag) writer
    → s < 2 ^ 32 → seq ≡ decimal s → t < 2 ^ 32 → tag ≡ decimal t → r < 2 ^ 32
    → reason ≡ decimal r → CanBeWritten kind → HasRoom (session_second kind reason) writer
session_room stamp s t r seq tag kind reason writer is has sf s_is tf t_is rf r_is k = (
  opening_fields (51 ∷ []) stamp ++ session_first seq tag,
  has,
  omega (
    arith,
    opening_few 51 stamp is,
    ap
        length (flat_map-append field_text (opening_fields (51 ∷ []) stamp)
        (session_first seq tag)),
    length-append (fields_text (opening_fields (51 ∷ []) stamp))
        (fields_text (session_first seq tag)),
    two_texts (field_text (field 45 seq)) (field_text (field 371 tag)),
    two_texts (field_text (field 372 kind)) (field_text (field 373 reason)),
    sized 2 45 seq (omega arith) (omega arith) (omega arith),
    sized 3 371 tag (omega arith) (omega arith) (omega arith),
    sized 3 372 kind (omega arith) (omega arith) (omega arith),
    sized 3 373 reason (omega arith) (omega arith) (omega arith),
    few_digits s seq sf s_is,
    few_digits t tag tf t_is,
    few_digits r reason rf r_is,
    k.few,
  ),
)

pub session_is : (stamp : Stamp) (s t r : ℕ) (seq tag kind reason : List ℕ)
    (writer : Option (List ℕ)) → seq ≡ decimal s → tag ≡ decimal t → reason ≡ decimal r
    → HasPut (opening_fields (51 ∷ []) stamp ++ session_first seq tag
    ++ session_second kind reason) writer
    → HasPut (session_reject_fields stamp s kind (record { tag = t; reason = r })) writer
session_is stamp s t r seq tag kind reason writer s_is t_is r_is has =
    let said : List ℕ → List ℕ → List ℕ → Option (List ℕ) = λ v w x.
    Some (fields_text (opening_fields (51 ∷ []) stamp ++ session_first v w
    ++ session_second kind x)) in
    has ∙ ap (λ v. said v tag reason) s_is ∙ ap (λ v. said (decimal s) v reason) t_is
    ∙ ap (λ v. said (decimal s) (decimal t) v) r_is
