-- The report that refuses an order: what it is, and that it fits.
use Rattle.std.proofs.Common.{◌≡◌, ℕ, ◌+◌, ◌-◌, ◌^◌, ◌≤◌, ◌<◌, List, [], ◌∷◌, ◌++◌, length, take, drop}
use Rattle.std.proofs.Common.{refl, ap, ◌∙◌, arith, codes, decimal, slice_set}
use Rattle.std.specs.Prelude.{Option, Some}
use Rattle.std.specs.List.{AllByRecursion}
use Rattle.std.proofs.lemmas.Fmt.{length-decimal-le}
use Rattle.std.proofs.lemmas.List.{drop-set, take_all}
use Rattle.fix_fields.specs.Fields.{FieldValue, field, fields_text}
use Rattle.fix_orders.specs.declared.message.Stamp.{Stamp}
use Rattle.fix_orders.specs.Faults.{value_of}
use Rattle.fix_orders.specs.Put.{IsShort, HasPut}
use Rattle.fix_orders.specs.Writing.{opening_fields, reply_fields, order_reject_fields}
use Rattle.fix_orders.proofs.ShortFields.{IsPart, part, number_is_short}
use Rattle.fix_orders.proofs.Rejects.{own_is_short, reply_parts, both_parts}
use Rattle.fix_orders.proofs.Rejects.{text_fields}

-- a number of 32 bits has at most ten digits
pub few_digits : (n : ℕ) → n < 2 ^ 32 → length (decimal n) ≤ 10
few_digits n fits = length-decimal-le 10 n (omega arith) (omega arith) (omega arith)

append_none : (xs rest : List ℕ) → rest ≡ [] → xs ++ rest ≡ xs
append_none [] rest e = e
append_none (x ∷ xs) rest e = ap (λ r. x ∷ r) (append_none xs rest e)

-- G before the digits at the end of eleven bytes
pub execution_is : (n m from : ℕ) (buf rest : List ℕ) → m ≡ n → n < 2 ^ 32 → length buf ≡ 11
    → from + length (decimal m) ≡ 11 → drop from buf ≡ decimal m ++ rest → rest ≡ []
    → take (11 - (from - 1)) (drop (from - 1) (slice_set buf (from - 1) 71)) ≡ 71 ∷ decimal n
execution_is n m from buf rest same fits size start written none =
    let few : length (decimal m) ≤ 10 = rw same (few_digits n fits) in
    let place : from - 1 + 1 ≡ from = omega (arith, few, start) in
    let dropped : drop (from - 1) (slice_set buf (from - 1) 71) ≡ 71 ∷ decimal m =
    drop-set buf (from - 1) 71 (omega (arith, few, start, size))
    ∙ ap (λ k. 71 ∷ drop k buf) place
    ∙ ap (λ t. 71 ∷ t) (written ∙ append_none (decimal m) rest none) in
    ap (take (11 - (from - 1))) dropped
    ∙ take_all (11 - (from - 1)) (71 ∷ decimal m) (omega (arith, few, start))
    ∙ ap (λ k. 71 ∷ decimal k) same

-- ExecID (17)
pub execution_parts : (n : ℕ) (text : List ℕ) → n < 2 ^ 32 → text ≡ 71 ∷ decimal n
    → AllByRecursion IsPart (field 17 text ∷ [])
execution_parts n text fits is = (
  part 17 text (omega arith) (omega arith) (rw is (record {
    without_soh = (number_is_short n fits).without_soh;
    few = omega (arith, few_digits n fits);
  })),
  tt,
)

abbrev pub execution_fields : ℕ → List FieldValue
execution_fields number = field 17 (codes "G" ++ decimal number) ∷ []

abbrev pub result_fields : List FieldValue
result_fields = field 150 (codes "8") ∷ field 39 (codes "8") ∷ []

pub result_parts : AllByRecursion IsPart result_fields
result_parts = (
  part 150 (codes "8") (omega arith) (omega arith) (own_is_short _ refl (omega arith)),
  (part 39 (codes "8") (omega arith) (omega arith) (own_is_short _ refl (omega arith)), tt),
)

abbrev pub reason_fields : List ℕ → List FieldValue
reason_fields reason = field 103 reason ∷ []

pub reason_parts : (reason : List ℕ) → IsShort reason → AllByRecursion IsPart (reason_fields reason)
reason_parts reason r = (part 103 reason (omega arith) (omega arith) r, tt)

abbrev pub state_fields : List ℕ → List FieldValue
state_fields reason = result_fields ++ reason_fields reason

pub state_parts : (reason : List ℕ) → IsShort reason → AllByRecursion IsPart (state_fields reason)
state_parts reason r =
    both_parts result_fields (reason_fields reason) result_parts (reason_parts reason r)

abbrev pub value_fields : List ℕ → List ℕ → List ℕ → List ℕ → List FieldValue
value_fields account symbol side quantity =
    field 1 account ∷ field 55 symbol ∷ field 54 side ∷ field 38 quantity ∷ []

pub value_parts : (account symbol side quantity : List ℕ) → IsShort account → IsShort symbol
    → IsShort side → IsShort quantity
    → AllByRecursion IsPart (value_fields account symbol side quantity)
value_parts account symbol side quantity a s i q = (
  part 1 account (omega arith) (omega arith) a,
  (
    part 55 symbol (omega arith) (omega arith) s,
    (
      part 54 side (omega arith) (omega arith) i,
      (part 38 quantity (omega arith) (omega arith) q, tt),
    ),
  ),
)

abbrev pub zero_fields : List FieldValue
zero_fields = field 151 (codes "0") ∷ field 14 (codes "0") ∷ field 6 (codes "0") ∷ []

pub zero_parts : AllByRecursion IsPart zero_fields
zero_parts = (
  part 151 (codes "0") (omega arith) (omega arith) (own_is_short _ refl (omega arith)),
  (
    part 14 (codes "0") (omega arith) (omega arith) (own_is_short _ refl (omega arith)),
    (part 6 (codes "0") (omega arith) (omega arith) (own_is_short _ refl (omega arith)), tt),
  ),
)

-- the fields behind the first ones, up to each group
abbrev pub to_execution : List ℕ → ℕ → List FieldValue
to_execution id number = reply_fields id ++ execution_fields number

abbrev pub to_state : List ℕ → ℕ → List ℕ → List FieldValue
to_state id number reason = to_execution id number ++ state_fields reason

abbrev pub to_values : List ℕ → ℕ → List ℕ → List ℕ → List ℕ → List ℕ → List ℕ → List FieldValue
to_values id number reason account symbol side quantity =
    to_state id number reason ++ value_fields account symbol side quantity

abbrev pub to_zeros : List ℕ → ℕ → List ℕ → List ℕ → List ℕ → List ℕ → List ℕ → List FieldValue
to_zeros id number reason account symbol side quantity =
    to_values id number reason account symbol side quantity ++ zero_fields

pub to_execution_parts : (id : List ℕ) (number : ℕ) → IsShort id → number < 2 ^ 32
    → AllByRecursion IsPart (to_execution id number)
to_execution_parts id number i fits =
    both_parts (reply_fields id) (execution_fields number) (reply_parts id i)
    (execution_parts number (codes "G" ++ decimal number) fits refl)

pub to_state_parts : (id : List ℕ) (number : ℕ) (reason : List ℕ) → IsShort id → number < 2 ^ 32
    → IsShort reason → AllByRecursion IsPart (to_state id number reason)
to_state_parts id number reason i fits r =
    both_parts (to_execution id number) (state_fields reason) (to_execution_parts id number i fits)
    (state_parts reason r)

pub to_values_parts : (id : List ℕ) (number : ℕ) (reason account symbol side quantity : List ℕ)
    → IsShort id → number < 2 ^ 32 → IsShort reason
    → AllByRecursion IsPart (value_fields account symbol side quantity)
    → AllByRecursion IsPart (to_values id number reason account symbol side quantity)
to_values_parts id number reason account symbol side quantity i fits r values =
    both_parts (to_state id number reason) (value_fields account symbol side quantity)
    (to_state_parts id number reason i fits r) values

pub to_zeros_parts : (id : List ℕ) (number : ℕ) (reason account symbol side quantity : List ℕ)
    → IsShort id → number < 2 ^ 32 → IsShort reason
    → AllByRecursion IsPart (value_fields account symbol side quantity)
    → AllByRecursion IsPart (to_zeros id number reason account symbol side quantity)
to_zeros_parts id number reason account symbol side quantity i fits r values =
    both_parts (to_values id number reason account symbol side quantity) zero_fields
    (to_values_parts id number reason account symbol side quantity i fits r values) zero_parts

-- the report that was put is that of the fields
pub order_is : (listed : List FieldValue) (stamp : Stamp) (n : ℕ)
    (id i reason account symbol side quantity text : List ℕ) (writer : Option (List ℕ))
    → id ≡ i → reason ≡ decimal n → account ≡ value_of 1 listed → symbol ≡ value_of 55 listed
    → side ≡ value_of 54 listed → quantity ≡ value_of 38 listed
    → HasPut (opening_fields (56 ∷ []) stamp
    ++ to_zeros id stamp.seq reason account symbol side quantity ++ text_fields text) writer
    → HasPut (order_reject_fields listed i stamp n text) writer
order_is listed stamp n id i reason account symbol side quantity text writer
    id_is reason_is account_is symbol_is side_is quantity_is has =
    let said : List ℕ → List ℕ → List ℕ → List ℕ → List ℕ → List ℕ → Option (List ℕ) =
    λ u v w x y z. Some (fields_text (opening_fields (56 ∷ []) stamp
    ++ to_zeros u stamp.seq v w x y z ++ text_fields text)) in
    has
    ∙ ap (λ v. said v reason account symbol side quantity) id_is
    ∙ ap (λ v. said i v account symbol side quantity) reason_is
    ∙ ap (λ v. said i (decimal n) v symbol side quantity) account_is
    ∙ ap (λ v. said i (decimal n) (value_of 1 listed) v side quantity) symbol_is
    ∙ ap (λ v. said i (decimal n) (value_of 1 listed) (value_of 55 listed) v quantity) side_is
    ∙ ap (λ v. said i (decimal n) (value_of 1 listed) (value_of 55 listed) (value_of 54 listed) v)
    quantity_is
