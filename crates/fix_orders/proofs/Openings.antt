-- The first fields of a message: what they are, and how long.
use Rattle.std.proofs.Common.{◌≡◌, ℕ, ◌+◌, ◌≤◌, List, [], ◌∷◌, ◌++◌, length}
use Rattle.std.proofs.Common.{refl, subst, arith, length-append, decimal, codes}
use Rattle.std.proofs.Common.{true}
use Rattle.std.specs.Prelude.{Option, Some}
use Rattle.std.specs.List.{AllByRecursion}
use Rattle.std.proofs.lemmas.Bool.Decides.{nat_tests}
use Rattle.std.proofs.lemmas.Fmt.{length-decimal-le}
use Rattle.fix_fields.specs.Fields.{FieldValue, field, field_text, fields_text, is_value_byte}
use Rattle.fix_orders.specs.declared.message.Stamp.{Stamp}
use Rattle.fix_orders.specs.Put.{IsShort, IsStamp, HasPut, HasRoom}
use Rattle.fix_orders.specs.Writing.{opening_fields}
use Rattle.fix_orders.proofs.ShortFields.{IsPart, part, has_begun}
use Rattle.fix_orders.proofs.ShortFields.{sized, room_for, parts_few}

-- a byte of 33 on ends no field
value_byte : (kind : ℕ) → 33 ≤ kind → is_value_byte kind ≡ true
value_byte kind least = grind (arith, nat_tests)

pub kind_is_short : (kind : ℕ) → 33 ≤ kind → IsShort (kind ∷ [])
kind_is_short kind least = record {
  without_soh = rw (value_byte kind least) refl;
  few = omega arith;
}

-- the first fields but the type
abbrev pub opening_rest : List ℕ → List ℕ → List ℕ → List FieldValue
opening_rest target digits time =
    field 49 (codes "GATE") ∷ field 56 target ∷ field 34 digits ∷ field 52 time ∷ []

pub rest_parts : (target digits time : List ℕ) → IsShort target → IsShort digits → IsShort time
    → AllByRecursion IsPart (opening_rest target digits time)
rest_parts target digits time to number at = (
  part 49 (codes "GATE") (omega arith) (omega arith) (record {
    without_soh = refl;
    few = omega arith;
  }),
  (
    part 56 target (omega arith) (omega arith) to,
    (
      part 34 digits (omega arith) (omega arith) number,
      (part 52 time (omega arith) (omega arith) at, tt),
    ),
  ),
)

pub rest_room : (kind : ℕ) (target digits time : List ℕ) (writer : Option (List ℕ)) → 33 ≤ kind
    → writer ≡ Some (field_text (field 35 (kind ∷ [])))
    → AllByRecursion IsPart (opening_rest target digits time)
    → HasRoom (opening_rest target digits time) writer
rest_room kind target digits time writer least is each =
    let one = part 35 (kind ∷ []) (omega arith) (omega arith) (kind_is_short kind least) in
    room_for (field 35 (kind ∷ []) ∷ []) (opening_rest target digits time) writer
    (has_begun kind writer is)
    (omega (arith, parts_few (field 35 (kind ∷ []) ∷ []) (one, tt))) each (omega arith)

pub opening_is : (kind : ℕ) (target digits time : List ℕ) (stamp : Stamp)
    (writer : Option (List ℕ)) → target ≡ stamp.target → digits ≡ decimal stamp.seq
    → time ≡ stamp.time
    → HasPut (field 35 (kind ∷ []) ∷ opening_rest target digits time) writer
    → HasPut (opening_fields (kind ∷ []) stamp) writer
opening_is kind target digits time stamp writer to number at has =
    let P : List ℕ → Type 0 =
    λ t. HasPut (field 35 (kind ∷ []) ∷ opening_rest t digits time) writer in
    let Q : List ℕ → Type 0 =
    λ d. HasPut (field 35 (kind ∷ []) ∷ opening_rest stamp.target d time) writer in
    let R : List ℕ → Type 0 = λ t. HasPut (field 35 (kind ∷ [])
    ∷ opening_rest stamp.target (decimal stamp.seq) t) writer in
    subst R at (subst Q number (subst P to has))

five_texts : (a b c d e : List ℕ)
    → length (a ++ (b ++ (c ++ (d ++ (e ++ [])))))
    ≡ length a + (length b + (length c + (length d + (length e + 0))))
five_texts a b c d e =
    omega (
      arith,
      length-append a (b ++ (c ++ (d ++ (e ++ [])))),
      length-append b (c ++ (d ++ (e ++ []))),
      length-append c (d ++ (e ++ [])),
      length-append d (e ++ []),
      length-append e [],
    )

-- the first fields have at most 161 bytes
pub opening_few : (kind : ℕ) (stamp : Stamp) → IsStamp stamp
    → length (fields_text (opening_fields (kind ∷ []) stamp)) ≤ 161
opening_few kind stamp is =
    omega (
      arith,
      five_texts (field_text (field 35 (kind ∷ []))) (field_text (field 49 (codes "GATE")))
          (field_text (field 56 stamp.target)) (field_text (field 34 (decimal stamp.seq)))
          (field_text (field 52 stamp.time)),
      sized 2 35 (kind ∷ []) (omega arith) (omega arith) (omega arith),
      sized 2 49 (codes "GATE") (omega arith) (omega arith) (omega arith),
      sized 2 56 stamp.target (omega arith) (omega arith) (omega arith),
      sized 2 34 (decimal stamp.seq) (omega arith) (omega arith) (omega arith),
      sized 2 52 stamp.time (omega arith) (omega arith) (omega arith),
      is.target.most,
      length-decimal-le 8 stamp.seq (omega arith) (omega (arith, is.number.most)) (omega (
        arith,
        is.number.most,
      )),
      is.time.most,
    )
