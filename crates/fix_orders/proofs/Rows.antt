-- Worked messages, computed by the definitions.
use Rattle.std.proofs.Common.{◌≡◌, ℕ, List, [], ◌∷◌, ◌++◌, refl, codes}
use Rattle.std.specs.Prelude.{Ok, Err}
use Rattle.std.specs.Fmt.{digits}
use Rattle.fix_fields.specs.Fields.{FieldValue, field, soh}
use Rattle.fix_fields.specs.Messages.{message_text}
use Rattle.fix_orders.specs.declared.message.FieldFault.{FieldFault}
use Rattle.fix_orders.specs.declared.message.Head.{Head}
use Rattle.fix_orders.specs.declared.message.Message.{Message}
use Rattle.fix_orders.specs.declared.message.Message.TheVariants as message
use Rattle.fix_orders.specs.declared.message.OrderKind.TheVariants.{Limit}
use Rattle.fix_orders.specs.declared.message.Stamp.{Stamp}
use Rattle.fix_orders.specs.Reading.{read_of}
use Rattle.fix_orders.specs.Writing.{forward_fields, order_reject_fields, cancel_reject_fields}
use Rattle.fix_orders.specs.Writing.{session_reject_fields}

-- the time of each message here
abbrev time : List ℕ
time = codes "20240102-10:00:00"

-- the fields that each message of a client begins with
abbrev opening : List ℕ → List ℕ → List FieldValue
opening kind number =
    field 35 kind ∷ field 49 (codes "C1") ∷ field 56 (codes "GATE") ∷ field 34 number
    ∷ field 52 time ∷ []

abbrev head : ℕ → Head
head number = record {
  sender = codes "C1";
  target = codes "GATE";
  seq = number;
  time = time;
}

-- an order to buy or to sell 100 at a price
abbrev order : List ℕ → List ℕ → List FieldValue
order side price =
    opening (codes "D") (codes "1")
    ++ field 11 (codes "a1") ∷ field 1 (codes "ACC") ∷ field 55 (codes "XYZ") ∷ field 54 side
    ∷ field 38 (codes "100") ∷ field 40 (codes "2") ∷ field 44 price ∷ field 60 time ∷ []

-- the order that is read
abbrev ordered : ℕ → ℕ → Message
ordered side price = message.New (record {
  head = head 1;
  id = codes "a1";
  account = codes "ACC";
  symbol = codes "XYZ";
  side = side;
  quantity = 100;
  kind = Limit;
  price = price;
})

buy_is_read : read_of (order (codes "1") (codes "10.0000")) ≡ Ok (ordered 49 100000)
buy_is_read = refl

sell_is_read : read_of (order (codes "2") (codes "9.00")) ≡ Ok (ordered 50 90000)
sell_is_read = refl

abbrev to : List ℕ → Stamp
to receiver = record { target = receiver; seq = 1; time = time }

-- the whole bytes of an order passed on
buy_is_passed_on : message_text
    (forward_fields (to (codes "VENUE")) (order (codes "1") (codes "10.0000")))
    ≡ codes "8=FIX.4.4" ++ soh ∷ codes "9=116" ++ soh ∷ codes "35=D" ++ soh ∷ codes "49=GATE" ++ soh
    ∷ codes "56=VENUE" ++ soh ∷ codes "34=1" ++ soh ∷ codes "52=20240102-10:00:00" ++ soh
    ∷ codes "11=a1" ++ soh ∷ codes "1=ACC" ++ soh ∷ codes "55=XYZ" ++ soh ∷ codes "54=1" ++ soh
    ∷ codes "38=100" ++ soh ∷ codes "40=2" ++ soh ∷ codes "44=10.0000" ++ soh
    ∷ codes "60=20240102-10:00:00" ++ soh ∷ codes "10=193" ++ soh ∷ []
unfolding digits
buy_is_passed_on = refl

-- the whole bytes of a refusal
buy_is_refused : message_text
    (order_reject_fields (order (codes "1") (codes "10.0001")) (codes "a1") (to (codes "C1")) 3
    (codes "FIRM"))
    ≡ codes "8=FIX.4.4" ++ soh ∷ codes "9=130" ++ soh ∷ codes "35=8" ++ soh ∷ codes "49=GATE" ++ soh
    ∷ codes "56=C1" ++ soh ∷ codes "34=1" ++ soh ∷ codes "52=20240102-10:00:00" ++ soh
    ∷ codes "37=NONE" ++ soh ∷ codes "11=a1" ++ soh ∷ codes "17=G1" ++ soh ∷ codes "150=8" ++ soh
    ∷ codes "39=8" ++ soh ∷ codes "103=3" ++ soh ∷ codes "1=ACC" ++ soh ∷ codes "55=XYZ" ++ soh
    ∷ codes "54=1" ++ soh ∷ codes "38=100" ++ soh ∷ codes "151=0" ++ soh ∷ codes "14=0" ++ soh
    ∷ codes "6=0" ++ soh ∷ codes "58=FIRM" ++ soh ∷ codes "10=038" ++ soh ∷ []
unfolding digits
buy_is_refused = refl

-- an order with a group of parties, of which tags repeat that stand outside it too
abbrev with_parties : List FieldValue
with_parties =
    opening (codes "D") (codes "2")
    ++ field 50 (codes "TRADER") ∷ field 11 (codes "a1") ∷ field 453 (codes "1")
    ∷ field 448 (codes "DESK1") ∷ field 447 (codes "D") ∷ field 452 (codes "11")
    ∷ field 1 (codes "ACC") ∷ field 55 (codes "XYZ") ∷ field 54 (codes "1") ∷ field 60 time
    ∷ field 38 (codes "100") ∷ field 40 (codes "2") ∷ field 44 (codes "9.5")
    ∷ field 59 (codes "0") ∷ []

group_is_passed_on : forward_fields (to (codes "VENUE")) with_parties
    ≡ field 35 (codes "D") ∷ field 49 (codes "GATE") ∷ field 56 (codes "VENUE")
    ∷ field 34 (codes "1") ∷ field 52 time ∷ field 50 (codes "TRADER") ∷ field 11 (codes "a1")
    ∷ field 453 (codes "1") ∷ field 448 (codes "DESK1") ∷ field 447 (codes "D")
    ∷ field 452 (codes "11") ∷ field 1 (codes "ACC") ∷ field 55 (codes "XYZ")
    ∷ field 54 (codes "1") ∷ field 60 time ∷ field 38 (codes "100") ∷ field 40 (codes "2")
    ∷ field 44 (codes "9.5") ∷ field 59 (codes "0") ∷ []
unfolding digits
group_is_passed_on = refl

-- an order of number 7 without a symbol, and one of another type
abbrev without_symbol : List FieldValue
without_symbol =
    opening (codes "D") (codes "7")
    ++ field 11 (codes "a1") ∷ field 1 (codes "ACC") ∷ field 54 (codes "1") ∷ field 38 (codes "100")
    ∷ field 40 (codes "2") ∷ field 44 (codes "10.00") ∷ []

abbrev of_type : List ℕ → List FieldValue
of_type order_type =
    opening (codes "D") (codes "7")
    ++ field 11 (codes "a1") ∷ field 1 (codes "ACC") ∷ field 55 (codes "XYZ") ∷ field 54 (codes "1")
    ∷ field 38 (codes "100") ∷ field 40 order_type ∷ field 44 (codes "10.00") ∷ []

abbrev fault : ℕ → ℕ → FieldFault
fault tag reason = record { tag = tag; reason = reason }

symbol_is_missing : read_of without_symbol ≡ Err (fault 55 1)
symbol_is_missing = refl

type_is_not_listed : read_of (of_type (codes "3")) ≡ Err (fault 40 5)
type_is_not_listed = refl

fault_is_answered : session_reject_fields (to (codes "C1")) 7 (codes "D") (fault 55 1)
    ≡ field 35 (codes "3") ∷ field 49 (codes "GATE") ∷ field 56 (codes "C1") ∷ field 34 (codes "1")
    ∷ field 52 time ∷ field 45 (codes "7") ∷ field 371 (codes "55") ∷ field 372 (codes "D")
    ∷ field 373 (codes "1") ∷ []
unfolding digits
fault_is_answered = refl

-- a request of an unknown order is refused
request_is_refused : cancel_reject_fields (codes "b1") (codes "zz") (to (codes "C1")) 2 1
    (codes "UNKNOWN")
    ≡ field 35 (codes "9") ∷ field 49 (codes "GATE") ∷ field 56 (codes "C1") ∷ field 34 (codes "1")
    ∷ field 52 time ∷ field 37 (codes "NONE") ∷ field 11 (codes "b1") ∷ field 41 (codes "zz")
    ∷ field 39 (codes "8") ∷ field 434 (codes "2") ∷ field 102 (codes "1")
    ∷ field 58 (codes "UNKNOWN") ∷ []
unfolding digits
request_is_refused = refl

-- no field of a message of the session is read
admin_is_read : read_of (field 35 (codes "0") ∷ []) ≡ Ok message.Admin
admin_is_read = refl

other_is_read : read_of (field 35 (codes "AB") ∷ []) ≡ Ok message.Other
other_is_read = refl
