-- The messages of a load, as lists of fields. Sessions and orders are counted from 0, and messages of
-- one sender in one session from 1.
use Rattle.std.specs.Prelude.{ℕ, ◌+◌, ◌/◌, ◌%◌, List, [], ◌∷◌, ◌++◌, codes, decimal}
use Rattle.fix_fields.specs.Fields.{FieldValue, field}
use Rattle.make_load.specs.declared.draws.Draws.{Draws}

-- a number below 100 in two digits
abbrev pub two_digits : ℕ → List ℕ
two_digits n = (48 + n / 10) ∷ (48 + n % 10) ∷ []

-- the client of a session, as C03
abbrev pub client : ℕ → List ℕ
client session = codes "C" ++ two_digits session

-- ClOrdID (11) of a session's order, as o03-17
abbrev pub order_id : ℕ → ℕ → List ℕ
order_id session order = codes "o" ++ two_digits session ++ codes "-" ++ decimal order

-- ClOrdID (11) of the cancel of a session's order, as c03-17
abbrev pub cancel_id : ℕ → ℕ → List ℕ
cancel_id session order = codes "c" ++ two_digits session ++ codes "-" ++ decimal order

-- the time of all messages
abbrev pub time : List ℕ
time = codes "20240102-10:00:00"

-- a price of whole currency units
abbrev pub price_text : ℕ → List ℕ
price_text price = decimal price ++ codes ".00"

-- the first fields of a client's message
abbrev pub from_client : List ℕ → ℕ → ℕ → List FieldValue
from_client kind session number =
    field 35 kind ∷ field 49 (client session) ∷ field 56 (codes "GATE")
    ∷ field 34 (decimal number) ∷ field 52 time ∷ []

-- the first fields of a report of the venue, on an order with this number
abbrev pub from_venue : ℕ → ℕ → List FieldValue
from_venue number order =
    field 35 (codes "8") ∷ field 49 (codes "VENUE") ∷ field 56 (codes "GATE")
    ∷ field 34 (decimal number) ∷ field 52 time ∷ field 37 (codes "O" ++ decimal order) ∷ []

-- Symbol (55), Side (54) and OrderQty (38)
abbrev pub what : Draws → List FieldValue
what d =
    field 55 (codes "S" ++ decimal d.symbol) ∷ field 54 (decimal d.side)
    ∷ field 38 (decimal d.quantity) ∷ []

-- ExecID (17) of the report with this number, ExecType (150) and OrdStatus (39)
abbrev pub execution : ℕ → List ℕ → List ℕ → List FieldValue
execution number exec status =
    field 17 (codes "E" ++ decimal number) ∷ field 150 exec ∷ field 39 status ∷ []

-- a new order
abbrev pub new_order : ℕ → ℕ → ℕ → Draws → List FieldValue
new_order session order number d =
    from_client (codes "D") session number
    ++ field 11 (order_id session order) ∷ field 1 (codes "A" ++ decimal d.account) ∷ what d
    ++ field 40 (codes "2") ∷ field 44 (price_text d.price) ∷ field 60 time ∷ []

-- the report that an order was taken
abbrev pub taken : ℕ → ℕ → ℕ → Draws → List FieldValue
taken session order number d =
    from_venue number order ++ field 11 (order_id session order)
    ∷ execution number (codes "0") (codes "0") ++ what d
    ++ field 151 (decimal d.quantity) ∷ field 14 (codes "0") ∷ field 6 (codes "0") ∷ []

-- the report that an order was filled, all of it at its price
abbrev pub filled : ℕ → ℕ → ℕ → Draws → List FieldValue
filled session order number d =
    from_venue number order ++ field 11 (order_id session order)
    ∷ execution number (codes "F") (codes "2") ++ what d
    ++ field 32 (decimal d.quantity) ∷ field 31 (price_text d.price) ∷ field 151 (codes "0")
    ∷ field 14 (decimal d.quantity) ∷ field 6 (price_text d.price) ∷ []

-- the cancel of an order
abbrev pub cancel : ℕ → ℕ → ℕ → Draws → List FieldValue
cancel session order number d =
    from_client (codes "F") session number
    ++ field 11 (cancel_id session order) ∷ field 41 (order_id session order) ∷ what d
    ++ field 60 time ∷ []

-- the report that an order was canceled
abbrev pub canceled : ℕ → ℕ → ℕ → Draws → List FieldValue
canceled session order number d =
    from_venue number order ++ field 11 (cancel_id session order)
    ∷ field 41 (order_id session order) ∷ execution number (codes "4") (codes "4") ++ what d
    ++ field 151 (codes "0") ∷ field 14 (codes "0") ∷ field 6 (codes "0") ∷ []
