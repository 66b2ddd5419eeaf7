-- A load: its session files and its limit file, byte by byte.
use Rattle.std.specs.Prelude.{ℕ, zero, suc, ◌+◌, List, [], ◌∷◌, ◌++◌, codes, map, sum_by}
use Rattle.std.specs.Prelude.{count_by, Bool, false}
use Rattle.std.specs.List.{flat_map, range_with_len}
use Rattle.std.specs.Str.{bytes_eq}
use Rattle.fix_fields.specs.Fields.{FieldValue}
use Rattle.fix_fields.specs.Messages.{message_text}
use Rattle.make_load.specs.declared.draws.Draws.{Draws}
use Rattle.make_load.specs.declared.draws.Fate.{Fate}
use Rattle.make_load.specs.declared.draws.Fate.TheVariants as fate
use Rattle.make_load.specs.Draws.{draws_from, first_state}
use Rattle.make_load.specs.Patterns.{new_order, taken, filled, cancel, canceled}

-- what follows an order that was taken: its fill, or a cancel and its report, or nothing
abbrev pub fate_messages : Fate → ℕ → ℕ → ℕ → ℕ → Draws → List (List FieldValue)
fate_messages fate.Filled session order requests reports d =
    filled session order (reports + 1) d ∷ []
fate_messages fate.Canceled session order requests reports d =
    cancel session order (requests + 1) d ∷ canceled session order (reports + 1) d ∷ []
fate_messages fate.Left session order requests reports d = []

-- how many of them are the client's
abbrev pub fate_requests : Fate → ℕ
fate_requests fate.Filled = 0
fate_requests fate.Canceled = 1
fate_requests fate.Left = 0

-- how many of them are reports
abbrev pub fate_reports : Fate → ℕ
fate_reports fate.Filled = 1
fate_reports fate.Canceled = 1
fate_reports fate.Left = 0

-- the messages of an order, after so many of the client and so many reports
abbrev pub order_messages : ℕ → ℕ → ℕ → ℕ → Draws → List (List FieldValue)
order_messages session order requests reports d =
    new_order session order (requests + 1) d ∷ taken session order (reports + 1) d
    ∷ fate_messages d.fate session order (requests + 1) (reports + 1) d

-- the messages of so many orders, from this one on, with the generator at this number
abbrev pub messages_from : ℕ → ℕ → ℕ → ℕ → ℕ → ℕ → List (List FieldValue)
messages_from session zero order x requests reports = []
messages_from session (suc left) order x requests reports =
    let d = draws_from x in
    order_messages session order requests reports d
    ++ messages_from session left (order + 1) d.state (requests + 1 + fate_requests d.fate)
    (reports + 1 + fate_reports d.fate)

-- the messages of a session of so many orders
abbrev pub session_messages : ℕ → ℕ → ℕ → List (List FieldValue)
session_messages number orders session =
    messages_from session orders 0 (first_state number session) 0 0

-- a message on a line of its own
abbrev pub line_of : List FieldValue → List ℕ
line_of fields = message_text fields ++ 10 ∷ []

-- the file of a session
abbrev pub session_text : ℕ → ℕ → ℕ → List ℕ
session_text number orders session = flat_map line_of (session_messages number orders session)

-- the files of the sessions, in their order
abbrev pub session_texts : ℕ → ℕ → ℕ → List (List ℕ)
session_texts number sessions orders =
    map (session_text number orders) (range_with_len 0 sessions)

-- the message has this type
abbrev pub is_of_type : List ℕ → List FieldValue → Bool
is_of_type kind [] = false
is_of_type kind (first ∷ fields) = bytes_eq first.value kind

-- how many messages of this type a session has
abbrev pub count_in_session : List ℕ → ℕ → ℕ → ℕ → ℕ
count_in_session kind number orders session =
    count_by (is_of_type kind) (session_messages number orders session)

-- how many messages of this type the load has
abbrev pub count_in_load : List ℕ → ℕ → ℕ → ℕ → ℕ
count_in_load kind number sessions orders =
    sum_by (count_in_session kind number orders) (range_with_len 0 sessions)

-- the limit file of every load
abbrev pub limit_text : List ℕ
limit_text =
    codes "firm,,2000000,,,\n"
    ++ codes "account,A0,800000,,,\n"
    ++ codes "account,A1,800000,,,\n"
    ++ codes "account,A2,800000,,,\n"
    ++ codes "account,A3,800000,,,\n"
    ++ codes "symbol,S0,500000,1,100,1000\n"
    ++ codes "symbol,S1,500000,1,100,1000\n"
    ++ codes "symbol,S2,500000,1,100,1000\n"
    ++ codes "symbol,S3,500000,1,100,1000\n"
    ++ codes "symbol,S4,500000,1,100,1000\n"
    ++ codes "symbol,S5,500000,1,100,1000\n"
    ++ codes "symbol,S6,500000,1,100,1000\n"
    ++ codes "symbol,S7,500000,1,100,1000\n"
    ++ codes "quota,,200000,,,\n"
