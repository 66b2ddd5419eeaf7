-- What a session does with each frame, as a function of the frames and of the reads.
use Rattle.std.specs.Prelude.{ℕ, ◌+◌, List, [], ◌∷◌, ◌++◌, length, map, Option, Some, None}
use Rattle.std.specs.Prelude.{Bool, true, false, codes, Result, Ok, Err, if◌then◌else◌}
use Rattle.std.specs.Option.{unwrap_or}
use Rattle.fix_fields.specs.Fields.{FieldValue}
use Rattle.fix_fields.specs.Frames.{FrameValue}
use Rattle.fix_orders.specs.declared.kind.Kind.{Kind}
use Rattle.fix_orders.specs.declared.kind.Kind.TheVariants as kind
use Rattle.fix_orders.specs.declared.message.FieldFault.{FieldFault}
use Rattle.fix_orders.specs.declared.message.Message.{Message}
use Rattle.fix_orders.specs.declared.message.Message.TheVariants as message
use Rattle.fix_orders.specs.Envelopes.{envelope_of}
use Rattle.fix_orders.specs.Faults.{value_of}
use Rattle.fix_orders.specs.Kinds.{kind_of}
use Rattle.fix_orders.specs.Reading.{read_of}
use Rattle.exposure_book.specs.Books.{BookValue}
use Rattle.screen_kit.specs.declared.order.Terms.{Terms}
use Rattle.screen_kit.specs.Screens.{ScreenValue, armed}
use Rattle.risk_journal.specs.declared.acts.Act.{Act}
use Rattle.risk_journal.specs.declared.acts.Act.TheVariants.{Sent, Refused, Noted}
use Rattle.risk_journal.specs.ActLists.{SeenAt}
use Rattle.admit_core.specs.Tapes.{Tape, tape}
pub use Rattle.limit_table.specs.Trees.{LimitsValue}
use Rattle.order_desk.specs.declared.effect.Effect.{Effect}
use Rattle.order_desk.specs.declared.effect.Effect.TheVariants as effect
use Rattle.order_desk.specs.declared.refusal.Refusal.{Refusal}
use Rattle.order_desk.specs.declared.offer.Offer.{Offer}
use Rattle.order_desk.specs.Decisions.{Decision, cancel_decided, new_screened, replace_screened}
use Rattle.order_desk.specs.Decisions.{screens_after}
use Rattle.order_desk.specs.Dropping.{screens_left}
use Rattle.order_desk.specs.Offers.{new_offer, replace_offer}
use Rattle.order_desk.specs.Reported.{Settled, report_settled, reject_settled}
use Rattle.order_desk.specs.Values.{first_book}
use Rattle.session_engine.specs.declared.note.Note.{Note}
use Rattle.session_engine.specs.declared.note.Note.TheVariants as note
use Rattle.session_engine.specs.Answers.{Wording, order_refusal, cancel_refusal, replace_refusal}
use Rattle.session_engine.specs.Answers.{forward_text, reject_text, refused_act, fault_code}
use Rattle.session_engine.specs.Answers.{note_code}
use Rattle.session_engine.specs.Trips.{acts_tripped, firms_after}

-- a session after some frames: what it did and wrote, its book, its screens, how many orders it took
-- up, how many requests it refused as Firm, and the reads that are still to come
pub record SessionValue : Type 0 where
  pub acts : List Act
  pub venue : List (List ℕ)
  pub client : List (List ℕ)
  pub book : BookValue
  pub screens : List ScreenValue
  pub client_id : List ℕ
  pub frames : ℕ
  pub orders : ℕ
  pub firms : ℕ
  pub reads : List SeenAt

-- the client before any request names it
abbrev pub unnamed_client : List ℕ
unnamed_client = codes "CLIENT"

-- the terms that screens are armed with
abbrev pub terms_of : LimitsValue → Terms
terms_of limits = record { repeat = limits.repeat }

-- screens as they stand before the first frame
abbrev pub armed_for : LimitsValue → List ScreenValue → List ScreenValue
armed_for limits screens = map (armed (terms_of limits)) screens

-- a session before its first frame, with screens that are armed
abbrev pub opening : LimitsValue → List ScreenValue → List SeenAt → SessionValue
opening limits screens reads = record {
  acts = [];
  venue = [];
  client = [];
  book = first_book limits;
  screens = screens;
  client_id = unnamed_client;
  frames = 0;
  orders = 0;
  firms = 0;
  reads = reads;
}

-- one more act
abbrev pub with_act : Act → SessionValue → SessionValue
with_act act session = record session { acts = session.acts ++ act ∷ [] }

-- the acts and the reads to come
abbrev pub tape_of : SessionValue → Tape
tape_of session = tape session.acts session.reads

-- the request is sent: it goes on to the venue
abbrev pub after_sending : List FieldValue → SessionValue → SessionValue
after_sending fields session =
    let number = length session.venue + 1 in
    record (with_act (Sent session.frames) session) {
      venue = session.venue ++ forward_text (codes "VENUE") number fields ∷ [];
    }

-- the request is refused: the client is told so
abbrev pub after_refusing : Wording → List FieldValue → Refusal → SessionValue → SessionValue
after_refusing wording fields why session =
    let number = length session.client + 1 in
    record (with_act (refused_act session.frames why) session) {
      client = session.client ++ wording session.client_id number fields why ∷ [];
    }

abbrev pub after_answer : Wording → List FieldValue → Option Refusal → SessionValue → SessionValue
after_answer wording fields None session = after_sending fields session
after_answer wording fields (Some why) session = after_refusing wording fields why session

-- the session with what was decided
abbrev pub decided : Decision → SessionValue → SessionValue
decided decision session = record session {
  acts = decision.tape.acts;
  reads = decision.tape.reads;
  book = decision.book;
}

-- the session with its screens asked about what is offered, if anything is
abbrev pub with_asked : Result Offer Refusal → SessionValue → SessionValue
with_asked offered session = record session { screens = screens_after session.screens offered }

-- a request that was refused as Firm is counted, and where the count reaches the trip number, the
-- halt tree is tripped
abbrev pub after_trip : LimitsValue → Option Refusal → SessionValue → SessionValue
after_trip limits refusal session = record session {
  acts = acts_tripped limits refusal session.firms session.acts;
  firms = firms_after refusal session.firms;
}

-- a request was decided on, and is answered; before the answer the halt tree is tripped, where it is
abbrev pub after_decision : LimitsValue → Wording → List FieldValue → Decision → SessionValue
    → SessionValue
after_decision limits wording fields decision session =
    after_answer wording fields decision.refusal
    (after_trip limits decision.refusal (decided decision session))

-- a frame is noted
abbrev pub after_noting : Note → SessionValue → SessionValue
after_noting what session = with_act (Noted session.frames (note_code what) 0 0) session

-- what became of a report is noted, where it wasn't applied or a value couldn't be lowered
abbrev pub after_effect : Effect → SessionValue → SessionValue
after_effect effect.Applied session = session
after_effect effect.NotLowered session = after_noting note.NotLowered session
after_effect effect.Stray session = after_noting note.Stray session
after_effect effect.Over session = after_noting note.Over session

-- a report goes on to the client
abbrev pub after_passing : List FieldValue → SessionValue → SessionValue
after_passing fields session =
    let number = length session.client + 1 in
    record session {
      client = session.client ++ forward_text session.client_id number fields ∷ [];
    }

-- a report was settled, and goes on
abbrev pub after_settling : List FieldValue → Settled → SessionValue → SessionValue
after_settling fields settled session =
    after_passing fields
    (after_effect settled.effect (record session { acts = settled.acts; book = settled.book }))

-- a request with a field fault is refused: the client gets a Reject
abbrev pub after_rejecting : List FieldValue → FieldFault → SessionValue → SessionValue
after_rejecting fields fault session =
    let number = length session.client + 1 in
    record (with_act (Refused session.frames fault_code fault.tag fault.reason) session) {
      client = session.client ++ reject_text session.client_id number fields fault ∷ [];
    }

-- a report with a field fault is noted: the venue gets a Reject
abbrev pub after_returning : List FieldValue → FieldFault → SessionValue → SessionValue
after_returning fields fault session =
    let number = length session.venue + 1 in
    let act = Noted session.frames (note_code note.FaultyField) fault.tag fault.reason in
    record (with_act act session) {
      venue = session.venue ++ reject_text (codes "VENUE") number fields fault ∷ [];
    }

-- a message that a client sends: an order, a cancel or a replace
abbrev pub is_request : Kind → Bool
is_request kind.NewOrderSingle = true
is_request kind.OrderCancelRequest = true
is_request kind.OrderCancelReplaceRequest = true
is_request kind.ExecutionReport = false
is_request kind.OrderCancelReject = false
is_request kind.Admin = false
is_request kind.Other = false

-- the client: SenderCompID (49) of a request, where it stands once as an id, and else the one
-- before
abbrev pub client_after : Bool → List FieldValue → List ℕ → List ℕ
client_after true fields before = unwrap_or (envelope_of fields).sender before
client_after false fields before = before

-- the session with that client
abbrev pub named : Bool → List FieldValue → SessionValue → SessionValue
named request fields session =
    record session { client_id = client_after request fields session.client_id }

-- a message with a field fault
abbrev pub after_fault : Bool → List FieldValue → FieldFault → SessionValue → SessionValue
after_fault true fields fault session = after_rejecting fields fault session
after_fault false fields fault session = after_returning fields fault session

-- a message without a field fault
abbrev pub after_message : LimitsValue → List FieldValue → Message → SessionValue → SessionValue
after_message limits fields (message.New order) session =
    after_decision limits order_refusal fields
    (new_screened limits order session.screens session.book (tape_of session))
    (with_asked (new_offer limits order session.book) session)
after_message limits fields (message.Cancel request) session =
    after_decision limits cancel_refusal fields
    (cancel_decided request session.book (tape_of session)) session
after_message limits fields (message.Replace request) session =
    after_decision limits replace_refusal fields
    (replace_screened limits request session.screens session.book (tape_of session))
    (with_asked (replace_offer limits request session.book) session)
after_message limits fields (message.Report report) session =
    after_settling fields (report_settled limits report session.book session.acts) session
after_message limits fields (message.CancelReject report) session =
    after_settling fields (reject_settled limits report session.book session.acts) session
after_message limits fields message.Admin session = session
after_message limits fields message.Other session = after_noting note.OtherType session

-- what was read of a sound frame, which is a request or isn't one
abbrev pub after_result : LimitsValue → Bool → List FieldValue → Result Message FieldFault
    → SessionValue → SessionValue
after_result limits request fields (Ok whole) session = after_message limits fields whole session
after_result limits request fields (Err fault) session = after_fault request fields fault session

-- a sound frame is a request
abbrev pub asks : List FieldValue → Bool
asks fields = is_request (kind_of (value_of 35 fields))

-- an order: a message of one of the two types that may ask for more than was posted
abbrev pub is_order : Kind → Bool
is_order kind.NewOrderSingle = true
is_order kind.OrderCancelReplaceRequest = true
is_order _ = false

-- how many orders were taken up, with a message that is an order or isn't one
abbrev pub orders_after : Bool → ℕ → ℕ
orders_after order orders = if order then orders + 1 else orders

-- whether a sound frame of these fields is an order: its type alone says so
abbrev pub asks_more : List FieldValue → Bool
asks_more fields = is_order (kind_of (value_of 35 fields))

-- the number of a sound frame of these fields, where it is an order and so many were before it
abbrev pub number_with : List FieldValue → ℕ → Option ℕ
number_with fields orders = if asks_more fields then Some orders else None

-- how many orders were taken up, with a sound frame of these fields
abbrev pub orders_with : List FieldValue → ℕ → ℕ
orders_with fields orders = orders_after (asks_more fields) orders

-- the screens that are left, with a message that is an order or isn't one: as an order is taken up,
-- its number is how many were before it
abbrev pub screens_without : Bool → LimitsValue → ℕ → List ScreenValue → List ScreenValue
screens_without order limits orders screens =
    if order then screens_left limits orders screens else screens

-- the same with a sound frame of these fields
abbrev pub screens_with : LimitsValue → List FieldValue → ℕ → List ScreenValue → List ScreenValue
screens_with limits fields orders screens =
    screens_without (asks_more fields) limits orders screens

-- a sound frame is taken up: an order is counted, and the screens that the limits drop as it are gone
abbrev pub taken_up : LimitsValue → List FieldValue → SessionValue → SessionValue
taken_up limits fields session = record session {
  orders = orders_with fields session.orders;
  screens = screens_with limits fields session.orders session.screens;
}

-- a sound frame that was taken up
abbrev pub after_sound : LimitsValue → List FieldValue → SessionValue → SessionValue
after_sound limits fields session =
    after_result limits (asks fields) fields (read_of fields) (named (asks fields) fields session)

-- a frame that is counted
abbrev pub with_frame : (SessionValue → SessionValue) → SessionValue → SessionValue
with_frame step session = record (step session) { frames = session.frames + 1 }

-- a frame, before it is counted
abbrev pub after_content : LimitsValue → Option (List FieldValue) → SessionValue → SessionValue
after_content limits None session = after_noting note.NotSound session
after_content limits (Some fields) session =
    after_sound limits fields (taken_up limits fields session)

-- a frame
abbrev pub after_frame : LimitsValue → Option (List FieldValue) → SessionValue → SessionValue
after_frame limits fields session = with_frame (after_content limits fields) session

-- the session after these frames
abbrev pub after_frames : LimitsValue → SessionValue → List FrameValue → SessionValue
after_frames limits session [] = session
after_frames limits session (frame ∷ frames) =
    after_frames limits (after_frame limits frame.fields session) frames
