-- After each frame what is posted backs the orders of the book, and it is admitted; and the halt tree was
-- tripped once where as many requests as the trip number were refused as Firm, and never else.
use Rattle.std.proofs.Common.{◌≡◌, ℕ, List, [], ◌∷◌, ◌++◌, ◌∙◌}
use Rattle.std.specs.Prelude.{Bool, true, false, Option, Some, None, Result, Ok, Err}
use Rattle.exposure_book.specs.Books.{BookValue}
use Rattle.fix_fields.specs.Fields.{FieldValue}
use Rattle.fix_fields.specs.Frames.{FrameValue}
use Rattle.fix_orders.specs.declared.message.FieldFault.{FieldFault}
use Rattle.fix_orders.specs.declared.message.Message.{Message}
use Rattle.fix_orders.specs.declared.message.Message.TheVariants as message
use Rattle.fix_orders.specs.Reading.{read_of}
use Rattle.risk_journal.specs.declared.acts.Act.{Act}
use Rattle.risk_journal.specs.declared.acts.Act.TheVariants.{Sent, Refused, Noted}
use Rattle.risk_journal.specs.ActLists.{SeenAt, posts_in}
use Rattle.screen_kit.specs.Screens.{ScreenValue}
use Rattle.order_desk.specs.declared.effect.Effect.{Effect}
use Rattle.order_desk.specs.declared.effect.Effect.TheVariants as effect
use Rattle.order_desk.specs.declared.refusal.Refusal.{Refusal}
use Rattle.limit_table.specs.Trees.{halt_tree}
use Rattle.admit_core.specs.Tapes.{IsNoCall}
use Rattle.admit_core.proofs.Noted.{noted_keeps}
use Rattle.order_desk.specs.Backing.{Covers}
use Rattle.order_desk.specs.Halting.{KeepsHalt}
use Rattle.order_desk.specs.Decisions.{Decision, new_screened, cancel_decided, replace_screened}
use Rattle.order_desk.specs.Offers.{new_offer, replace_offer}
use Rattle.order_desk.specs.Reported.{Settled, report_settled, reject_settled}
use Rattle.order_desk.proofs.Covers.{first_covers, covers_noted}
use Rattle.order_desk.proofs.DecidedCovers.{new_covers, cancel_covers, replace_covers}
use Rattle.order_desk.proofs.HaltKept.{new_keeps, cancel_keeps, replace_keeps, report_keeps}
use Rattle.order_desk.proofs.HaltKept.{reject_keeps}
use Rattle.order_desk.proofs.ReportedCovers.{report_covers, reject_covers}
use Rattle.session_engine.specs.declared.note.Note.{Note}
use Rattle.session_engine.specs.declared.note.Note.TheVariants as note
use Rattle.session_engine.specs.Admitted.{CoversOrders, TripsOnce}
use Rattle.session_engine.specs.Answers.{Wording, order_refusal, cancel_refusal, replace_refusal}
use Rattle.session_engine.specs.Answers.{refused_act, fault_code, note_code}
use Rattle.session_engine.specs.Session.{LimitsValue, SessionValue, opening, tape_of, after_answer}
use Rattle.session_engine.specs.Session.{decided, after_trip, after_decision, after_noting}
use Rattle.session_engine.specs.Session.{after_effect, after_settling, after_fault, named, asks}
use Rattle.session_engine.specs.Session.{after_message, after_result, after_content, after_frame}
use Rattle.session_engine.specs.Session.{taken_up, after_frames, with_asked}
use Rattle.session_engine.specs.Trips.{trips_by}
use Rattle.session_engine.proofs.TripLemmas.{covers_refused, no_trip, tripped_posts}

-- the orders of the book are covered, and the halt tree was tripped as often as it is to be
record AreRight (limits : LimitsValue) (acts : List Act) (book : BookValue) (firms : ℕ)
    : Type 0 where
  covers : Covers limits acts book
  trips : posts_in (halt_tree limits) acts ≡ trips_by limits.trip firms

abbrev IsRight : LimitsValue → SessionValue → Type 0
IsRight limits session = AreRight limits session.acts session.book session.firms

module _ (limits : LimitsValue) where
  -- an act that is no call
  told : (session : SessionValue) (act : Act) → IsNoCall act → IsRight limits session
      → IsRight limits (record session { acts = session.acts ++ act ∷ [] })
  told session act none own = record {
    covers = covers_noted limits session.acts session.book act none own.covers;
    trips = (noted_keeps (halt_tree limits) session.acts act none).posts ∙ own.trips;
  }

  answered : (wording : Wording) (fields : List FieldValue) (answer : Option Refusal)
      (session : SessionValue) → IsRight limits session
      → IsRight limits (after_answer wording fields answer session)
  answered wording fields None session own = told session (Sent session.frames) tt own
  answered wording fields (Some why) session own =
      told session (refused_act session.frames why) tt own

  right_decided : (wording : Wording) (fields : List FieldValue) (decision : Decision)
      (session : SessionValue) → Covers limits decision.tape.acts decision.book
      → KeepsHalt limits session.acts decision.tape.acts → IsRight limits session
      → IsRight limits (after_decision limits wording fields decision session)
  right_decided wording fields decision session covers keeps own =
      answered wording fields decision.refusal
      (after_trip limits decision.refusal (decided decision session)) (record {
        covers = covers_refused limits session.firms decision.tape.acts decision.refusal
            decision.book covers;
        trips = tripped_posts limits session.firms decision.tape.acts decision.refusal
            (keeps ∙ own.trips);
      })

  noted : (what : Note) (session : SessionValue) → IsRight limits session
      → IsRight limits (after_noting what session)
  noted what session own = told session (Noted session.frames (note_code what) 0 0) tt own

  right_effect : (what : Effect) (session : SessionValue) → IsRight limits session
      → IsRight limits (after_effect what session)
  right_effect effect.Applied session own = own
  right_effect effect.NotLowered session own = noted note.NotLowered session own
  right_effect effect.Stray session own = noted note.Stray session own
  right_effect effect.Over session own = noted note.Over session own

  right_settled : (fields : List FieldValue) (settled : Settled) (session : SessionValue)
      → Covers limits settled.acts settled.book → KeepsHalt limits session.acts settled.acts
      → IsRight limits session → IsRight limits (after_settling fields settled session)
  right_settled fields settled session covers keeps own =
      right_effect settled.effect (record session { acts = settled.acts; book = settled.book })
      (record { covers = covers; trips = keeps ∙ own.trips })

  right_fault : (request : Bool) (fields : List FieldValue) (fault : FieldFault)
      (session : SessionValue) → IsRight limits session
      → IsRight limits (after_fault request fields fault session)
  right_fault true fields fault session own =
      told session (Refused session.frames fault_code fault.tag fault.reason) tt own
  right_fault false fields fault session own =
      told session (Noted session.frames (note_code note.FaultyField) fault.tag fault.reason) tt own

  right_message : (fields : List FieldValue) (whole : Message) (session : SessionValue)
      → IsRight limits session → IsRight limits (after_message limits fields whole session)
  right_message fields (message.New order) session own =
      right_decided order_refusal fields
      (new_screened limits order session.screens session.book (tape_of session))
      (with_asked (new_offer limits order session.book) session)
      (new_covers limits order session.screens session.book (tape_of session) own.covers)
      (new_keeps limits order session.screens session.book (tape_of session)) own
  right_message fields (message.Cancel request) session own =
      right_decided cancel_refusal fields
      (cancel_decided request session.book (tape_of session)) session
      (cancel_covers limits request session.book (tape_of session) own.covers)
      (cancel_keeps limits request session.book (tape_of session)) own
  right_message fields (message.Replace request) session own =
      right_decided replace_refusal fields
      (replace_screened limits request session.screens session.book (tape_of session))
      (with_asked (replace_offer limits request session.book) session)
      (replace_covers limits request session.screens session.book (tape_of session) own.covers)
      (replace_keeps limits request session.screens session.book (tape_of session) own.covers) own
  right_message fields (message.Report report) session own =
      right_settled fields (report_settled limits report session.book session.acts) session
      (report_covers limits session.acts session.book own.covers report)
      (report_keeps limits session.acts session.book own.covers report) own
  right_message fields (message.CancelReject report) session own =
      right_settled fields (reject_settled limits report session.book session.acts) session
      (reject_covers limits session.acts session.book own.covers report)
      (reject_keeps limits session.acts session.book own.covers report) own
  right_message fields message.Admin session own = own
  right_message fields message.Other session own = noted note.OtherType session own

  right_result : (request : Bool) (fields : List FieldValue) (read : Result Message FieldFault)
      (session : SessionValue) → IsRight limits session
      → IsRight limits (after_result limits request fields read session)
  right_result request fields (Ok whole) session own = right_message fields whole session own
  right_result request fields (Err fault) session own = right_fault request fields fault session own

  right_content : (fields : Option (List FieldValue)) (session : SessionValue)
      → IsRight limits session → IsRight limits (after_content limits fields session)
  right_content None session own = noted note.NotSound session own
  right_content (Some fields) session own =
      right_result (asks fields) fields (read_of fields)
      (named (asks fields) fields (taken_up limits fields session)) own

  right_frames : (frames : List FrameValue) (session : SessionValue) → IsRight limits session
      → IsRight limits (after_frames limits session frames)
  right_frames [] session own = own
  right_frames (frame ∷ frames) session own =
      right_frames frames (after_frame limits frame.fields session)
      (right_content frame.fields session own)

  module _ (screens : List ScreenValue) (reads : List SeenAt) (frames : List FrameValue) where
    right : IsRight limits (after_frames limits (opening limits screens reads) frames)
    right =
        right_frames frames (opening limits screens reads)
        (record { covers = first_covers limits; trips = no_trip limits.trip })

    pub covers_orders :
        CoversOrders limits (after_frames limits (opening limits screens reads) frames)
    covers_orders = right.covers

    pub trips_once : TripsOnce limits (after_frames limits (opening limits screens reads) frames)
    trips_once = right.trips
