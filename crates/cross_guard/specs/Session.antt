-- What a session does with each frame, as a function of the frames and of the reads.
use Rattle.std.specs.Prelude.{ℕ, ◌+◌, List, [], ◌∷◌, ◌++◌, length, codes, Option, Some, None}
use Rattle.std.specs.Prelude.{Bool, true, false, Result, Ok, Err, nat_lt, nat_le, ◌==◌}
use Rattle.std.specs.Prelude.{slice_get, if◌then◌else◌}
use Rattle.std.specs.List.{position}
use Rattle.std.specs.Str.{bytes_eq}
use Rattle.fix_fields.specs.Fields.{FieldValue}
use Rattle.fix_fields.specs.Frames.{FrameValue}
use Rattle.fix_fields.specs.Messages.{message_text}
use Rattle.fix_orders.specs.declared.message.FieldFault.{FieldFault}
use Rattle.fix_orders.specs.declared.message.Message.{Message}
use Rattle.fix_orders.specs.declared.message.Message.TheVariants as message
use Rattle.fix_orders.specs.declared.message.NewOrder.{NewOrder}
use Rattle.fix_orders.specs.declared.message.Replace.{Replace}
use Rattle.fix_orders.specs.declared.message.Report.{Report}
use Rattle.fix_orders.specs.declared.message.Stamp.{Stamp}
use Rattle.fix_orders.specs.Faults.{value_of}
use Rattle.fix_orders.specs.Reading.{read_of}
use Rattle.fix_orders.specs.Writing.{order_reject_fields, cancel_reject_fields}
use Rattle.limit_table.specs.declared.kind.SymbolRow.{SymbolRow}
use Rattle.limit_table.specs.Places.{symbol_names}
use Rattle.risk_journal.specs.declared.acts.Act.{Act}
use Rattle.risk_journal.specs.declared.acts.Act.TheVariants.{Sent, Refused}
use Rattle.risk_journal.specs.ActLists.{SeenAt, posts_in, last_post}
use Rattle.frame_run.specs.Frames.{text_of as frame_text}
use Rattle.admit_core.specs.Tapes.{Tape, tape, next_read, with_post, after_posting, after_reading}
use Rattle.limit_table.specs.Trees.{LimitsValue}
use Rattle.cross_guard.specs.declared.guarding.CrossVerdict.{CrossVerdict}
use Rattle.cross_guard.specs.declared.guarding.CrossVerdict.TheVariants as verdict
use Rattle.cross_guard.specs.Halves.{cross_join, is_clear}
use Rattle.cross_guard.specs.Levels.{value_of_order}
use Rattle.cross_guard.specs.Resting.{RestingValue, value_in, after_new, after_replace}
use Rattle.cross_guard.specs.Resting.{after_cancel, after_report, after_reject, symbol_with}

-- a session after some frames: what it did, the frames that it passed and the messages to the client,
-- its resting orders, how many frames it took, and the reads that are still to come
pub record CrossSession : Type 0 where
  pub acts : List Act
  pub passed : List (List ℕ)
  pub client : List (List ℕ)
  pub orders : List RestingValue
  pub frames : ℕ
  pub reads : List SeenAt

abbrev pub opening : List SeenAt → CrossSession
opening reads = record {
  acts = [];
  passed = [];
  client = [];
  orders = [];
  frames = 0;
  reads = reads;
}

-- what a guard came to, and the acts by then
pub record Guarded : Type 0 where
  pub verdict : CrossVerdict
  pub tape : Tape

-- fewer than two posts are left in the tree
abbrev pub is_short : LimitsValue → List Act → ℕ → Bool
is_short limits acts tree = nat_lt limits.quota (posts_in tree acts + 2)

-- the root that was read decides; where it isn't clear the old value is posted again
abbrev pub guarded_by : Bool → ℕ → ℕ → Tape → Guarded
guarded_by true tree old after = record { verdict = verdict.Sent; tape = after }
guarded_by false tree old after =
    record { verdict = verdict.Cross; tape = after_posting tree old after }

-- the last post and the order's value are posted as one, and the root is read
abbrev pub guarding : LimitsValue → ℕ → ℕ → Tape → Guarded
guarding limits tree value before =
    let old = last_post tree before.acts in
    if is_short limits before.acts tree
    then record { verdict = verdict.Quota; tape = before }
    else guarded_by (is_clear (next_read before.reads).value) tree old
    (after_reading tree (after_posting tree (cross_join old value) before))

-- a frame is passed as it is
abbrev pub after_passing : List ℕ → CrossSession → CrossSession
after_passing text session = record session { passed = session.passed ++ text ∷ [] }

-- the number of a refusal in the journal, and its Text (58)
abbrev pub code_of : CrossVerdict → ℕ
code_of verdict.Sent = 0
code_of verdict.Cross = 17
code_of verdict.Quota = 5

abbrev pub text_of : CrossVerdict → List ℕ
text_of verdict.Sent = []
text_of verdict.Cross = codes "CROSS"
text_of verdict.Quota = codes "QUOTA"

-- the message that refuses a request, by its number, the request's fields and the verdict
abbrev pub Wording : Type 0
Wording = ℕ → List FieldValue → CrossVerdict → List ℕ

-- the answer to a request goes to its sender, with the time that the request has
abbrev pub stamp_for : ℕ → List FieldValue → Stamp
stamp_for number fields =
    record { target = value_of 49 fields; seq = number; time = value_of 52 fields }

abbrev pub order_refusal : Wording
order_refusal number fields why =
    message_text
    (order_reject_fields fields (value_of 11 fields) (stamp_for number fields) 0 (text_of why))

abbrev pub replace_refusal : Wording
replace_refusal number fields why =
    message_text (cancel_reject_fields (value_of 11 fields) (value_of 41 fields)
    (stamp_for number fields) 2 2 (text_of why))

abbrev pub after_refusing : Wording → List FieldValue → CrossVerdict → CrossSession → CrossSession
after_refusing wording fields why session = record session {
  acts = session.acts ++ Refused session.frames (code_of why) 0 0 ∷ [];
  client = session.client ++ wording (length session.client + 1) fields why ∷ [];
}

abbrev pub after_sending : List ℕ → List RestingValue → CrossSession → CrossSession
after_sending text orders session = record (after_passing text session) {
  acts = session.acts ++ Sent session.frames ∷ [];
  orders = orders;
}

abbrev pub after_verdict : CrossVerdict → Wording → List ℕ → List FieldValue → List RestingValue
    → CrossSession → CrossSession
after_verdict verdict.Sent wording text fields orders session = after_sending text orders session
after_verdict verdict.Cross wording text fields orders session =
    after_refusing wording fields verdict.Cross session
after_verdict verdict.Quota wording text fields orders session =
    after_refusing wording fields verdict.Quota session

abbrev pub told : Tape → CrossSession → CrossSession
told tape session = record session { acts = tape.acts; reads = tape.reads }

abbrev pub after_guarding : Guarded → Wording → List ℕ → List FieldValue → List RestingValue
    → CrossSession → CrossSession
after_guarding guarded wording text fields orders session =
    after_verdict guarded.verdict wording text fields orders (told guarded.tape session)

-- where the symbol of this name stands among the limits' rows, from 0: its tree
abbrev pub symbol_place : List ℕ → LimitsValue → Option ℕ
symbol_place name limits = position (λ own. bytes_eq own name) (symbol_names limits.symbols)

-- an order of the symbol at a place, or of none
abbrev pub after_order : LimitsValue → List ℕ → List FieldValue → NewOrder → CrossSession → ℕ
    → Option SymbolRow → CrossSession
after_order limits text fields order session place None = after_passing text session
after_order limits text fields order session place (Some row) =
    let value = value_of_order row order.side order.kind order.price in
    after_guarding (guarding limits place value (tape session.acts session.reads)) order_refusal
    text fields (after_new place order value session.orders) session

abbrev pub after_change : LimitsValue → List ℕ → List FieldValue → Replace → CrossSession → ℕ
    → Option SymbolRow → CrossSession
after_change limits text fields request session place None = after_passing text session
after_change limits text fields request session place (Some row) =
    let value = value_of_order row request.side request.kind request.price in
    after_guarding (guarding limits place value (tape session.acts session.reads)) replace_refusal
    text fields (after_replace place request value session.orders) session

-- the symbol's row at a place among the limits' rows, where the name stands
abbrev pub at_place : {A : Type 0} → Option ℕ → (ℕ → A) → A → A
at_place None found none = none
at_place (Some place) found none = found place

-- the value of the orders in a symbol is posted where it differs from the last post and a post is left
abbrev pub with_value : LimitsValue → ℕ → List RestingValue → List Act → List Act
with_value limits symbol orders acts =
    if value_in symbol orders == last_post symbol acts then acts
    else (if nat_le limits.quota (posts_in symbol acts) then acts
    else with_post symbol (value_in symbol orders) acts)

-- the orders after a report with this id, which is passed
abbrev pub after_settling : LimitsValue → List ℕ → List ℕ → List RestingValue → CrossSession
    → CrossSession
after_settling limits text id orders session =
    at_place (symbol_with id session.orders)
    (λ symbol. record (after_passing text session) {
      acts = with_value limits symbol orders session.acts;
      orders = orders;
    }) (after_passing text session)

abbrev pub after_reporting : LimitsValue → List ℕ → Report → Option (List ℕ) → CrossSession
    → CrossSession
after_reporting limits text report None session = after_passing text session
after_reporting limits text report (Some id) session =
    after_settling limits text id (after_report (Some id) report.exec session.orders) session

-- a message without a field fault
abbrev pub after_message : LimitsValue → List ℕ → List FieldValue → Message → CrossSession
    → CrossSession
after_message limits text fields (message.New order) session =
    at_place (symbol_place order.symbol limits)
    (λ place. after_order limits text fields order session place (slice_get limits.symbols place))
    (after_passing text session)
after_message limits text fields (message.Replace request) session =
    at_place (symbol_place request.symbol limits)
    (λ place. after_change limits text fields request session place
    (slice_get limits.symbols place))
    (after_passing text session)
after_message limits text fields (message.Cancel request) session =
    record (after_passing text session) { orders = after_cancel request session.orders }
after_message limits text fields (message.Report report) session =
    after_reporting limits text report report.id session
after_message limits text fields (message.CancelReject report) session =
    after_settling limits text report.id (after_reject report.id session.orders) session
after_message limits text fields message.Admin session = after_passing text session
after_message limits text fields message.Other session = after_passing text session

-- a message with a field fault is passed too
abbrev pub after_result : LimitsValue → List ℕ → List FieldValue → Result Message FieldFault
    → CrossSession → CrossSession
after_result limits text fields (Err fault) session = after_passing text session
after_result limits text fields (Ok whole) session = after_message limits text fields whole session

-- a frame that isn't sound is passed too
abbrev pub after_content : LimitsValue → List ℕ → Option (List FieldValue) → CrossSession
    → CrossSession
after_content limits text None session = after_passing text session
after_content limits text (Some fields) session =
    after_result limits text fields (read_of fields) session

-- a frame of this text
abbrev pub after_frame : LimitsValue → List ℕ → Option (List FieldValue) → CrossSession
    → CrossSession
after_frame limits text fields session =
    record (after_content limits text fields session) { frames = session.frames + 1 }

-- the session after these frames of an input
abbrev pub after_frames : LimitsValue → List ℕ → CrossSession → List FrameValue → CrossSession
after_frames limits input session [] = session
after_frames limits input session (frame ∷ frames) =
    after_frames limits input (after_frame limits (frame_text input frame) frame.fields session) frames
