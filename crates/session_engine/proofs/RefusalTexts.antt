-- What was written refuses the request.
use Rattle.std.proofs.Common.{◌≡◌, ℕ, List, Option}
use Rattle.std.specs.Io.KnownBytes.{Appends}
use Rattle.fix_fields.specs.Fields.{FieldValue}
use Rattle.fix_fields.specs.Messages.{message_text}
use Rattle.fix_orders.specs.declared.message.Stamp.{Stamp}
use Rattle.fix_orders.specs.Faults.{value_of}
use Rattle.fix_orders.specs.Writing.{order_reject_fields, cancel_reject_fields}
use Rattle.order_desk.specs.declared.refusal.Refusal.{Refusal}
use Rattle.session_engine.specs.Answers.{order_refusal, request_refusal}
use Rattle.session_engine.specs.Answers.{order_reason_of, request_reason_of, text_of}

module _ (held whole : Option (List ℕ)) (fields : List FieldValue) (stamp : Stamp)
    (time_is : stamp.time ≡ value_of 52 fields) where
  -- the refusal of an order by its parts
  pub order_refused : (id : List ℕ) (reason : ℕ) (words : List ℕ) (why : Refusal)
      → id ≡ value_of 11 fields → reason ≡ order_reason_of why → words ≡ text_of why
      → Appends held whole (message_text (order_reject_fields fields id stamp reason words))
      → Appends held whole (order_refusal stamp.target stamp.seq fields why)
  order_refused id reason words why id_is reason_is words_is appends =
      rw (← time_is, ← reason_is, ← words_is, ← id_is) appends

  -- the refusal of a cancel or a replace by its parts
  pub request_refused : (answers : ℕ) (id orig : List ℕ) (reason : ℕ) (words : List ℕ)
      (why : Refusal) → id ≡ value_of 11 fields → orig ≡ value_of 41 fields
      → reason ≡ request_reason_of why → words ≡ text_of why
      → Appends held whole
      (message_text (cancel_reject_fields id orig stamp answers reason words))
      → Appends held whole (request_refusal answers stamp.target stamp.seq fields why)
  request_refused answers id orig reason words why id_is orig_is reason_is words_is appends =
      rw (← time_is, ← reason_is, ← words_is, ← id_is, ← orig_is) appends
