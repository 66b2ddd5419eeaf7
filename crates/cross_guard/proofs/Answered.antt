-- What was told and given is the answer to a frame.
use Rattle.std.proofs.Common.{◌≡◌, ℕ, ◌+◌, List, [], ◌∷◌, ◌++◌, sym, ap, ◌∙◌, subst}
use Rattle.std.specs.Prelude.{Option, Ok}
use Rattle.std.specs.Io.KnownBytes.{Appends}
use Rattle.fix_fields.specs.Fields.{FieldValue}
use Rattle.fix_fields.specs.Messages.{message_text}
use Rattle.fix_fields.specs.Places.{HasFieldsIn}
use Rattle.fix_orders.specs.declared.message.Message.TheVariants as message
use Rattle.fix_orders.specs.declared.message.NewOrder.{NewOrder}
use Rattle.fix_orders.specs.declared.message.Replace.{Replace}
use Rattle.fix_orders.specs.declared.message.Stamp.{Stamp}
use Rattle.fix_orders.specs.Reading.{read_of}
use Rattle.fix_orders.specs.Writing.{cancel_reject_fields, order_reject_fields}
use Rattle.cross_guard.proofs.MessageKinds.{new_is, replace_is}
use Rattle.risk_journal.specs.declared.acts.Act.TheVariants.{Sent}
use Rattle.frame_run.specs.Frames.{FrameIn}
use Rattle.frame_run.specs.Sinks.{SinkValue}
use Rattle.cross_guard.specs.declared.guarding.CrossVerdict.{CrossVerdict}
use Rattle.cross_guard.specs.Answering.{PassesOn, Refuses, Sends, TellsRefusal, stamp_to}
use Rattle.cross_guard.specs.Crossing.{Crossing, GivesNext}
use Rattle.cross_guard.specs.Session.{Wording, order_refusal, replace_refusal, text_of}
use Rattle.cross_guard.specs.Told.{ToldValue}

-- a frame that was told as sent and passed on was sent
pub sends_by : {H : Type 0} (text : List ℕ) (given failed : Type 0) (before : Crossing H)
    (told : ToldValue H) (now : Crossing H)
    → told.acts ≡ before.told.acts ++ Sent before.frames ∷ []
    → PassesOn text given failed (record before { told = told }) now
    → Sends text given failed before now
sends_by {H} text given failed before told now acts passes = record {
  pass = passes.pass;
  would = passes.would;
  gives = passes.gives;
  acts = ap (λ (r : Crossing H). r.told.acts) passes.others ∙ acts;
  others = passes.others ∙ ap (λ (t : ToldValue H). let next : Crossing H = record before {
    told = t;
    frames = before.frames + 1;
    pass = now.pass;
  } in next) (sym (ap (λ (r : Crossing H). r.told) passes.others));
}

-- a frame that was told as refused, and whose refusal was given, was refused
pub refuses_by : {H : Type 0} (wording : Wording) (sound : FrameIn) (why : CrossVerdict)
    (given failed : Type 0) (before mid now : Crossing H) (client : Option (List ℕ))
    → TellsRefusal why before mid
    → ((fields : List FieldValue) → HasFieldsIn sound.bytes sound.frame fields
    → Appends mid.client.held client (wording (before.refused + 1) fields why))
    → GivesNext given failed mid.client now.client client → now ≡ record mid { client = now.client }
    → Refuses wording sound why given failed before now
refuses_by {H} wording sound why given failed before mid now client tells would gives is =
    let same : mid.client ≡ before.client = ap (λ (r : Crossing H). r.client) tells.others in
    record {
      client = client;
      would = λ fields has. subst (λ (s : SinkValue). Appends s.held client
          (wording (before.refused + 1) fields why)) same (would fields has);
      gives = subst (λ (s : SinkValue). GivesNext given failed s now.client client) same gives;
      acts = ap (λ (r : Crossing H). r.told.acts) is ∙ tells.acts;
      others = is ∙ ap (λ (r : Crossing H). let next : Crossing H = record r {
        client = now.client;
      } in next) tells.others ∙ ap (λ (t : ToldValue H). let next : Crossing H = record before {
        told = t;
        frames = before.frames + 1;
        refused = before.refused + 1;
        client = now.client;
      } in next) (sym (ap (λ (r : Crossing H). r.told) is));
    }

-- the answer to an order by its parts
pub order_refusal_is : (fields : List FieldValue) (order : NewOrder) (number reason : ℕ)
    (words : List ℕ) (stamp : Stamp) (why : CrossVerdict)
    → read_of fields ≡ Ok (message.New order) → stamp ≡ stamp_to order.head number → reason ≡ 0
    → words ≡ text_of why
    → message_text (order_reject_fields fields order.id stamp reason words)
    ≡ order_refusal number fields why
order_refusal_is fields order number reason words stamp why read stamp_is reason_is words_is =
    ap (λ (s : Stamp). message_text (order_reject_fields fields order.id s reason words)) stamp_is
    ∙ ap (λ n. message_text (order_reject_fields fields order.id (stamp_to order.head number) n words))
    reason_is
    ∙ ap (λ w. message_text (order_reject_fields fields order.id (stamp_to order.head number) 0 w))
    words_is
    ∙ ap (λ (o : NewOrder). message_text (order_reject_fields fields o.id (stamp_to o.head number) 0
    (text_of why))) (sym (new_is fields order read))

-- and to a replace
pub replace_refusal_is : (fields : List FieldValue) (request : Replace) (number answers reason : ℕ)
    (words : List ℕ) (stamp : Stamp) (why : CrossVerdict)
    → read_of fields ≡ Ok (message.Replace request) → stamp ≡ stamp_to request.head number
    → answers ≡ 2 → reason ≡ 2 → words ≡ text_of why
    → message_text (cancel_reject_fields request.id request.orig stamp answers reason words)
    ≡ replace_refusal number fields why
replace_refusal_is fields request number answers reason words stamp why read stamp_is answers_is
    reason_is words_is =
    ap (λ (s : Stamp). message_text (cancel_reject_fields request.id request.orig s answers reason words))
    stamp_is
    ∙ ap (λ n. message_text (cancel_reject_fields request.id request.orig (stamp_to request.head number) n
    reason words)) answers_is
    ∙ ap (λ n. message_text (cancel_reject_fields request.id request.orig (stamp_to request.head number) 2
    n words)) reason_is
    ∙ ap (λ w. message_text (cancel_reject_fields request.id request.orig (stamp_to request.head number) 2
    2 w)) words_is
    ∙ ap (λ (o : Replace). message_text (cancel_reject_fields o.id o.orig (stamp_to o.head number) 2 2
    (text_of why))) (sym (replace_is fields request read))
