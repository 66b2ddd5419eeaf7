-- What is known of a message that was read.
use Rattle.std.proofs.Common.{◌≡◌, ℕ, List, [], ◌∷◌, length, refl, sym, ap, ◌∙◌, subst, arith, Bool}
use Rattle.std.proofs.Common.{true, ◌||◌, ◌==◌, Some, None, Ok, nat_lt}
use Rattle.std.specs.List.{list_all}
use Rattle.fix_fields.specs.Fields.{FieldValue}
use Rattle.fix_fields.specs.Numbers.{is_printable}
use Rattle.fix_orders.specs.declared.kind.Kind.{Kind}
use Rattle.fix_orders.specs.declared.kind.Kind.TheVariants as kind
use Rattle.fix_orders.specs.declared.message.Head.{Head}
use Rattle.fix_orders.specs.declared.message.Message.{Message}
use Rattle.fix_orders.specs.declared.message.Message.TheVariants as message
use Rattle.fix_orders.specs.Envelopes.{envelope_of, id_in}
use Rattle.fix_orders.specs.Faults.{values_of, value_of, first_value, first_fault}
use Rattle.fix_orders.specs.Faults.{values_reason, row_reason}
use Rattle.fix_orders.specs.Kinds.{kind_of}
use Rattle.fix_orders.specs.Reading.{read_of, message_of, head_of}
use Rattle.fix_orders.specs.Table.{table, row_at}
use Rattle.fix_orders.proofs.Passed.{unless_ok}
use Rattle.fix_orders.proofs.ReadLemmas.{each_none, one_text}
use Rattle.session_engine.specs.Session.{is_request, asks}
use Rattle.fix_orders.proofs.OrderHeads.{id_text}

-- the kind of a message
abbrev kind_in : Message → Kind
kind_in (message.New order) = kind.NewOrderSingle
kind_in (message.Cancel cancel) = kind.OrderCancelRequest
kind_in (message.Replace replace) = kind.OrderCancelReplaceRequest
kind_in (message.Report report) = kind.ExecutionReport
kind_in (message.CancelReject reject) = kind.OrderCancelReject
kind_in message.Admin = kind.Admin
kind_in message.Other = kind.Other

kind_is : (k : Kind) (fields : List FieldValue) → k ≡ kind_in (message_of k fields)
kind_is kind.NewOrderSingle fields = refl
kind_is kind.OrderCancelRequest fields = refl
kind_is kind.OrderCancelReplaceRequest fields = refl
kind_is kind.ExecutionReport fields = refl
kind_is kind.OrderCancelReject fields = refl
kind_is kind.Admin fields = refl
kind_is kind.Other fields = refl

-- A message that was read is that of the fields' kind, and has no fault.
pub record WasRead (fields : List FieldValue) (whole : Message) : Type 0 where
  pub asks_are : asks fields ≡ is_request (kind_in whole)
  sound : first_fault (kind_in whole) fields table ≡ None
  is : message_of (kind_in whole) fields ≡ whole

pub was_read : (fields : List FieldValue) (whole : Message) → read_of fields ≡ Ok whole
    → WasRead fields whole
was_read fields whole read =
    let k = kind_of (value_of 35 fields) in
    let both = unless_ok (first_fault k fields table) (message_of k fields) whole read in
    let same : k ≡ kind_in whole = kind_is k fields ∙ ap kind_in both.1 in
    record {
      asks_are = ap is_request same;
      sound = subst (λ (own : Kind). first_fault own fields table ≡ None) same both.0;
      is = subst (λ (own : Kind). message_of own fields ≡ whole) same both.1;
    }

one_id : (values : List (List ℕ)) → values_reason true (row_at 1).read_as values ≡ None
    → id_in values ≡ Some (first_value values)
one_id [] e = absurd cc
one_id (v ∷ w ∷ more) e = absurd cc
one_id (v ∷ []) e =
    id_text (list_all is_printable v) (length v == 0 || nat_lt 64 (length v)) v
    (one_text (row_at 1).read_as (v ∷ []) e)

-- What a message that was read, with this head, has of its fields: it is a request or isn't one.
pub record HeadFacts (request : Bool) (fields : List FieldValue) (head : Head) : Type 0 where
  pub asks_are : asks fields ≡ request
  pub time : head.time ≡ value_of 52 fields
  pub sender : (envelope_of fields).sender ≡ Some head.sender

-- the head of a message that has one, ClOrdID (11) of a request and OrigClOrdID (41) of a cancel or a
-- replace
abbrev head_in : Message → Head
head_in (message.New order) = order.head
head_in (message.Cancel cancel) = cancel.head
head_in (message.Replace replace) = replace.head
head_in (message.Report report) = report.head
head_in (message.CancelReject reject) = reject.head
head_in _ = head_of []

abbrev request_id : Message → List ℕ
request_id (message.New order) = order.id
request_id (message.Cancel cancel) = cancel.id
request_id (message.Replace replace) = replace.id
request_id _ = []

abbrev orig_id : Message → List ℕ
orig_id (message.Cancel cancel) = cancel.orig
orig_id (message.Replace replace) = replace.orig
orig_id _ = []

-- a message with a head, in which SenderCompID (49) is an id
pub head_facts : (fields : List FieldValue) (whole : Message) → read_of fields ≡ Ok whole
    → row_reason (kind_in whole) fields (row_at 1)
    ≡ values_reason true (row_at 1).read_as (values_of 49 fields)
    → head_in (message_of (kind_in whole) fields) ≡ head_of fields
    → HeadFacts (is_request (kind_in whole)) fields (head_in whole)
head_facts fields whole read needed head_is =
    let own = was_read fields whole read in
    let is : head_of fields ≡ head_in whole = sym head_is ∙ ap head_in own.is in
    record {
      asks_are = own.asks_are;
      time = ap (λ (head : Head). head.time) (sym is);
      sender = one_id (values_of 49 fields)
          (sym needed
          ∙ each_none (kind_in whole) fields table 1 (row_at 16) own.sound (omega arith))
          ∙ ap (λ (head : Head). Some head.sender) is;
    }

-- the ids of a request are those of the fields
pub id_read : (fields : List FieldValue) (whole : Message) → read_of fields ≡ Ok whole
    → request_id whole ≡ request_id (message_of (kind_in whole) fields)
id_read fields whole read = ap request_id (sym (was_read fields whole read).is)

pub orig_read : (fields : List FieldValue) (whole : Message) → read_of fields ≡ Ok whole
    → orig_id whole ≡ orig_id (message_of (kind_in whole) fields)
orig_read fields whole read = ap orig_id (sym (was_read fields whole read).is)
