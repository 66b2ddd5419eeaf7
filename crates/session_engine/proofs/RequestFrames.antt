-- A request that was decided on and answered.
use Rattle.std.proofs.Common.{◌≡◌, ℕ, ◌+◌, List, [], ◌∷◌, ◌++◌, length, refl, sym, ap, ◌∙◌, subst}
use Rattle.std.proofs.Common.{true, codes, Option, Some, None, Ok, unwrap_or}
use Rattle.std.specs.Io.KnownBytes.{Appends}
use Rattle.std.proofs.lemmas.List.{append-nil}
use Rattle.exposure_book.specs.Books.{BookValue}
use Rattle.fix_fields.specs.Fields.{FieldValue}
use Rattle.fix_orders.specs.declared.message.Cancel.{Cancel}
use Rattle.fix_orders.specs.declared.message.Head.{Head}
use Rattle.fix_orders.specs.declared.message.Message.{Message}
use Rattle.fix_orders.specs.declared.message.Message.TheVariants as message
use Rattle.fix_orders.specs.declared.message.NewOrder.{NewOrder}
use Rattle.fix_orders.specs.declared.message.Replace.{Replace}
use Rattle.fix_orders.specs.Reading.{read_of}
use Rattle.admit_core.specs.Tapes.{Tape, tape}
use Rattle.order_desk.specs.declared.refusal.Refusal.{Refusal}
use Rattle.order_desk.specs.Decisions.{Decision, Decides, new_screened, cancel_decided}
use Rattle.order_desk.specs.Decisions.{replace_screened, screens_after}
use Rattle.order_desk.specs.Desks.{DeskValue}
use Rattle.order_desk.specs.Halting.{KeepsHalt}
use Rattle.order_desk.specs.Offers.{new_offer, replace_offer}
use Rattle.screen_kit.specs.Screens.{ScreenValue}
use Rattle.risk_journal.specs.declared.acts.Act.{Act}
use Rattle.risk_journal.specs.ActLists.{SeenAt, reads_of}
use Rattle.session_engine.specs.declared.counts.Counts.{Counts}
use Rattle.session_engine.specs.Answers.{Wording, forward_text, order_refusal, cancel_refusal}
use Rattle.session_engine.specs.Answers.{replace_refusal}
use Rattle.session_engine.specs.Session.{LimitsValue, SessionValue, after_sound, after_message}
use Rattle.session_engine.specs.Session.{after_decision, client_after, named, tape_of, with_frame}
use Rattle.session_engine.specs.Reaches.{with_reads}
use Rattle.session_engine.specs.Taken.{Kept, StandsAs, Takes, CountsTrips}
use Rattle.session_engine.specs.Taken.{answer_act, counts_answered, counts_decided}
use Rattle.session_engine.specs.Trips.{acts_tripped}
use Rattle.session_engine.proofs.MessageFacts.{HeadFacts, head_facts}
use Rattle.session_engine.proofs.QuietActs.{reads_tripped, answer_unread, reads_of-quiet}
use Rattle.session_engine.proofs.TakenLemmas.{frame_by, counted, takes_next, appends_nothing}

-- A request: its message and head, the message that refuses it, what is decided on it, and the screens
-- after they were asked about it.
pub record Asked : Type 0 where
  pub message : Message
  pub head : Head
  pub wording : Wording
  pub decide : LimitsValue → List ScreenValue → BookValue → Tape → Decision
  pub screens : LimitsValue → List ScreenValue → BookValue → List ScreenValue
  pub facts : (fields : List FieldValue) → read_of fields ≡ Ok message → HeadFacts true fields head
  pub by : (limits : LimitsValue) (fields : List FieldValue) (session : SessionValue)
      → after_message limits fields message session
      ≡ after_decision limits wording fields
      (decide limits session.screens session.book (tape_of session))
      (record session { screens = screens limits session.screens session.book })

abbrev pub order_asked : NewOrder → Asked
order_asked order = record {
  message = message.New order;
  head = order.head;
  wording = order_refusal;
  decide = λ limits. new_screened limits order;
  screens = λ limits screens book. screens_after screens (new_offer limits order book);
  facts = λ fields read. head_facts fields (message.New order) read refl refl;
  by = λ limits fields session. refl;
}

abbrev pub cancel_asked : Cancel → Asked
cancel_asked cancel = record {
  message = message.Cancel cancel;
  head = cancel.head;
  wording = cancel_refusal;
  decide = λ limits screens. cancel_decided cancel;
  screens = λ limits screens book. screens;
  facts = λ fields read. head_facts fields (message.Cancel cancel) read refl refl;
  by = λ limits fields session. refl;
}

abbrev pub replace_asked : Replace → Asked
replace_asked replace = record {
  message = message.Replace replace;
  head = replace.head;
  wording = replace_refusal;
  decide = λ limits. replace_screened limits replace;
  screens = λ limits screens book. screens_after screens (replace_offer limits replace book);
  facts = λ fields read. head_facts fields (message.Replace replace) read refl refl;
  by = λ limits fields session. refl;
}

-- a cancel is decided on with no post and no read
pub cancel_decides : {H M K : Type 0} (cancel : Cancel) (before after : DeskValue H M K)
    (refusal : Option Refusal) → after ≡ record before { book = after.book }
    → ((own : Tape) → cancel_decided cancel before.book.value own
    ≡ record { refusal = refusal; tape = own; book = after.book.value })
    → Decides (cancel_decided cancel) before.hands.acts after.hands.acts before.book.value
    after.book.value refusal
cancel_decides {H} {M} {K} cancel before after refusal same decided =
    let D : List Act → Type 0 = λ acts. Decides (cancel_decided cancel) before.hands.acts acts
    before.book.value after.book.value refusal in
    subst D (sym (ap (λ (d : DeskValue H M K). d.hands.acts) same)) (record {
      seen = [];
      reads_are = sym (append-nil (reads_of before.hands.acts));
      decided = λ more. decided (tape before.hands.acts more);
    })

-- what was decided posted nothing in the halt tree
pub decided_trips : (limits : LimitsValue) (decide : BookValue → Tape → Decision)
    (acts told : List Act) (book book_after : BookValue) (refusal : Option Refusal)
    (counts : Counts)
    → ((before : Tape) → before.acts ≡ acts
    → KeepsHalt limits before.acts (decide book before).tape.acts)
    → Decides decide acts told book book_after refusal
    → CountsTrips limits acts counts → CountsTrips limits told counts
decided_trips limits decide acts told book book_after refusal counts keeps_all decides trips =
    let before = tape acts (decides.seen ++ []) in
    let keeps : KeepsHalt limits acts told =
    subst (λ (d : Decision). KeepsHalt limits acts d.tape.acts) (decides.decided [])
    (keeps_all before refl) in
    record { posts = keeps ∙ trips.posts; firms = trips.firms }

-- one sink took the answer of a request, and the other nothing
abbrev pub IsAnswered : Wording → List FieldValue → Option Refusal → Kept → Kept → Type 0
IsAnswered wording fields None before after =
    Appends before.venue after.venue (forward_text (codes "VENUE") after.counts.venue fields)
    × (after.client ≡ before.client)
IsAnswered wording fields (Some why) before after =
    (after.venue ≡ before.venue)
    × Appends before.client after.client (wording after.client_id after.counts.client fields why)

-- what is kept after a request
pub record Answers (limits : LimitsValue) (fields : List FieldValue) (asked : Asked)
    (refusal : Option Refusal) (told : List Act) (before after : Kept) : Type 0 where
  pub decides : Decides (asked.decide limits before.screens) before.acts told
      before.book after.book refusal
  pub acts : after.acts ≡ acts_tripped limits refusal before.counts.firms told
      ++ answer_act before.counts.frames refusal ∷ []
  pub screens : after.screens ≡ asked.screens limits before.screens before.book
  pub counts : after.counts ≡ counts_answered refusal (counts_decided refusal before.counts)
  pub client_id : after.client_id ≡ asked.head.sender
  pub answered : IsAnswered asked.wording fields refusal before after

module _ (limits : LimitsValue) (fields : List FieldValue) (asked : Asked)
    (session : SessionValue) (facts : HeadFacts true fields asked.head)
    (read : read_of fields ≡ Ok asked.message) where
  abbrev client_id : List ℕ
  client_id = client_after true fields session.client_id

  -- the screens as they were asked
  abbrev screens : List ScreenValue
  screens = asked.screens limits session.screens session.book

  -- the frame by what was decided
  decided_frame : (seen more : List SeenAt) (decision : Decision)
      → asked.decide limits session.screens session.book
      (tape session.acts (seen ++ more)) ≡ decision
      → with_frame (after_sound limits fields) (with_reads (seen ++ more) session)
      ≡ counted session.frames (after_decision limits asked.wording fields decision
      (record (named true fields (with_reads (seen ++ more) session)) { screens = screens }))
  decided_frame seen more decision is =
      let from = named true fields (with_reads (seen ++ more) session) in
      frame_by limits fields true (Ok asked.message)
      (with_reads (seen ++ more) session) facts.asks_are read
      ∙ ap (counted session.frames) (asked.by limits fields from)
      ∙ ap (λ d. counted session.frames (after_decision limits asked.wording fields d
      (record from { screens = screens }))) is

  module _ (before after : Kept) (own : StandsAs before session) (told : List Act) where
    client_is : after.client_id ≡ asked.head.sender → client_id ≡ after.client_id
    client_is is = ap (λ o. unwrap_or o session.client_id) facts.sender ∙ sym is

    -- what was decided on the session's own book and acts
    decision_is : (refusal : Option Refusal) (book : BookValue)
        → (decides : Decides (asked.decide limits before.screens) before.acts told
        before.book book refusal) → (more : List SeenAt)
        → asked.decide limits session.screens session.book
        (tape session.acts (decides.seen ++ more))
        ≡ record { refusal = refusal; tape = tape told more; book = book }
    decision_is refusal book decides more =
        rw (own.screens_are, own.stands.book_is, own.stands.acts_are) (decides.decided more)

    screens_are : after.screens ≡ asked.screens limits before.screens before.book
        → screens ≡ after.screens
    screens_are is = rw (own.screens_are, own.stands.book_is) (sym is)

    reads_are : (refusal : Option Refusal) (seen : List SeenAt)
        → reads_of told ≡ reads_of before.acts ++ seen
        → reads_of (acts_tripped limits refusal session.firms told
        ++ answer_act session.frames refusal ∷ []) ≡ reads_of session.acts ++ seen
    reads_are refusal seen is =
        reads_of-quiet (acts_tripped limits refusal session.firms told)
        (answer_act session.frames refusal ∷ []) (answer_unread session.frames refusal)
        ∙ reads_tripped limits refusal session.firms told
        ∙ is ∙ ap (λ l. reads_of l ++ seen) (sym own.stands.acts_are)

    acts_are : (refusal : Option Refusal)
        → after.acts ≡ acts_tripped limits refusal before.counts.firms told
        ++ answer_act before.counts.frames refusal ∷ []
        → acts_tripped limits refusal session.firms told
        ++ answer_act session.frames refusal ∷ [] ≡ after.acts
    acts_are refusal is = rw (← own.stands.frames, ← own.stands.firms) (sym is)

    -- a request that was sent or refused, and answered
    pub takes_request : (refusal : Option Refusal)
        → Answers limits fields asked refusal told before after
        → (next : SessionValue)
        × Takes (with_frame (after_sound limits fields)) 0 session next before after
    takes_request None answers =
        let message : Option (List ℕ) =
        Some (forward_text (codes "VENUE") (length session.venue + 1) fields) in
        let number : after.counts.venue ≡ length session.venue + 1 =
        ap (λ (c : Counts). c.venue) answers.counts ∙ ap (λ n. n + 1) own.stands.venue in
        takes_next (with_frame (after_sound limits fields)) 0 session before after _ after.book
        screens client_id None message None own (acts_are None answers.acts) refl
        (screens_are answers.screens) (client_is answers.client_id) answers.counts
        (rw (← number) answers.answered.0)
        (appends_nothing before.client after.client answers.answered.1)
        (record {
          seen = answers.decides.seen;
          reads_are = reads_are None answers.decides.seen answers.decides.reads_are;
          stepped = λ more. decided_frame answers.decides.seen more _
              (decision_is None after.book answers.decides more);
        })
    takes_request (Some why) answers =
        let message : Option (List ℕ) =
        Some (asked.wording client_id (length session.client + 1) fields why) in
        let number : after.counts.client ≡ length session.client + 1 =
        ap (λ (c : Counts). c.client) answers.counts ∙ ap (λ n. n + 1) own.stands.client in
        let receiver : client_id ≡ after.client_id = client_is answers.client_id in
        takes_next (with_frame (after_sound limits fields)) 0 session before after _ after.book
        screens client_id (Some why) None message own (acts_are (Some why) answers.acts) refl
        (screens_are answers.screens) receiver answers.counts
        (appends_nothing before.venue after.venue answers.answered.0)
        (rw (receiver, ← number) answers.answered.1)
        (record {
          seen = answers.decides.seen;
          reads_are = reads_are (Some why) answers.decides.seen answers.decides.reads_are;
          stepped = λ more. decided_frame answers.decides.seen more _
              (decision_is (Some why) after.book answers.decides more);
        })
