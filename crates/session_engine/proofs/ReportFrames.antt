-- A report that was settled and passed on.
use Rattle.std.proofs.Common.{◌≡◌, ℕ, ◌+◌, List, ◌++◌, length, refl, sym, ap, ◌∙◌, false, Option}
use Rattle.std.proofs.Common.{Some, None, Ok}
use Rattle.std.specs.Io.KnownBytes.{Appends}
use Rattle.std.proofs.lemmas.List.{append-nil}
use Rattle.fix_fields.specs.Fields.{FieldValue}
use Rattle.exposure_book.specs.Books.{BookValue}
use Rattle.exposure_book.specs.Reports.{outcome_of_report, outcome_of_reject}
use Rattle.fix_orders.specs.declared.message.CancelReject.{CancelReject}
use Rattle.fix_orders.specs.declared.message.Head.{Head}
use Rattle.fix_orders.specs.declared.message.Message.{Message}
use Rattle.fix_orders.specs.declared.message.Message.TheVariants as message
use Rattle.fix_orders.specs.declared.message.Report.{Report}
use Rattle.fix_orders.specs.Reading.{read_of}
use Rattle.order_desk.specs.declared.effect.Effect.{Effect}
use Rattle.order_desk.specs.declared.effect.Effect.TheVariants as effect
use Rattle.order_desk.specs.Reported.{Settled, report_settled, reject_settled}
use Rattle.risk_journal.specs.declared.acts.Act.{Act}
use Rattle.risk_journal.specs.ActLists.{SeenAt, reads_of}
use Rattle.session_engine.specs.declared.counts.Counts.{Counts}
use Rattle.session_engine.specs.Answers.{forward_text}
use Rattle.session_engine.specs.Session.{LimitsValue, SessionValue, after_sound, after_message}
use Rattle.session_engine.specs.Session.{after_settling, after_effect, after_passing, named}
use Rattle.session_engine.specs.Session.{with_frame}
use Rattle.session_engine.specs.Reaches.{with_reads}
use Rattle.session_engine.specs.Taken.{Kept, StandsAs, Takes, counted_client, note_acts, note_by}
use Rattle.session_engine.proofs.MessageFacts.{HeadFacts, head_facts}
use Rattle.session_engine.proofs.QuietActs.{notes_unread, reads_of-quiet}
use Rattle.session_engine.proofs.AddedActs.{settled_adds}
use Rattle.session_engine.proofs.TakenLemmas.{frame_by, counted, next_by, takes_next}
use Rattle.session_engine.proofs.TakenLemmas.{steps_quiet, appends_nothing}

-- A report: its message and head, and what it makes of the book and of what is posted, which reads
-- nothing.
pub record Told : Type 0 where
  pub message : Message
  pub head : Head
  pub settle : LimitsValue → BookValue → List Act → Settled
  pub facts : (fields : List FieldValue) → read_of fields ≡ Ok message → HeadFacts false fields head
  pub reads : (limits : LimitsValue) (book : BookValue) (acts : List Act)
      → reads_of (settle limits book acts).acts ≡ reads_of acts
  pub by : (limits : LimitsValue) (fields : List FieldValue) (session : SessionValue)
      → after_message limits fields message session
      ≡ after_settling fields (settle limits session.book session.acts) session

abbrev pub report_told : Report → Told
report_told report = record {
  message = message.Report report;
  head = report.head;
  settle = λ limits. report_settled limits report;
  facts = λ fields read. head_facts fields (message.Report report) read refl refl;
  reads = λ limits book acts.
      let outcome = outcome_of_report book report in
      (settled_adds limits (record book { orders = outcome.orders }) acts outcome.answer).unread;
  by = λ limits fields session. refl;
}

abbrev pub reject_told : CancelReject → Told
reject_told reject = record {
  message = message.CancelReject reject;
  head = reject.head;
  settle = λ limits. reject_settled limits reject;
  facts = λ fields read. head_facts fields (message.CancelReject reject) read refl refl;
  reads = λ limits book acts.
      let outcome = outcome_of_reject book reject in
      (settled_adds limits (record book { orders = outcome.orders }) acts outcome.answer).unread;
  by = λ limits fields session. refl;
}

-- what became of a report is at most one note
noted_effect : (own : Effect) (session : SessionValue)
    → after_effect own session
    ≡ record session { acts = session.acts ++ note_acts session.frames (note_by own) }
noted_effect effect.Applied session =
    ap (λ l. let s : SessionValue = record session { acts = l } in s)
    (sym (append-nil session.acts))
noted_effect effect.NotLowered session = refl
noted_effect effect.Stray session = refl
noted_effect effect.Over session = refl

-- what is kept after a report
pub record Settles (limits : LimitsValue) (fields : List FieldValue) (report : Told)
    (own : Effect) (told : List Act) (before after : Kept) : Type 0 where
  pub settled : report.settle limits before.book before.acts
      ≡ record { effect = own; acts = told; book = after.book }
  pub acts : after.acts ≡ told ++ note_acts before.counts.frames (note_by own)
  pub screens : after.screens ≡ before.screens
  pub counts : after.counts ≡ counted_client before.counts
  pub client_id : after.client_id ≡ before.client_id
  pub venue : after.venue ≡ before.venue
  pub client : Appends before.client after.client
      (forward_text after.client_id after.counts.client fields)

-- a report that was settled and passed on
pub takes_report : (limits : LimitsValue) (fields : List FieldValue) (report : Told)
    (session : SessionValue) → HeadFacts false fields report.head
    → read_of fields ≡ Ok report.message → (before after : Kept)
    → StandsAs before session → (own : Effect) (told : List Act)
    → Settles limits fields report own told before after
    → (next : SessionValue) × Takes (with_frame (after_sound limits fields)) 0 session next before after
takes_report limits fields report session facts read before after stands own told settles =
    let s = stands.stands in
    let notes : ℕ → List Act = λ frame. note_acts frame (note_by own) in
    let acts = told ++ notes session.frames in
    let message : Option (List ℕ) =
    Some (forward_text session.client_id (length session.client + 1) fields) in
    let done : Settled = record { effect = own; acts = told; book = after.book } in
    let number : after.counts.client ≡ length session.client + 1 =
    ap (λ (c : Counts). c.client) settles.counts ∙ ap (λ n. n + 1) s.client in
    let receiver : session.client_id ≡ after.client_id =
    stands.client_is ∙ sym settles.client_id in
    let settled_is : report.settle limits session.book session.acts ≡ done =
    rw (s.book_is, s.acts_are) settles.settled in
    let from : List SeenAt → SessionValue = λ more. named false fields (with_reads more session) in
    let stepped : (more : List SeenAt) → with_frame (after_sound limits fields) (with_reads more session)
    ≡ with_reads more (next_by acts
    after.book session.screens session.client_id None None message session) =
    λ more. frame_by limits fields false (Ok report.message) (with_reads more session)
    facts.asks_are read
    ∙ ap (counted session.frames) (report.by limits fields (from more))
    ∙ ap (λ d. counted session.frames (after_settling fields d (from more))) settled_is
    ∙ ap (λ n. counted session.frames (after_passing fields n))
    (noted_effect own (record (from more) { acts = told; book = after.book })) in
    takes_next (with_frame (after_sound limits fields)) 0 session before after acts after.book
    session.screens session.client_id None None message stands
    (ap (λ n. told ++ notes n) (sym s.frames) ∙ sym settles.acts) refl
    (stands.screens_are ∙ sym settles.screens) receiver
    settles.counts (appends_nothing before.venue after.venue settles.venue)
    (rw (receiver, ← number) settles.client)
    (steps_quiet (with_frame (after_sound limits fields)) session
    (next_by acts after.book session.screens session.client_id None None message
    session)
    (reads_of-quiet told (notes session.frames) (notes_unread session.frames (note_by own))
    ∙ ap reads_of (sym (ap (λ (d : Settled). d.acts) settled_is))
    ∙ report.reads limits session.book session.acts) stepped)
