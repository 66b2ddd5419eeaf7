-- A message with a field fault: a request is refused, and a report is sent back.
use Rattle.std.proofs.Common.{◌≡◌, ℕ, ◌+◌, List, [], ◌∷◌, ◌++◌, length, refl, sym, ap, ◌∙◌, true}
use Rattle.std.proofs.Common.{false, codes, Option, Some, None, Err}
use Rattle.std.specs.Io.KnownBytes.{Appends}
use Rattle.fix_fields.specs.Fields.{FieldValue}
use Rattle.fix_orders.specs.declared.message.FieldFault.{FieldFault}
use Rattle.fix_orders.specs.Reading.{read_of}
use Rattle.risk_journal.specs.declared.acts.Act.TheVariants.{Refused, Noted}
use Rattle.session_engine.specs.declared.counts.Counts.{Counts}
use Rattle.session_engine.specs.declared.note.Note.TheVariants as note
use Rattle.session_engine.specs.Answers.{reject_text, note_code, fault_code}
use Rattle.session_engine.specs.Session.{LimitsValue, SessionValue, asks, client_after}
use Rattle.session_engine.specs.Session.{after_sound, with_frame}
use Rattle.session_engine.specs.Reaches.{with_reads}
use Rattle.session_engine.specs.Taken.{Kept, StandsAs, Takes, counted_client, counted_venue}
use Rattle.session_engine.proofs.TakenLemmas.{frame_by, takes_told, appends_nothing}

-- what is kept after a request with a field fault
pub record Rejects (fields : List FieldValue) (fault : FieldFault) (before after : Kept)
    : Type 0 where
  pub acts : after.acts ≡ before.acts
      ++ Refused before.counts.frames fault_code fault.tag fault.reason ∷ []
  pub book : after.book ≡ before.book
  pub screens : after.screens ≡ before.screens
  pub counts : after.counts ≡ counted_client before.counts
  pub client_id : after.client_id ≡ client_after true fields before.client_id
  pub venue : after.venue ≡ before.venue
  pub client : Appends before.client after.client
      (reject_text after.client_id after.counts.client fields fault)

-- a request with a field fault
pub takes_rejected : (limits : LimitsValue) (fields : List FieldValue) (fault : FieldFault)
    (session : SessionValue) (before after : Kept) → asks fields ≡ true
    → read_of fields ≡ Err fault → StandsAs before session
    → Rejects fields fault before after
    → (next : SessionValue) × Takes (with_frame (after_sound limits fields)) 0 session next before after
takes_rejected limits fields fault session before after asks_are read own rejects =
    let client_id = client_after true fields session.client_id in
    let client_is : client_id ≡ after.client_id =
    ap (client_after true fields) own.client_is ∙ sym rejects.client_id in
    let message : Option (List ℕ) =
    Some (reject_text client_id (length session.client + 1) fields fault) in
    let number : after.counts.client ≡ length session.client + 1 =
    ap (λ (c : Counts). c.client) rejects.counts ∙ ap (λ n. n + 1) own.stands.client in
    takes_told (with_frame (after_sound limits fields)) 0 session before after
    (λ frame. Refused frame fault_code fault.tag fault.reason) client_id None message own refl
    rejects.acts rejects.book rejects.screens client_is rejects.counts
    (appends_nothing before.venue after.venue rejects.venue)
    (rw (client_is, ← number) rejects.client)
    (λ more. frame_by limits fields true (Err fault) (with_reads more session) asks_are read)

-- what is kept after a report with a field fault
pub record Returns (fields : List FieldValue) (fault : FieldFault) (before after : Kept)
    : Type 0 where
  pub acts : after.acts ≡ before.acts
      ++ Noted before.counts.frames (note_code note.FaultyField) fault.tag fault.reason ∷ []
  pub book : after.book ≡ before.book
  pub screens : after.screens ≡ before.screens
  pub counts : after.counts ≡ counted_venue before.counts
  pub client_id : after.client_id ≡ before.client_id
  pub client : after.client ≡ before.client
  pub venue : Appends before.venue after.venue
      (reject_text (codes "VENUE") after.counts.venue fields fault)

-- a report with a field fault
pub takes_returned : (limits : LimitsValue) (fields : List FieldValue) (fault : FieldFault)
    (session : SessionValue) (before after : Kept) → asks fields ≡ false
    → read_of fields ≡ Err fault → StandsAs before session
    → Returns fields fault before after
    → (next : SessionValue) × Takes (with_frame (after_sound limits fields)) 0 session next before after
takes_returned limits fields fault session before after asks_are read own returns =
    let message : Option (List ℕ) =
    Some (reject_text (codes "VENUE") (length session.venue + 1) fields fault) in
    let number : after.counts.venue ≡ length session.venue + 1 =
    ap (λ (c : Counts). c.venue) returns.counts ∙ ap (λ n. n + 1) own.stands.venue in
    takes_told (with_frame (after_sound limits fields)) 0 session before after
    (λ frame. Noted frame (note_code note.FaultyField) fault.tag fault.reason) session.client_id
    message None own refl returns.acts returns.book returns.screens
    (own.client_is ∙ sym returns.client_id) returns.counts (rw (← number) returns.venue)
    (appends_nothing before.client after.client returns.client)
    (λ more. frame_by limits fields false (Err fault) (with_reads more session) asks_are read)
