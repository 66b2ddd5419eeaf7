-- The journal behind sessions that were closed.
use Rattle.std.proofs.Common.{◌≡◌, ℕ, List, refl, sym, ap, subst, ◌∙◌, Bool}
use Rattle.std.proofs.Common.{length, true, false}
use Rattle.std.specs.Prelude.{Option, Some, None, IfSome}
use Rattle.gate_ports.specs.Names.{Texts}
use Rattle.risk_board.specs.declared.hand.Line.{Line}
use Rattle.risk_journal.specs.declared.acts.Act.{Act}
use Rattle.risk_journal.specs.JournalText.{journal_text}
use Rattle.gate_files.specs.Words.{RunWords, venue_name, client_name, journal_name, is_among}
use Rattle.gate_files.specs.Words.{output_names}
use Rattle.gate_files.specs.Ports.{PortsValue, Holds, WriteRose}
use Rattle.gate_files.specs.Early.{KeepsOrFronts}
use Rattle.gate_files.specs.Stages.{Went, ChangesOnly}
use Rattle.gate_files.specs.Objects.{ObjectsValue, EachHolds, ChangesOutputs, HasClosed}
use Rattle.gate_files.specs.Objects.{HoldsOutputs}
use Rattle.session_tasks.specs.Kept.{AreWritten, HasJournal, HasKept, IsKept}
use Rattle.gate_files.proofs.Chains.{rose_from}
use Rattle.gate_files.proofs.Early.{front_behind}
use Rattle.gate_files.proofs.OutputNames.{apart_from_all, venue_isnt_journal, client_isnt_journal}
use Rattle.gate_files.proofs.Folder.{causes_later}

journal_of : (run : RunWords) (before closed after : PortsValue) (acts : List (List Act))
    (lines : List (List Line)) (name : List ℕ) (refused : Bool) (count : ℕ)
    → name ≡ journal_name run.out → Went before closed
    → ChangesOutputs run.out count before.texts closed.texts
    → IsKept closed after name (journal_text acts lines) refused
    → HasJournal before after run acts lines refused
journal_of run before closed after acts lines name false count is went changes kept =
    subst (λ (n : List ℕ). Holds after.texts n (journal_text acts lines)) is kept
journal_of run before closed after acts lines name true count is went changes (rose, front) = (
  subst (λ (n : List ℕ). WriteRose before after n) is (rose_from _ _ _ (went.written name) rose),
  front_behind run.out count before.texts closed.texts after.texts (journal_text acts lines)
      changes (subst (λ (n : List ℕ). KeepsOrFronts closed.texts after.texts n
      (journal_text acts lines)) is front),
)

holds_behind : (run : RunWords) (mid new : Texts) (session : ℕ) (own : ObjectsValue)
    → new (venue_name run.out session) ≡ mid (venue_name run.out session)
    → new (client_name run.out session) ≡ mid (client_name run.out session)
    → HoldsOutputs run mid session own → HoldsOutputs run new session own
holds_behind run mid new session own venue client holds = record {
  to_venue = holds.to_venue;
  to_client = holds.to_client;
  venue = venue ∙ holds.venue;
  client = client ∙ holds.client;
  venue_told = holds.venue_told;
  client_told = holds.client_told;
}

are_written : (run : RunWords) (objects : List ObjectsValue) (t0 t1 t2 : Option Texts)
    → length objects ≡ length run.sessions → ChangesOutputs run.out (length objects) t0 t1
    → IfSome t0 (λ old. IfSome t1 (λ new. EachHolds run new objects))
    → ChangesOnly t1 t2 (journal_name run.out) → AreWritten run t0 t2 objects
are_written run objects None None t2 many changes holds others =
    record { tells = λ none. others; goes_on = λ some. absurd cc; holds = tt; others = tt }
are_written run objects None (Some mid) t2 many changes holds others = absurd cc
are_written run objects (Some old) None t2 many (now, there, same) holds others = absurd cc
are_written run objects (Some old) (Some mid) None many changes holds (new, is, others) = absurd cc
are_written run objects (Some old) (Some mid) (Some new) many (now, there, same) holds
    (after, is, others) =
    let mid_is : mid ≡ now = cc in
    let new_is : new ≡ after = cc in
    record {
      tells = λ none. absurd cc;
      goes_on = λ some. refl;
      holds = λ session own at. holds_behind run mid new session own
          (ap (λ (t : Texts). t (venue_name run.out session)) new_is
          ∙ others (venue_name run.out session) (venue_isnt_journal run.out session))
          (ap (λ (t : Texts). t (client_name run.out session)) new_is
          ∙ others (client_name run.out session) (client_isnt_journal run.out session))
          (holds session own at);
      others = λ name among.
          let apart = apart_from_all run.out name (length objects)
          (subst (λ (n : ℕ). is_among name (output_names run.out n) ≡ false) (sym many) among) in
          ap (λ (t : Texts). t name) new_is ∙ others name apart.1
          ∙ ap (λ (t : Texts). t name) mid_is ∙ same name apart.0;
    }

-- the objects were closed, and then the journal stood
pub has_kept : (run : RunWords) (before closed after : PortsValue)
    (acts : List (List Act)) (lines : List (List Line)) (objects : List ObjectsValue)
    (name : List ℕ) (refused : Bool) → name ≡ journal_name run.out
    → length objects ≡ length run.sessions → HasClosed run before closed objects
    → Went closed after → IsKept closed after name (journal_text acts lines) refused
    → ChangesOnly closed.texts after.texts name
    → HasKept run before after acts lines objects refused
has_kept run before closed after acts lines objects name refused is many closes went kept others =
    record {
      journal = journal_of run before closed after acts lines name refused (length objects) is
          closes.went closes.texts kept;
      written = are_written run objects before.texts closed.texts after.texts many closes.texts
          closes.holds
          (subst (λ (m : List ℕ). ChangesOnly closed.texts after.texts m) is others);
      causes = λ session own at.
          causes_later run before closed after session own went (closes.causes session own at);
    }
