-- A frame whose content was done and whose message was given has been taken.
use Rattle.std.proofs.Common.{◌≡◌, ℕ, ◌+◌, List, [], ◌∷◌, ◌++◌, length, refl, sym, ap, ◌∙◌, subst, arith, inl, inr}
use Rattle.std.specs.Prelude.{Option, Some, None}
use Rattle.std.specs.Io.KnownBytes.{Appends}
use Rattle.std.proofs.lemmas.List.{length-append, map-append}
use Rattle.fix_fields.specs.Fields.{FieldValue}
use Rattle.fix_fields.specs.Places.{HasFieldsIn}
use Rattle.limit_table.specs.Trees.{LimitsValue}
use Rattle.risk_journal.specs.declared.acts.Act.{Act}
use Rattle.risk_journal.specs.declared.acts.Act.TheVariants.{Sent, Refused}
use Rattle.risk_journal.specs.ActLists.{placed_by}
use Rattle.frame_run.specs.Frames.{FrameIn, text_in as text_at}
use Rattle.cross_guard.proofs.Appending.{appends_none}
use Rattle.cross_guard.specs.declared.guarding.CrossVerdict.{CrossVerdict}
use Rattle.cross_guard.specs.Answering.{PassesOn, Refuses, Sends}
use Rattle.cross_guard.specs.Crossing.{Crossing, Kept, StandsAs, Takes, TakesFrom, TakesFront, TakesSound, kept_of}
use Rattle.cross_guard.specs.Resting.{RestingValue}
use Rattle.cross_guard.specs.Session.{CrossSession, Wording, after_frame, code_of}
use Rattle.cross_guard.specs.Told.{Placing, ToldValue, with_places}
use Rattle.cross_guard.proofs.Contents.{Content, content_by}

-- the session after a frame
abbrev next_by : List Act → List RestingValue → Option (List ℕ) → Option (List ℕ) → CrossSession
    → CrossSession
next_by acts orders to_pass to_client session =
    record (content_by acts orders to_pass to_client session session.reads) {
      frames = session.frames + 1;
    }

-- what is kept after a frame, by what the sinks hold
pub record IsKept (place : Placing) (acts : List Act) (orders : List RestingValue) (refused : ℕ)
    (before after : Kept) : Type 0 where
  pub acts_are : with_places place after.acts ≡ acts
  pub orders_are : after.orders ≡ orders
  pub frames_are : after.frames ≡ before.frames + 1
  pub refused_are : after.refused ≡ refused

module _ (place : Placing) (limits : LimitsValue) (text : List ℕ) (fields : Option (List FieldValue))
    (session : CrossSession) (acts : List Act) (orders : List RestingValue) (before after : Kept)
    (stands : StandsAs place before session) where
  -- its frame was passed
  pub takes_passed : (message : List ℕ) → IsKept place acts orders before.refused before after
      → Content limits text fields session acts orders (Some message) None
      → Appends before.pass after.pass message → after.client ≡ before.client
      → (next : CrossSession) × Takes place (after_frame limits text fields) session next before after
  takes_passed message kept content pass client = (
    next_by acts orders (Some message) None session,
    record {
      seen = content.seen;
      reads_are = content.reads_are;
      stepped = λ more. ap (λ (s : CrossSession). let next : CrossSession = record s {
        frames = session.frames + 1;
      } in next) (content.content_is more);
      stands = record {
        acts_are = sym kept.acts_are;
        orders_are = sym kept.orders_are;
        frames_are = ap (λ n. n + 1) stands.frames_are ∙ sym kept.frames_are;
        client_are = stands.client_are ∙ sym kept.refused_are;
        passed_are = omega (arith, length-append session.passed (message ∷ []), stands.passed_are);
      };
      to_pass = Some message;
      to_client = None;
      passed_is = refl;
      client_is = refl;
      pass_grows = pass;
      client_grows = subst (λ h. Appends before.client h []) (sym client)
          (appends_none before.client);
    },
  )

  -- it was refused
  pub takes_refused : (message : List ℕ) → IsKept place acts orders (before.refused + 1) before after
      → Content limits text fields session acts orders None (Some message)
      → Appends before.client after.client message → after.pass ≡ before.pass
      → (next : CrossSession) × Takes place (after_frame limits text fields) session next before after
  takes_refused message kept content client pass = (
    next_by acts orders None (Some message) session,
    record {
      seen = content.seen;
      reads_are = content.reads_are;
      stepped = λ more. ap (λ (s : CrossSession). let next : CrossSession = record s {
        frames = session.frames + 1;
      } in next) (content.content_is more);
      stands = record {
        acts_are = sym kept.acts_are;
        orders_are = sym kept.orders_are;
        frames_are = ap (λ n. n + 1) stands.frames_are ∙ sym kept.frames_are;
        client_are = length-append session.client (message ∷ []) ∙ ap (λ n. n + 1) stands.client_are
            ∙ sym kept.refused_are;
        passed_are = omega (arith, length-append session.client (message ∷ []), stands.passed_are);
      };
      to_pass = None;
      to_client = Some message;
      passed_is = refl;
      client_is = refl;
      pass_grows = subst (λ h. Appends before.pass h []) (sym pass) (appends_none before.pass);
      client_grows = client;
    },
  )

-- what a session has done of a frame before it is answered
abbrev pub done_so_far : {H : Type 0} → ToldValue H → List RestingValue → Crossing H → Crossing H
done_so_far told orders before = record before { told = told; orders = orders }

module _ {H : Type 0} (limits : LimitsValue) (text : List ℕ) (fields : Option (List FieldValue))
    (before : Crossing H) (told : ToldValue H) (orders : List RestingValue) (now : Crossing H)
    (given failed : Type 0) where
  -- a frame that was passed on
  pub from_passed : (passes : PassesOn text given failed (done_so_far told orders before) now)
      → ((place : Placing) (session : CrossSession) → StandsAs place (kept_of before) session
      → Content limits text fields session (with_places place told.acts) orders (Some text) None)
      → TakesFrom (after_frame limits text fields) (kept_of before)
      (record (kept_of now) { pass = passes.pass; client = before.client.held })
  from_passed passes content = λ place session stands.
      takes_passed place limits text fields session (with_places place told.acts) orders (kept_of before)
      (record (kept_of now) { pass = passes.pass; client = before.client.held }) stands text
      (record {
        acts_are = ap (λ (r : Crossing H). with_places place r.told.acts) passes.others;
        orders_are = ap (λ (r : Crossing H). r.orders) passes.others;
        frames_are = ap (λ (r : Crossing H). r.frames) passes.others;
        refused_are = ap (λ (r : Crossing H). r.refused) passes.others;
      }) (content place session stands) passes.would refl

  pub from_sent : (sends : Sends text given failed (done_so_far told orders before) now)
      → ((place : Placing) (session : CrossSession) → StandsAs place (kept_of before) session
      → Content limits text fields session (with_places place told.acts ++ Sent session.frames ∷ [])
      orders (Some text) None)
      → TakesFrom (after_frame limits text fields) (kept_of before)
      (record (kept_of now) { pass = sends.pass; client = before.client.held })
  from_sent sends content = λ place session stands.
      takes_passed place limits text fields session
      (with_places place told.acts ++ Sent session.frames ∷ []) orders
      (kept_of before) (record (kept_of now) { pass = sends.pass; client = before.client.held })
      stands text
      (record {
        acts_are = ap (with_places place) sends.acts
            ∙ map-append (placed_by place) told.acts (Sent before.frames ∷ [])
            ∙ ap (λ n. with_places place told.acts ++ Sent n ∷ []) (sym stands.frames_are);
        orders_are = ap (λ (r : Crossing H). r.orders) sends.others;
        frames_are = ap (λ (r : Crossing H). r.frames) sends.others;
        refused_are = ap (λ (r : Crossing H). r.refused) sends.others;
      }) (content place session stands) sends.would refl

-- a frame that was passed on was taken
pub passes_taken : {H : Type 0} (sound : FrameIn) (before : Crossing H) (told : ToldValue H)
    (orders : List RestingValue) (now : Crossing H) (given failed : Type 0)
    → PassesOn (text_at sound.bytes sound.frame) given failed (done_so_far told orders before) now
    → ((fields : List FieldValue) → HasFieldsIn sound.bytes sound.frame fields
    → (place : Placing) (session : CrossSession) → StandsAs place (kept_of before) session
    → Content before.limits (text_at sound.bytes sound.frame) (Some fields) session
    (with_places place told.acts) orders (Some (text_at sound.bytes sound.frame)) None)
    → TakesFront (TakesSound before.limits sound) given failed before now
passes_taken {H} sound before told orders now given failed passes content = record {
  pass = passes.pass;
  client = before.client.held;
  taken = λ fields has. from_passed before.limits (text_at sound.bytes sound.frame) (Some fields)
      before told orders now given failed passes (content fields has);
  frames_are = ap (λ (r : Crossing H). r.frames) passes.others;
  gives = inl (
    passes.gives,
    ap (λ (r : Crossing H). r.client.held) passes.others,
    ap (λ (r : Crossing H). r.refused) passes.others,
  );
}

-- an order or a replace that was sent was taken
pub sends_taken : {H : Type 0} (sound : FrameIn) (before : Crossing H) (told : ToldValue H)
    (orders : List RestingValue) (now : Crossing H) (given failed : Type 0)
    → Sends (text_at sound.bytes sound.frame) given failed (done_so_far told orders before) now
    → ((fields : List FieldValue) → HasFieldsIn sound.bytes sound.frame fields
    → (place : Placing) (session : CrossSession) → StandsAs place (kept_of before) session
    → Content before.limits (text_at sound.bytes sound.frame) (Some fields) session
    (with_places place told.acts ++ Sent session.frames ∷ []) orders (Some (text_at sound.bytes sound.frame)) None)
    → TakesFront (TakesSound before.limits sound) given failed before now
sends_taken {H} sound before told orders now given failed sends content = record {
  pass = sends.pass;
  client = before.client.held;
  taken = λ fields has. from_sent before.limits (text_at sound.bytes sound.frame) (Some fields)
      before told orders now given failed sends (content fields has);
  frames_are = ap (λ (r : Crossing H). r.frames) sends.others;
  gives = inl (
    sends.gives,
    ap (λ (r : Crossing H). r.client.held) sends.others,
    ap (λ (r : Crossing H). r.refused) sends.others,
  );
}

-- and so was one that was refused
pub refuses_taken : {H : Type 0} (wording : Wording) (sound : FrameIn) (why : CrossVerdict)
    (before : Crossing H) (told : ToldValue H) (orders : List RestingValue) (now : Crossing H)
    (given failed : Type 0)
    → Refuses wording sound why given failed (done_so_far told orders before) now
    → ((fields : List FieldValue) → HasFieldsIn sound.bytes sound.frame fields
    → (place : Placing) (session : CrossSession) → StandsAs place (kept_of before) session
    → Content before.limits (text_at sound.bytes sound.frame) (Some fields) session
    (with_places place told.acts ++ Refused session.frames (code_of why) 0 0 ∷ []) orders None
    (Some (wording (length session.client + 1) fields why)))
    → TakesFront (TakesSound before.limits sound) given failed before now
refuses_taken {H} wording sound why before told orders now given failed refuses content = record {
  pass = before.pass.held;
  client = refuses.client;
  taken = λ fields has place session stands.
      takes_refused place before.limits (text_at sound.bytes sound.frame) (Some fields) session
      (with_places place told.acts ++ Refused session.frames (code_of why) 0 0 ∷ []) orders
      (kept_of before)
      (record (kept_of now) { pass = before.pass.held; client = refuses.client }) stands
      (wording (length session.client + 1) fields why)
      (record {
        acts_are = ap (with_places place) refuses.acts
            ∙ map-append (placed_by place) told.acts (Refused before.frames (code_of why) 0 0 ∷ [])
            ∙ ap (λ n. with_places place told.acts ++ Refused n (code_of why) 0 0 ∷ [])
            (sym stands.frames_are);
        orders_are = ap (λ (r : Crossing H). r.orders) refuses.others;
        frames_are = ap (λ (r : Crossing H). r.frames) refuses.others;
        refused_are = ap (λ (r : Crossing H). r.refused) refuses.others;
      }) (content fields has place session stands)
      (subst (λ n. Appends before.client.held refuses.client (wording (n + 1) fields why))
      (sym stands.client_are) (refuses.would fields has)) refl;
  frames_are = ap (λ (r : Crossing H). r.frames) refuses.others;
  gives = inr (
    refuses.gives,
    ap (λ (r : Crossing H). r.pass.held) refuses.others,
    ap (λ (r : Crossing H). r.refused) refuses.others,
  );
}
