-- What was done of a frame is what the session function says of it.
use Rattle.std.proofs.Common.{◌≡◌, ℕ, zero, suc, ◌+◌, ◌<◌, List, [], ◌∷◌, ◌++◌, length, sym, ap, ◌∙◌, subst, arith, inl}
use Rattle.std.specs.Prelude.{Option, Some, None, IfSome, slice_get}
use Rattle.std.specs.List.{slice_index_or}
use Rattle.fix_fields.specs.Fields.{FieldValue}
use Rattle.fix_fields.specs.Places.{HasFieldsIn}
use Rattle.limit_table.specs.Trees.{LimitsValue}
use Rattle.risk_journal.specs.declared.acts.Act.{Act}
use Rattle.risk_journal.specs.declared.acts.Act.TheVariants.{Sent, Refused}
use Rattle.admit_core.specs.Tapes.{tape}
use Rattle.frame_run.specs.Frames.{FrameIn, text_in as text_at}
use Rattle.cross_guard.specs.declared.guarding.CrossVerdict.{CrossVerdict}
use Rattle.cross_guard.specs.declared.guarding.CrossVerdict.TheVariants as verdict
use Rattle.cross_guard.specs.Answering.{PassesOn, Refuses, Sends, settled_by}
use Rattle.cross_guard.specs.Crossing.{Crossing, StandsAs, TakesFrom, TakesFront, TakesSound, kept_of}
use Rattle.cross_guard.specs.Crossing.{with_reads}
use Rattle.cross_guard.specs.Resting.{RestingValue, symbol_with}
use Rattle.cross_guard.specs.Session.{CrossSession, Wording, after_content, after_guarding, code_of}
use Rattle.cross_guard.specs.Session.{after_frame, guarding}
use Rattle.cross_guard.specs.Told.{Asks, AsksUnder, IsOver, Placing, ToldValue, with_places}
use Rattle.cross_guard.proofs.Asked.{settled_placed}
use Rattle.cross_guard.proofs.Contents.{Content, content_refused, content_sent, content_unsound}
use Rattle.cross_guard.proofs.Taking.{done_so_far, from_passed, passes_taken, refuses_taken, sends_taken}

module _ {H : Type 0} (sound : FrameIn) (before now : Crossing H) (given failed : Type 0) where
  abbrev text : List ℕ
  text = text_at sound.bytes sound.frame

  abbrev limits : LimitsValue
  limits = before.limits

  -- a frame that was passed on without an act
  pub quiet_taken : (change : List RestingValue → List RestingValue)
      → PassesOn text given failed (done_so_far before.told (change before.orders) before) now
      → ((fields : List FieldValue) → HasFieldsIn sound.bytes sound.frame fields
      → (session : CrossSession)
      → Content limits text (Some fields) session session.acts (change session.orders) (Some text) None)
      → TakesFront (TakesSound limits sound) given failed before now
  quiet_taken change passes content =
      passes_taken sound before before.told (change before.orders) now given failed passes
      (λ fields has place session stands.
      let C : List Act → List RestingValue → Type 0 = λ a o.
      Content limits text (Some fields) session a o (Some text) None in
      subst (λ a. C a (change before.orders)) stands.acts_are
      (subst (λ o. C session.acts (change o)) stands.orders_are (content fields has session)))

  -- a report, whose orders' value was posted
  pub settled_taken : (told : ToldValue H) (id : List ℕ)
      (change : List RestingValue → List RestingValue) → IsOver limits before.told
      → ((l : LimitsValue) → l.quota ≡ before.told.quota
      → told.acts ≡ settled_by l (symbol_with id before.orders) (change before.orders)
      before.told.acts)
      → PassesOn text given failed (done_so_far told (change before.orders) before) now
      → ((fields : List FieldValue) → HasFieldsIn sound.bytes sound.frame fields
      → (session : CrossSession)
      → Content limits text (Some fields) session
      (settled_by limits (symbol_with id session.orders) (change session.orders) session.acts)
      (change session.orders) (Some text) None)
      → TakesFront (TakesSound limits sound) given failed before now
  settled_taken told id change over acts passes content =
      passes_taken sound before told (change before.orders) now given failed passes
      (λ fields has place session stands.
      let C : List Act → List RestingValue → Type 0 = λ a o.
      Content limits text (Some fields) session a o (Some text) None in
      let same : settled_by limits (symbol_with id before.orders) (change before.orders)
      (with_places place before.told.acts) ≡ with_places place told.acts =
      sym (ap (with_places place) (acts limits (sym over.quota_is))
      ∙ settled_placed place limits (symbol_with id before.orders) (change before.orders)
      before.told.acts) in
      let own : C (settled_by limits (symbol_with id before.orders) (change before.orders)
      (with_places place before.told.acts)) (change before.orders) =
      subst (λ a. C (settled_by limits (symbol_with id before.orders) (change before.orders) a)
      (change before.orders)) stands.acts_are
      (subst (λ o. C (settled_by limits (symbol_with id o) (change o) session.acts) (change o))
      stands.orders_are (content fields has session)) in
      subst (λ a. C a (change before.orders)) same own)

  -- a request that was put to the guard
  module _ (told : ToldValue H) (wording : Wording) (tree value : ℕ)
      (added : List RestingValue → List RestingValue) (why : CrossVerdict)
      (over : IsOver limits before.told)
      (asks : AsksUnder before.told.quota (λ l. guarding l tree value) before.told.acts told.acts why)
      (is : (fields : List FieldValue) → HasFieldsIn sound.bytes sound.frame fields
      → (s : CrossSession) → after_content limits text (Some fields) s
      ≡ after_guarding (guarding limits tree value (tape s.acts s.reads)) wording text fields
      (added s.orders) s) where
    asked : (place : Placing) (session : CrossSession) → StandsAs place (kept_of before) session
        → Asks (guarding limits tree value) session.acts (with_places place told.acts) why
    asked place session stands =
        let A : List Act → Type 0 = λ a. Asks (guarding limits tree value) a
        (with_places place told.acts) why in
        subst A (sym stands.acts_are) (asks place limits (sym over.quota_is))

    pub sent_taken : why ≡ verdict.Sent
        → Sends text given failed (done_so_far told (added before.orders) before) now
        → TakesFront (TakesSound limits sound) given failed before now
    sent_taken sent sends =
        sends_taken sound before told (added before.orders) now given failed sends
        (λ fields has place session stands.
        let C : List RestingValue → Type 0 = λ o. Content limits text (Some fields) session
        (with_places place told.acts ++ Sent session.frames ∷ []) o (Some text) None in
        subst (λ o. C (added o)) stands.orders_are
        (content_sent limits text session fields wording tree value (added session.orders)
        (with_places place told.acts) why (λ more. is fields has (with_reads more session))
        (asked place session stands) sent))

    pub refused_taken : (why ≡ verdict.Sent → ⊥)
        → Refuses wording sound why given failed (done_so_far told before.orders before) now
        → TakesFront (TakesSound limits sound) given failed before now
    refused_taken other refuses =
        refuses_taken wording sound why before told before.orders now given failed refuses
        (λ fields has place session stands.
        let C : List RestingValue → Type 0 = λ o. Content limits text (Some fields) session
        (with_places place told.acts ++ Refused session.frames (code_of why) 0 0 ∷ []) o None
        (Some (wording (length session.client + 1) fields why)) in
        subst C stands.orders_are
        (content_refused limits text session fields wording tree value (added session.orders)
        (with_places place told.acts) why (λ more. is fields has (with_reads more session))
        (asked place session stands) other))

-- a frame that isn't sound was passed on
pub unsound_taken : {H : Type 0} (limits : LimitsValue) (text : List ℕ) (before now : Crossing H)
    (given failed : Type 0) → PassesOn text given failed before now
    → TakesFront (TakesFrom (after_frame limits text None)) given failed before now
unsound_taken {H} limits text before now given failed passes = record {
  pass = passes.pass;
  client = before.client.held;
  taken = from_passed limits text None before before.told before.orders now given failed passes
      (λ place session stands.
      let C : List Act → List RestingValue → Type 0 = λ a o.
      Content limits text None session a o (Some text) None in
      subst (λ a. C a before.orders) stands.acts_are
      (subst (λ o. C session.acts o) stands.orders_are (content_unsound limits text session)));
  frames_are = ap (λ (r : Crossing H). r.frames) passes.others;
  gives = inl (
    passes.gives,
    ap (λ (r : Crossing H). r.client.held) passes.others,
    ap (λ (r : Crossing H). r.refused) passes.others,
  );
}

-- a place of the limits' rows has a row
pub some_row : {A : Type 0} (rows : List A) (place : ℕ) → place < length rows
    → slice_get rows place ≡ None → ⊥
some_row [] place inside none = absurd (omega (arith, inside))
some_row (row ∷ rows) zero inside none = absurd cc
some_row (row ∷ rows) (suc place) inside none = some_row rows place (omega (arith, inside)) none

-- what is said of the row at a place
pub at_row : {A : Type 0} (P : A → Type 0) (rows : List A) (place : ℕ) (d : A)
    → place < length rows → P (slice_index_or rows place d) → IfSome (slice_get rows place) P
at_row P [] place d inside holds = absurd (omega (arith, inside))
at_row P (row ∷ rows) zero d inside holds = holds
at_row P (row ∷ rows) (suc place) d inside holds =
    at_row P rows place d (omega (arith, inside)) holds

-- what is said of a place, where there is one
pub if_place : (found place : Option ℕ) (P : ℕ → Type 0) → found ≡ place
    → ((own : ℕ) → place ≡ Some own → P own) → IfSome found P
if_place None place P is holds = tt
if_place (Some own) place P is holds = holds own (sym is)
