-- A frame that is only noted or counted.
use Rattle.std.proofs.Common.{◌≡◌, ℕ, List, [], ◌∷◌, ◌++◌, refl, sym, ◌∙◌, true, false}
use Rattle.std.specs.Prelude.{Option, Some, None, Ok}
use Rattle.std.proofs.lemmas.Bool.{false≢true}
use Rattle.fix_fields.specs.Fields.{FieldValue}
use Rattle.fix_fields.specs.Places.{HasFieldsIn}
use Rattle.frame_run.specs.Frames.{FrameIn, IsFrameOf}
use Rattle.fix_orders.specs.declared.message.Message.TheVariants as message
use Rattle.fix_orders.specs.Reading.{read_of}
use Rattle.risk_journal.specs.declared.acts.Act.{Act}
use Rattle.risk_journal.specs.ActLists.{SeenAt}
use Rattle.screen_kit.specs.Screens.{ScreenValue}
use Rattle.session_engine.specs.declared.note.Note.{Note}
use Rattle.session_engine.specs.declared.note.Note.TheVariants as note
use Rattle.session_engine.specs.Session.{LimitsValue, SessionValue, asks, after_frame, after_sound}
use Rattle.session_engine.specs.Session.{orders_with, screens_with, with_frame}
use Rattle.session_engine.specs.Reaches.{with_reads}
use Rattle.session_engine.specs.Taken.{Kept, StandsAs, Takes, TakesFrom, TakesSound}
use Rattle.session_engine.specs.Taken.{counted, noted_act}
use Rattle.session_engine.proofs.TakenLemmas.{frame_by, steps_quiet, next_by, takes_next}
use Rattle.session_engine.proofs.TakenLemmas.{takes_told, appends_nothing, takes_up, with_taken}

-- what is kept after a frame that only leads to these acts and is counted
abbrev pub Passes : List Act → Kept → Kept → Type 0
Passes acts before after = after ≡ record before { acts = acts; counts = counted before.counts }

-- a frame that is noted and counted
takes_noted : (step : SessionValue → SessionValue) (most : ℕ) (session : SessionValue)
    (before after : Kept) (what : Note) → StandsAs before session
    → Passes (before.acts ++ noted_act what before.counts.frames ∷ []) before after
    → ((more : List SeenAt) → step (with_reads more session)
    ≡ with_reads more (next_by (session.acts ++ noted_act what session.frames ∷ []) session.book
    session.screens session.client_id None None None session))
    → (next : SessionValue) × Takes step most session next before after
takes_noted step most session before after what own passes stepped =
    rw passes (takes_told step most session before _ (noted_act what) session.client_id None None
    own refl refl refl refl own.client_is refl (appends_nothing before.venue before.venue refl)
    (appends_nothing before.client before.client refl) stepped)

-- a message of another type
pub takes_other : (limits : LimitsValue) (fields : List FieldValue) (session : SessionValue)
    (before after : Kept) → asks fields ≡ false → read_of fields ≡ Ok message.Other
    → StandsAs before session
    → Passes (before.acts ++ noted_act note.OtherType before.counts.frames ∷ []) before after
    → (next : SessionValue)
    × Takes (with_frame (after_sound limits fields)) 0 session next before after
takes_other limits fields session before after asks_are read own passes =
    takes_noted (with_frame (after_sound limits fields)) 0 session before after note.OtherType own
    passes
    (λ more. frame_by limits fields false (Ok message.Other) (with_reads more session) asks_are
    read)

-- a message of the session
pub takes_admin : (limits : LimitsValue) (fields : List FieldValue) (session : SessionValue)
    (before after : Kept) → asks fields ≡ false → read_of fields ≡ Ok message.Admin
    → StandsAs before session → Passes before.acts before after
    → (next : SessionValue)
    × Takes (with_frame (after_sound limits fields)) 0 session next before after
takes_admin limits fields session before after asks_are read own passes =
    rw passes (takes_next (with_frame (after_sound limits fields)) 0 session before _ _ _ _ _ None
    None None own own.stands.acts_are own.stands.book_is own.screens_are own.client_is refl
    (appends_nothing before.venue before.venue refl)
    (appends_nothing before.client before.client refl)
    (steps_quiet (with_frame (after_sound limits fields)) session
    (next_by session.acts session.book session.screens session.client_id None None None session)
    refl
    (λ more. frame_by limits fields false (Ok message.Admin) (with_reads more session) asks_are
    read)))

-- a sound frame is taken up and taken, whatever its fields are
pub sound_takes : (limits : LimitsValue) (sound : FrameIn) (before after : Kept)
    (orders : ℕ) (screens : List ScreenValue) (fields : Option (List FieldValue))
    → ((listed : List FieldValue) → HasFieldsIn sound.bytes sound.frame listed
    → orders ≡ orders_with listed before.counts.orders)
    → ((listed : List FieldValue) → HasFieldsIn sound.bytes sound.frame listed
    → screens ≡ screens_with limits listed before.counts.orders before.screens)
    → TakesSound limits sound (with_taken orders screens before) after
    → sound.frame.sound ≡ true → IsFrameOf sound.bytes sound.frame fields
    → TakesFrom (after_frame limits fields) 1 before after
sound_takes limits sound before after orders screens None is left takes is_sound (from, stands, has) =
    absurd (false≢true (sym has ∙ is_sound))
sound_takes limits sound before after orders screens (Some listed) is left takes is_sound
    (from, stands, has) =
    takes_up limits listed before after orders screens (is listed (from, stands))
    (left listed (from, stands)) (takes listed (from, stands))

-- a frame that isn't sound is noted
pub unsound_takes : (limits : LimitsValue) (whole : FrameIn) (before after : Kept)
    (fields : Option (List FieldValue)) → whole.frame.sound ≡ false
    → IsFrameOf whole.bytes whole.frame fields
    → Passes (before.acts ++ noted_act note.NotSound before.counts.frames ∷ []) before after
    → TakesFrom (after_frame limits fields) 1 before after
unsound_takes limits whole before after None sound frame_is passes session own =
    takes_noted (after_frame limits None) 1 session before after note.NotSound own passes
    (λ more. refl)
unsound_takes limits whole before after (Some listed) sound (from, stands, is) passes session own =
    absurd (false≢true (sym sound ∙ is))
