-- What taking a frame does, whatever its kind.
use Rattle.std.proofs.Common.{◌≡◌, ℕ, ◌+◌, ◌≤◌, List, [], ◌∷◌, ◌++◌, length, refl, sym, ap, ◌∙◌}
use Rattle.std.proofs.Common.{subst, Bool, true, false, arith, Option, Some, None, Result}
use Rattle.std.specs.Io.KnownBytes.{Appends}
use Rattle.std.proofs.lemmas.List.{append-nil, length-append}
use Rattle.exposure_book.specs.Books.{BookValue}
use Rattle.fix_fields.specs.Fields.{FieldValue}
use Rattle.fix_orders.specs.declared.message.FieldFault.{FieldFault}
use Rattle.fix_orders.specs.declared.message.Message.{Message}
use Rattle.fix_orders.specs.Reading.{read_of}
use Rattle.order_desk.specs.declared.refusal.Refusal.{Refusal}
use Rattle.screen_kit.specs.Screens.{ScreenValue}
use Rattle.risk_journal.specs.declared.acts.Act.{Act}
use Rattle.risk_journal.specs.ActLists.{SeenAt, reads_of}
use Rattle.session_engine.specs.declared.counts.Counts.{Counts}
use Rattle.session_engine.specs.Session.{LimitsValue, SessionValue, after_frame, after_sound}
use Rattle.session_engine.specs.Session.{after_result, asks, named, asks_more, orders_after}
use Rattle.session_engine.specs.Session.{orders_with, screens_with, taken_up, with_frame}
use Rattle.session_engine.specs.Reaches.{with_reads, Steps}
use Rattle.session_engine.specs.Taken.{Takes, TakesFrom, Kept, StandsAs, with_message, text_in}
use Rattle.session_engine.specs.Trips.{firms_after}
use Rattle.session_engine.proofs.QuietActs.{reads_of-quiet}
use Rattle.session_engine.proofs.TripLemmas.{firms_most}

pub appends_nothing : (held held_after : Option (List ℕ)) → held_after ≡ held
    → Appends held held_after []
appends_nothing None held_after e = tt
appends_nothing (Some bytes) held_after e =
    let P : Option (List ℕ) → Type 0 = λ h. Appends (Some bytes) h [] in subst P (sym e)
    (sym (append-nil bytes))

-- a session that is counted further by one frame
abbrev pub counted : ℕ → SessionValue → SessionValue
counted frames session = record session { frames = frames + 1 }

-- a sound frame by what is read of it
pub frame_by : (limits : LimitsValue) (fields : List FieldValue) (request : Bool)
    (read : Result Message FieldFault) (session : SessionValue) → asks fields ≡ request
    → read_of fields ≡ read
    → with_frame (after_sound limits fields) session
    ≡ counted session.frames
    (after_result limits request fields read (named request fields session))
frame_by limits fields request read session asks_are read_is = rw (read_is, asks_are) refl

-- a step that reads nothing
pub steps_quiet : (step : SessionValue → SessionValue) (session next : SessionValue)
    → reads_of next.acts ≡ reads_of session.acts
    → ((more : List SeenAt) → step (with_reads more session) ≡ with_reads more next)
    → Steps step session next
steps_quiet step session next reads stepped = record {
  seen = [];
  reads_are = reads ∙ sym (append-nil (reads_of session.acts));
  stepped = stepped;
}

-- the session after a frame: its acts, its book, its screens and its client, a refusal that may
-- count, and at most one message more in either stream
abbrev pub next_by : List Act → BookValue → List ScreenValue → List ℕ → Option Refusal
    → Option (List ℕ) → Option (List ℕ) → SessionValue → SessionValue
next_by acts book screens client_id refusal to_venue to_client session = record {
  acts = acts;
  venue = with_message to_venue session.venue;
  client = with_message to_client session.client;
  book = book;
  screens = screens;
  client_id = client_id;
  frames = session.frames + 1;
  orders = session.orders;
  firms = firms_after refusal session.firms;
  reads = session.reads;
}

-- how many messages there are with at most one more
abbrev pub number_after : Option (List ℕ) → ℕ → ℕ
number_after None number = number
number_after (Some text) number = number + 1

-- the counts after a frame with a refusal that may count, and at most one message more in either
-- stream
abbrev pub counts_by : Option Refusal → Option (List ℕ) → Option (List ℕ) → Counts → Counts
counts_by refusal to_venue to_client counts = record {
  frames = counts.frames + 1;
  orders = counts.orders;
  venue = number_after to_venue counts.venue;
  client = number_after to_client counts.client;
  firms = firms_after refusal counts.firms;
}

pub length-with : (message : Option (List ℕ)) (messages : List (List ℕ))
    → length (with_message message messages) ≡ number_after message (length messages)
length-with None messages = refl
length-with (Some text) messages = length-append messages (text ∷ [])

-- a frame was taken, by the session to which it leads
pub takes_next : (step : SessionValue → SessionValue) (most : ℕ) (session : SessionValue) (before after : Kept) (acts : List Act) (book : BookValue)
    (screens : List ScreenValue) (client_id : List ℕ) (refusal : Option Refusal)
    (to_venue to_client : Option (List ℕ))
    → StandsAs before session
    → acts ≡ after.acts → book ≡ after.book → screens ≡ after.screens
    → client_id ≡ after.client_id
    → after.counts ≡ counts_by refusal to_venue to_client before.counts
    → Appends before.venue after.venue (text_in to_venue)
    → Appends before.client after.client (text_in to_client)
    → Steps step session
    (next_by acts book screens client_id refusal to_venue to_client session)
    → (next : SessionValue) × Takes step most session next before after
takes_next step most session before after acts book screens client_id refusal to_venue
    to_client own acts_are book_is screens_are client_is counts venue_grows client_grows steps = (
      next_by acts book screens client_id refusal to_venue to_client session,
      record {
        steps = steps;
        stands = record {
          stands = record {
            acts_are = acts_are;
            book_is = book_is;
            frames = ap (λ (c : Counts). c.frames) counts ∙ ap (λ n. n + 1) own.stands.frames;
            orders = ap (λ (c : Counts). c.orders) counts ∙ own.stands.orders;
            venue = ap (λ (c : Counts). c.venue) counts
                ∙ ap (number_after to_venue) own.stands.venue
                ∙ sym (length-with to_venue session.venue);
            client = ap (λ (c : Counts). c.client) counts
                ∙ ap (number_after to_client) own.stands.client
                ∙ sym (length-with to_client session.client);
            firms = ap (λ (c : Counts). c.firms) counts
                ∙ ap (firms_after refusal) own.stands.firms;
          };
          client_is = client_is;
          screens_are = screens_are;
        };
        to_venue = to_venue;
        to_client = to_client;
        venue_is = refl;
        client_is = refl;
        venue_grows = venue_grows;
        client_grows = client_grows;
        orders_most = omega arith;
        firms_most = firms_most refusal session.firms;
      },
    )

-- a frame that one act tells of, which reads nothing, and that leaves the book and the screens
pub takes_told : (step : SessionValue → SessionValue) (most : ℕ) (session : SessionValue)
    (before after : Kept) (act : ℕ → Act) (client_id : List ℕ)
    (to_venue to_client : Option (List ℕ)) → StandsAs before session
    → reads_of (act session.frames ∷ []) ≡ []
    → after.acts ≡ before.acts ++ act before.counts.frames ∷ [] → after.book ≡ before.book
    → after.screens ≡ before.screens → client_id ≡ after.client_id
    → after.counts ≡ counts_by None to_venue to_client before.counts
    → Appends before.venue after.venue (text_in to_venue)
    → Appends before.client after.client (text_in to_client)
    → ((more : List SeenAt) → step (with_reads more session)
    ≡ with_reads more (next_by (session.acts ++ act session.frames ∷ []) session.book
    session.screens client_id None to_venue to_client session))
    → (next : SessionValue) × Takes step most session next before after
takes_told step most session before after act client_id to_venue to_client own unread acts book
    screens client_is counts venue_grows client_grows stepped =
    takes_next step most session before after _ session.book session.screens client_id None
    to_venue to_client own
    (rw (own.stands.acts_are, ← own.stands.frames) (sym acts))
    (own.stands.book_is ∙ sym book) (own.screens_are ∙ sym screens) client_is counts venue_grows
    client_grows
    (steps_quiet step session _ (reads_of-quiet session.acts (act session.frames ∷ []) unread)
    stepped)

-- one order more at most
orders_most : (order : Bool) (orders : ℕ) → orders_after order orders ≤ orders + 1
orders_most true orders = omega arith
orders_most false orders = omega arith

-- what is kept with so many orders taken up, and these screens left
abbrev pub with_taken : ℕ → List ScreenValue → Kept → Kept
with_taken orders screens kept = record kept {
  counts = record (kept.counts) { orders = orders };
  screens = screens;
}

-- a sound frame was taken up, and then taken
pub takes_up : (limits : LimitsValue) (fields : List FieldValue) (before after : Kept) (orders : ℕ)
    (screens : List ScreenValue) → orders ≡ orders_with fields before.counts.orders
    → screens ≡ screens_with limits fields before.counts.orders before.screens
    → TakesFrom (with_frame (after_sound limits fields)) 0 (with_taken orders screens before) after
    → TakesFrom (after_frame limits (Some fields)) 1 before after
takes_up limits fields before after orders screens is left takes session own =
    let took = takes (taken_up limits fields session) (record {
      stands = record {
        acts_are = own.stands.acts_are;
        book_is = own.stands.book_is;
        frames = own.stands.frames;
        orders = is ∙ ap (orders_with fields) own.stands.orders;
        venue = own.stands.venue;
        client = own.stands.client;
        firms = own.stands.firms;
      };
      client_is = own.client_is;
      screens_are = ap (λ n. screens_with limits fields n session.screens) (sym own.stands.orders)
          ∙ ap (screens_with limits fields before.counts.orders) own.screens_are ∙ sym left;
    }) in
    let one = took.1 in (
      took.0,
      record {
        steps = record {
          seen = one.steps.seen;
          reads_are = one.steps.reads_are;
          stepped = one.steps.stepped;
        };
        stands = one.stands;
        to_venue = one.to_venue;
        to_client = one.to_client;
        venue_is = one.venue_is;
        client_is = one.client_is;
        venue_grows = one.venue_grows;
        client_grows = one.client_grows;
        orders_most = omega (arith, one.orders_most, orders_most (asks_more fields) session.orders);
        firms_most = one.firms_most;
      },
    )
