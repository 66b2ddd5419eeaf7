-- A session that decided, told and gave has taken its frame.
use Rattle.std.proofs.Common.{◌≡◌, ℕ, ◌+◌, List, [], ◌∷◌, ◌++◌, map, refl, sym, ap, ◌∙◌, arith, inl}
use Rattle.std.proofs.Common.{inr, Option, Some, None, true}
use Rattle.std.specs.Io.KnownBytes.{Appends}
use Rattle.exposure_book.specs.Books.{BookValue}
use Rattle.gate_ports.specs.Faults.{HasCause}
use Rattle.fix_fields.specs.Fields.{FieldValue}
use Rattle.fix_fields.specs.Places.{HasFieldsIn}
use Rattle.screen_kit.specs.Screens.{ScreenValue}
use Rattle.frame_run.specs.Frames.{FrameIn}
use Rattle.frame_run.specs.Sinks.{SinkValue, IsLaterSink}
use Rattle.order_desk.specs.declared.effect.Effect.{Effect}
use Rattle.order_desk.specs.declared.refusal.Refusal.{Refusal}
use Rattle.order_desk.specs.Decisions.{Decides}
use Rattle.order_desk.specs.Desks.{DeskValue, IsLater}
use Rattle.order_desk.specs.Reported.{Settled}
use Rattle.session_engine.specs.declared.counts.Counts.{Counts}
use Rattle.session_engine.specs.Later.{continues_then, same_sink, later_sink}
use Rattle.session_engine.specs.Running.{Running, Continues, kept_of, TellsAnswer, TakesFront, frame_acts}
use Rattle.fix_orders.specs.declared.message.Message.{Message}
use Rattle.fix_orders.specs.declared.message.Stamp.{Stamp}
use Rattle.fix_orders.specs.Faults.{value_of}
use Rattle.fix_orders.specs.Put.{IsPassedOn, is_passed}
use Rattle.session_engine.specs.Answers.{Wording, forward_text}
use Rattle.session_engine.specs.Taken.{Kept, TakesSound, ReadsAs, answer_act, answer_stamp, note_acts, note_by, counted_client}
use Rattle.session_engine.specs.Taken.{counts_answered, counts_decided, Forwards, Gives, GivesFront}
use Rattle.session_engine.specs.Trips.{acts_tripped}
use Rattle.session_engine.proofs.MessageFacts.{HeadFacts}
use Rattle.session_engine.proofs.ReportFrames.{Told, takes_report}
use Rattle.session_engine.proofs.RequestFrames.{Asked, IsAnswered, takes_request}

-- the answer to a request has the request's time
pub answer_time : (refusal : Option Refusal) (time client_id : List ℕ) (counts : Counts)
    → (answer_stamp refusal time client_id counts).time ≡ time
answer_time None time client_id counts = refl
answer_time (Some why) time client_id counts = refl

module _ {H M K : Type 0} (meaning : K → ScreenValue) where
  -- what is kept, with what the sinks hold after they were given to
  abbrev pub given : Running H M K → Option (List ℕ) → Option (List ℕ) → Kept
  given told venue client = record (kept_of meaning told) { venue = venue; client = client }

  -- what was sent is its answer
  pub sent_answer : (wording : Wording) (fields : List FieldValue) (refusal : Option Refusal)
      (time : List ℕ) (now told : Running H M K) (venue : Option (List ℕ)) (stamp : Stamp)
      → told ≡ now → refusal ≡ None
      → stamp ≡ answer_stamp refusal time now.client_id now.counts
      → Appends told.venue.held venue (forward_text stamp.target stamp.seq fields)
      → IsAnswered wording fields refusal (kept_of meaning told)
      (given told venue told.client.held)
  sent_answer wording fields (Some why) time now told venue stamp told_is is stamp_is gives =
      absurd cc
  sent_answer wording fields None time now told venue stamp told_is is stamp_is gives =
      (rw told_is (rw (stamp_is, told_is) at gives), refl)

  -- and so is what refuses it
  pub refused_answer : (wording : Wording) (fields : List FieldValue) (refusal : Option Refusal)
      (why : Refusal) (time : List ℕ) (now told : Running H M K) (client : Option (List ℕ))
      (stamp : Stamp) → told ≡ now → refusal ≡ Some why
      → stamp ≡ answer_stamp refusal time now.client_id now.counts
      → Appends told.client.held client (wording stamp.target stamp.seq fields why)
      → IsAnswered wording fields refusal (kept_of meaning told)
      (given told told.venue.held client)
  refused_answer wording fields None why time now told client stamp told_is is stamp_is gives =
      absurd cc
  refused_answer wording fields (Some other) why time now told client stamp told_is is stamp_is
      gives =
      let same : why ≡ other = cc in
      (refl, rw told_is (rw (same, stamp_is, told_is) at gives))

-- a request that is sent has the next message to the venue
number_sent : (refusal : Option Refusal) (counts : Counts) → refusal ≡ None
    → (counts_answered refusal (counts_decided refusal counts)).venue ≡ counts.venue + 1
number_sent None counts is = refl
number_sent (Some why) counts is = absurd cc

-- one that is refused has the next message to the client
number_refused : (refusal : Option Refusal) (why : Refusal) (counts : Counts) → refusal ≡ Some why
    → (counts_answered refusal (counts_decided refusal counts)).client ≡ counts.client + 1
number_refused None why counts is = absurd cc
number_refused (Some other) why counts is = refl

-- a message that is passed on
pub passes : (sound : FrameIn) (whole : Message) → ReadsAs sound whole → is_passed whole ≡ true
    → IsPassedOn sound.bytes sound.frame
passes sound whole own is = (
  whole,
  record {
    listed = own.is_sound.0;
    stands = own.is_sound.1;
    read = own.each own.is_sound.0 own.is_sound.1;
  },
  is,
)

-- a request was decided on and told
module _ {H M K : Type 0} (meaning : K → ScreenValue) (full failed : Type 0) (asked : Asked)
    (sound : FrameIn) (own before : Running H M K) (decided : DeskValue H M K)
    (refusal : Option Refusal) (now told : Running H M K) (before_is : before ≡ own)
    (told_is : told ≡ now) (reads : ReadsAs sound asked.message)
    (limits : decided.limits ≡ before.desk.limits)
    (decides : Decides (asked.decide before.desk.limits (map meaning before.desk.screens))
    before.desk.hands.acts decided.hands.acts before.desk.book.value decided.book.value refusal)
    (screens : map meaning decided.screens
    ≡ asked.screens before.desk.limits (map meaning before.desk.screens) before.desk.book.value)
    (tells : TellsAnswer refusal asked.head.sender (record before { desk = decided }) now) where
  facts : (fields : List FieldValue) → HasFieldsIn sound.bytes sound.frame fields
      → HeadFacts true fields asked.head
  facts fields has = asked.facts fields (reads.each fields has)

  answered_from : (venue client : Option (List ℕ)) (answer : Option Refusal)
      (fields : List FieldValue) → told.venue.held ≡ before.venue.held
      → told.client.held ≡ before.client.held
      → IsAnswered asked.wording fields answer (kept_of meaning told)
      (given meaning told venue client)
      → IsAnswered asked.wording fields answer (kept_of meaning before)
      (given meaning told venue client)
  answered_from venue client None fields venue_is client_is is =
      (rw venue_is at (is.0), is.1 ∙ client_is)
  answered_from venue client (Some why) fields venue_is client_is is =
      (is.0 ∙ venue_is, rw client_is at (is.1))

  -- and answered
  request_taken : (venue client : Option (List ℕ))
      → ((fields : List FieldValue) → HasFieldsIn sound.bytes sound.frame fields
      → IsAnswered asked.wording fields refusal (kept_of meaning told)
      (given meaning told venue client))
      → TakesSound before.desk.limits sound (kept_of meaning before)
      (given meaning told venue client)
  request_taken venue client answered fields has session stands =
      let told_too = rw (← told_is) at tells in
      takes_request before.desk.limits fields asked session (facts fields has)
      (reads.each fields has) (kept_of meaning before) (given meaning told venue client) stands
      decided.hands.acts refusal (record {
        decides = rw (ap (λ (r : Running H M K). r.desk.book.value) told_too.others) decides;
        acts = told_too.acts
            ∙ ap (λ l. acts_tripped l refusal before.counts.firms decided.hands.acts
            ++ answer_act before.counts.frames refusal ∷ []) limits;
        screens = ap (λ (r : Running H M K). map meaning r.desk.screens) told_too.others ∙ screens;
        counts = told_too.counts;
        client_id = told_too.client_id;
        answered = answered_from venue client refusal fields
            (ap (λ (r : Running H M K). r.venue.held) told_too.others)
            (ap (λ (r : Running H M K). r.client.held) told_too.others) (answered fields has);
      })

  -- what holds from the session before holds from the session itself
  taken_from : (after : Running H M K) → TakesFront meaning sound full failed before after
      → TakesFront meaning sound full failed own after
  taken_from after takes = rw before_is at takes

  -- the answer went to the venue, or a front of it
  pub sent_taken : (after : SinkValue) (stamp : Stamp) → refusal ≡ None
      → stamp ≡ answer_stamp refusal asked.head.time now.client_id now.counts
      → Gives full told.venue.held after.held (Forwards sound stamp told.venue.held)
      → HasCause told.venue.faults after.faults failed
      → TakesFront meaning sound full failed own (record told { venue = after })
  sent_taken after stamp is stamp_is gives cause =
      let same : told.venue ≡ before.venue = ap (λ (r : Running H M K). r.venue) told_is
      ∙ ap (λ (r : Running H M K). r.venue) tells.others in
      taken_from (record told { venue = after }) (record {
        venue = gives.whole;
        client = told.client.held;
        taken = request_taken gives.whole told.client.held
            (λ fields has. sent_answer meaning asked.wording fields refusal asked.head.time now told
            gives.whole stamp told_is is stamp_is (gives.says fields has));
        gives = inl (
          record {
            front = rw same at (gives.front);
            rose = λ has. rw same at (cause.rose has);
            next = λ has. ap (λ (r : Running H M K). r.counts.venue) told_is
                ∙ ap (λ (c : Counts). c.venue) tells.counts
                ∙ number_sent refusal before.counts is;
          },
          refl,
        );
      })

  -- or to the client
  pub refused_taken : (after : SinkValue) (whole : Option (List ℕ)) (stamp : Stamp)
      (why : Refusal) → refusal ≡ Some why
      → stamp ≡ answer_stamp refusal asked.head.time now.client_id now.counts
      → GivesFront full told.client.held after.held whole
      → ((fields : List FieldValue) → HasFieldsIn sound.bytes sound.frame fields
      → stamp.time ≡ value_of 52 fields
      → Appends told.client.held whole (asked.wording stamp.target stamp.seq fields why))
      → HasCause told.client.faults after.faults failed
      → TakesFront meaning sound full failed own (record told { client = after })
  refused_taken after whole stamp why is stamp_is front says cause =
      let same : told.client ≡ before.client = ap (λ (r : Running H M K). r.client) told_is
      ∙ ap (λ (r : Running H M K). r.client) tells.others in
      let time = ap (λ (s : Stamp). s.time) stamp_is
      ∙ answer_time refusal asked.head.time now.client_id now.counts in
      taken_from (record told { client = after }) (record {
        venue = told.venue.held;
        client = whole;
        taken = request_taken told.venue.held whole
            (λ fields has. refused_answer meaning asked.wording fields refusal why asked.head.time
            now told whole stamp told_is is stamp_is
            (says fields has (time ∙ (facts fields has).time)));
        gives = inr (
          record {
            front = rw same at front;
            rose = λ has. rw same at (cause.rose has);
            next = λ has. ap (λ (r : Running H M K). r.counts.client) told_is
                ∙ ap (λ (c : Counts). c.client) tells.counts
                ∙ number_refused refusal why before.counts is;
          },
          refl,
        );
      })

-- a report was settled and told
module _ {H M K : Type 0} (meaning : K → ScreenValue) (full failed : Type 0) (report : Told)
    (sound : FrameIn) (own before : Running H M K) (settled : DeskValue H M K) (effect : Effect)
    (now told : Running H M K) (before_is : before ≡ own) (told_is : told ≡ now)
    (reads : ReadsAs sound report.message) (screens : settled.screens ≡ before.desk.screens)
    (settles : report.settle before.desk.limits before.desk.book.value before.desk.hands.acts
    ≡ record { effect = effect; acts = settled.hands.acts; book = settled.book.value })
    (acts : now.desk.hands.acts
    ≡ settled.hands.acts ++ note_acts before.counts.frames (note_by effect))
    (others : now ≡ record before {
      desk = record settled { hands = now.desk.hands };
      counts = counted_client before.counts;
    }) where
  -- and passed on
  passed_taken : (client : Option (List ℕ))
      → ((fields : List FieldValue) → HasFieldsIn sound.bytes sound.frame fields
      → Appends now.client.held client (forward_text now.client_id now.counts.client fields))
      → TakesSound before.desk.limits sound (kept_of meaning before)
      (given meaning now now.venue.held client)
  passed_taken client passed fields has session stands =
      let done : BookValue → Settled =
      λ book. record { effect = effect; acts = settled.hands.acts; book = book } in
      let read = reads.each fields has in
      takes_report before.desk.limits fields report session (report.facts fields read) read
      (kept_of meaning before) (given meaning now now.venue.held client) stands effect
      settled.hands.acts (record {
        settled = settles ∙ ap done (sym (ap (λ (r : Running H M K). r.desk.book.value) others));
        acts = acts;
        screens = ap (λ (r : Running H M K). map meaning r.desk.screens) others
            ∙ ap (map meaning) screens;
        counts = ap (λ (r : Running H M K). r.counts) others;
        client_id = ap (λ (r : Running H M K). r.client_id) others;
        venue = ap (λ (r : Running H M K). r.venue.held) others;
        client = rw (ap (λ (r : Running H M K). r.client.held) others) at (passed fields has);
      })

  -- it went on to the client, or a front of it
  pub report_taken : (after : SinkValue) (whole : Option (List ℕ))
      → GivesFront full told.client.held after.held whole
      → ((fields : List FieldValue) → HasFieldsIn sound.bytes sound.frame fields
      → Appends told.client.held whole (forward_text now.client_id now.counts.client fields))
      → HasCause told.client.faults after.faults failed
      → TakesFront meaning sound full failed own (record told { client = after })
  report_taken after whole front passed cause =
      let client_is : told.client ≡ now.client = ap (λ (r : Running H M K). r.client) told_is in
      let same : told.client ≡ before.client = client_is
      ∙ ap (λ (r : Running H M K). r.client) others in
      rw (← before_is) (record {
        venue = told.venue.held;
        client = whole;
        taken = rw told_is (passed_taken whole (λ fields has. rw client_is at (passed fields has)));
        gives = inr (
          record {
            front = rw same at front;
            rose = λ has. rw same at (cause.rose has);
            next = λ has. ap (λ (r : Running H M K). r.counts.client) told_is
                ∙ ap (λ (r : Running H M K). r.counts.client) others;
          },
          refl,
        );
      })

-- a session that decided, told and answered the client goes on
pub continues_answered : {H M K : Type 0} (SameSum : H → H → Type 0) (SameHalt : M → M → Type 0)
    → ((a b c : H) → SameSum a b → SameSum b c → SameSum a c)
    → ((a b c : M) → SameHalt a b → SameHalt b c → SameHalt a c)
    → (own before : Running H M K) (decided : DeskValue H M K) (now told : Running H M K)
    (client : SinkValue) → before ≡ own → told ≡ now
    → IsLater SameSum SameHalt before.desk decided 10
    → Continues SameSum SameHalt (record before { desk = decided }) now 2
    → IsLaterSink told.client client
    → Continues SameSum SameHalt own (record told { client = client }) frame_acts
continues_answered {H} {M} {K} SameSum SameHalt next_sum next_halt own before decided now told
    client before_is told_is later tells gives =
    let told_too = rw (← told_is) at tells in
    let all : Continues SameSum SameHalt before told frame_acts =
    continues_then SameSum SameHalt next_sum next_halt before (record before { desk = decided })
    told 10 2 frame_acts (record {
      desk_is = later;
      venue_is = same_sink before.venue;
      client_is = same_sink before.client;
    }) told_too (omega arith) in
    rw (← before_is) (record {
      desk_is = all.desk_is;
      venue_is = all.venue_is;
      client_is = later_sink before.client told.client client all.client_is gives;
    })
