-- A frame that was noted, or taken up and taken, is one frame more.
use Rattle.std.proofs.Common.{◌≡◌, ◌<◌, List, [], ◌∷◌, ◌++◌, length, map, refl, sym, ap, ◌∙◌, subst}
use Rattle.std.proofs.Common.{true, false, arith, ℕ, Option, Some, None, Result, Ok, Err, IfErr}
use Rattle.std.proofs.lemmas.Bool.{false≢true}
use Rattle.fix_fields.specs.Fields.{FieldValue}
use Rattle.fix_fields.specs.Frames.{FrameValue}
use Rattle.fix_fields.specs.Places.{HasFieldsIn}
use Rattle.screen_kit.specs.Screens.{ScreenValue}
use Rattle.limit_table.specs.Trees.{LimitsValue}
use Rattle.frame_run.specs.Ends.{input_most}
use Rattle.fix_fields.specs.declared.frame.Frame.{Frame}
use Rattle.frame_run.specs.Frames.{FrameIn, IsFrameOf}
use Rattle.frame_run.specs.Taking.{TakesNext, StopsNext}
use Rattle.frame_run.proofs.Stops.{stops_within, stops_before}
use Rattle.gate_ports.specs.declared.ports.PortFault.{PortFault}
use Rattle.gate_ports.specs.declared.ports.PortFault.TheVariants as fault
use Rattle.order_desk.specs.Desks.{HasRoom}
use Rattle.session_engine.specs.declared.counts.Counts.{Counts}
use Rattle.session_engine.specs.declared.note.Note.TheVariants as note
use Rattle.session_engine.specs.Running.{Running, Continues, kept_of, HasTaken, IsReady}
use Rattle.session_engine.specs.Running.{frame_acts, TookFrames, StoppedFrames, TakesFront}
use Rattle.session_engine.specs.Stopped.{stopped_whole}
use Rattle.session_engine.specs.Session.{after_frame, orders_with, screens_with}
use Rattle.session_engine.specs.Taken.{Kept, TakesFrom, TakesSound, counted, noted_act}
use Rattle.session_engine.proofs.PassedFrames.{sound_takes, unsound_takes}
use Rattle.session_engine.proofs.RunLemmas.{small_counts, trips_kept, took_next}
use Rattle.session_engine.proofs.Stopping.{stopped_next}
use Rattle.session_engine.proofs.TakenLemmas.{with_taken}

-- a frame that is sound has fields
some_fields : (sound : FrameIn) (fields : Option (List FieldValue)) → sound.frame.sound ≡ true
    → IsFrameOf sound.bytes sound.frame fields
    → (listed : List FieldValue) × HasFieldsIn sound.bytes sound.frame listed
some_fields sound None is (from, stands, has) = absurd (false≢true (sym has ∙ is))
some_fields sound (Some listed) is (from, stands, has) = (listed, (from, stands))

-- the session with these screens and counts
abbrev pub with_screens : {H M K : Type 0} → List K → Counts → Running H M K → Running H M K
with_screens screens counts before = record before {
  desk = record (before.desk) { screens = screens };
  counts = counts;
}

module _ {H M K : Type 0} (meaning : K → ScreenValue) where
  -- a session that took room is ready
  pub ready_reserved : (start before now : Running H M K) (frames : List FrameValue)
      → TookFrames meaning start frames before → length frames < input_most
      → now.desk.limits ≡ before.desk.limits → kept_of meaning now ≡ kept_of meaning before
      → HasRoom frame_acts now.desk → IsReady now
  ready_reserved start before now frames took few limits same room =
      let counts : now.counts ≡ before.counts = ap (λ (k : Kept). k.counts) same in
      let acts : now.desk.hands.acts ≡ before.desk.hands.acts = ap (λ (k : Kept). k.acts) same in
      record {
        room = room;
        counts = rw counts (small_counts meaning start before frames took few);
        trips = rw (limits, acts, counts) (trips_kept meaning start before frames took few);
      }

  -- an order that is taken up changes nothing of that
  pub ready_taken : (sound : FrameIn) (before now : Running H M K)
      (fields : Option (List FieldValue)) → IsReady before
      → now ≡ with_screens now.desk.screens now.counts before
      → ((listed : List FieldValue) → HasFieldsIn sound.bytes sound.frame listed
      → now.counts ≡ record (before.counts) {
        orders = orders_with listed before.counts.orders;
      }) → sound.frame.sound ≡ true → IsFrameOf sound.bytes sound.frame fields → IsReady now
  ready_taken sound before now fields ready same counts is frame =
      let some = some_fields sound fields is frame in
      rw same (rw (counts some.0 some.1) (record {
        room = record {
          acts_fit = ready.room.acts_fit;
          order_fits = ready.room.order_fits;
        };
        counts = record {
          frames = ready.counts.frames;
          venue = ready.counts.venue;
          client = ready.counts.client;
        };
        trips = record { posts = ready.trips.posts; firms = ready.trips.firms };
      }))

  -- a session that keeps what it kept, as room is taken, took the same frames
  pub took_kept : (start before now : Running H M K) (frames : List FrameValue)
      {SameSum : H → H → Type 0} {SameHalt : M → M → Type 0} {acts : ℕ}
      → Continues SameSum SameHalt before now acts → kept_of meaning now ≡ kept_of meaning before
      → TookFrames meaning start frames before → TookFrames meaning start frames now
  took_kept start before now frames continues same took = record {
    session = took.session;
    reached = took.reached;
    limits_are = continues.desk_is.limits_are ∙ took.limits_are;
    stands = rw same took.stands;
    counts = took.counts;
    venue_grows = rw (ap (λ (k : Kept). k.venue) same) took.venue_grows;
    client_grows = rw (ap (λ (k : Kept). k.client) same) took.client_grows;
    venue_later = omega (arith, took.venue_later, continues.venue_is.faults_are);
    client_later = omega (arith, took.client_later, continues.client_is.faults_are);
  }

  -- a frame that isn't sound was noted
  pub took_unsound : (whole : FrameIn) (start reserved now : Running H M K)
      (frames : List FrameValue) (next : FrameValue)
      {SameSum : H → H → Type 0} {SameHalt : M → M → Type 0} {acts : ℕ}
      → Continues SameSum SameHalt reserved now acts
      → kept_of meaning now ≡ record (kept_of meaning reserved) {
        acts = reserved.desk.hands.acts ++ noted_act note.NotSound reserved.counts.frames ∷ [];
        counts = counted reserved.counts;
      } → whole.frame.sound ≡ false → IsFrameOf whole.bytes whole.frame next.fields
      → TookFrames meaning start frames reserved
      → TookFrames meaning start (frames ++ next ∷ []) now
  took_unsound whole start reserved now frames next continues noted is frame took =
      took_next meaning start reserved frames took now next continues.desk_is.limits_are
      continues.venue_is.faults_are continues.client_is.faults_are
      (unsound_takes reserved.desk.limits whole (kept_of meaning reserved) (kept_of meaning now)
      next.fields is frame noted)

  -- a sound frame that stands in these bytes was taken up, by what its fields are
  module _ (sound : FrameIn) (reserved up : Running H M K)
      (same : up ≡ with_screens up.desk.screens up.counts reserved)
      (counts : (listed : List FieldValue) → HasFieldsIn sound.bytes sound.frame listed
      → up.counts ≡ record (reserved.counts) {
        orders = orders_with listed reserved.counts.orders;
      })
      (left : (listed : List FieldValue) → HasFieldsIn sound.bytes sound.frame listed
      → map meaning up.desk.screens ≡ screens_with reserved.desk.limits listed
      reserved.counts.orders (map meaning reserved.desk.screens))
      (next : FrameValue) (is : sound.frame.sound ≡ true)
      (frame : IsFrameOf sound.bytes sound.frame next.fields) where
    up_limits : up.desk.limits ≡ reserved.desk.limits
    up_limits = ap (λ (r : Running H M K). r.desk.limits) same

    some : (listed : List FieldValue) × HasFieldsIn sound.bytes sound.frame listed
    some = some_fields sound next.fields is frame

    up_kept : kept_of meaning up
        ≡ with_taken up.counts.orders (map meaning up.desk.screens) (kept_of meaning reserved)
    up_kept =
        let orders = up.counts.orders in
        let screens = map meaning up.desk.screens in
        let counted_is = counts some.0 some.1 in
        let counts_are : up.counts ≡ record (reserved.counts) { orders = orders } = counted_is
        ∙ ap (λ (n : ℕ). let c : Counts = record (reserved.counts) { orders = n } in c)
        (sym (ap (λ (c : Counts). c.orders) counted_is)) in
        ap (kept_of meaning) same
        ∙ ap (λ (c : Counts). let k : Kept = record (kept_of meaning reserved) {
          counts = c;
          screens = screens;
        } in k) counts_are

    -- what was made of it leads on from the session before
    sound_step : (after : Kept) → TakesSound up.desk.limits sound (kept_of meaning up) after
        → TakesFrom (after_frame reserved.desk.limits next.fields) 1 (kept_of meaning reserved)
        after
    sound_step after taken =
        let S : LimitsValue → Type 0 = λ l. TakesSound l sound (kept_of meaning up) after in
        let U : Kept → Type 0 = λ k. TakesSound reserved.desk.limits sound k after in
        sound_takes reserved.desk.limits sound (kept_of meaning reserved) after
        up.counts.orders (map meaning up.desk.screens) next.fields
        (λ listed has. ap (λ (c : Counts). c.orders) (counts listed has)) left
        (subst U up_kept (subst S up_limits taken)) is frame

    -- it was taken
    pub took_sound : (start now : Running H M K) (frames : List FrameValue)
        {SameSum : H → H → Type 0} {SameHalt : M → M → Type 0} {acts : ℕ}
        → Continues SameSum SameHalt up now acts → HasTaken meaning sound up now
        → TookFrames meaning start frames reserved
        → TookFrames meaning start (frames ++ next ∷ []) now
    took_sound start now frames continues taken took =
        took_next meaning start reserved frames took now next
        (continues.desk_is.limits_are ∙ up_limits)
        (rw same at (continues.venue_is.faults_are))
        (rw same at (continues.client_is.faults_are))
        (sound_step (kept_of meaning now) taken)

    -- it was taken but for the end of its message
    pub stopped_sound : (start now : Running H M K) (frames : List FrameValue) (why : PortFault)
        (given failed : Type 0) {SameSum : H → H → Type 0} {SameHalt : M → M → Type 0} {acts : ℕ}
        → (why ≡ fault.Failed → failed)
        → Continues SameSum SameHalt up now acts → TakesFront meaning sound given failed up now
        → TookFrames meaning start frames reserved
        → StoppedFrames meaning why start (frames ++ next ∷ []) now
    stopped_sound start now frames why given failed fails continues takes took =
        let some_counts = counts some.0 some.1 in
        stopped_next meaning start reserved up now frames next takes.venue takes.client given failed
        took (sound_step (record (kept_of meaning now) {
          venue = takes.venue;
          client = takes.client;
        }) takes.taken) (continues.desk_is.limits_are ∙ up_limits)
        (ap (λ (r : Running H M K). r.venue) same)
        (ap (λ (r : Running H M K). r.client) same) (ap (λ (c : Counts). c.venue) some_counts)
        (ap (λ (c : Counts). c.client) some_counts) continues.venue_is.faults_are
        continues.client_is.faults_are why fails takes.gives

-- what comes of a refusal, whatever it is for
pub stopped_result : {H M K : Type 0} (meaning : K → ScreenValue) (bytes : List ℕ) (frame : Frame)
    (before now : Running H M K) (result : Result (Unit {0}) PortFault)
    → ((why : PortFault) → result ≡ Err why
    → TakesNext (λ input. TookFrames meaning) (λ input. StoppedFrames meaning why) bytes frame
    before now)
    → IfErr result
    (λ why. StopsNext (λ input. TookFrames meaning) (λ why input. StoppedFrames meaning why) why bytes
    frame before now)
stopped_result meaning bytes frame before now (Ok done) stops = tt
stopped_result meaning bytes frame before now (Err why) stops =
    stops_within (λ input. TookFrames meaning) (λ why input. StoppedFrames meaning why) bytes frame
    before now why
    (stops why refl)

-- what comes of a want of memory before the frame
pub stopped_before : {H M K : Type 0} (meaning : K → ScreenValue) (bytes : List ℕ) (frame : Frame)
    (before now : Running H M K) (result : Result (Unit {0}) PortFault)
    → IfErr result (λ why. why ≡ fault.Memory)
    → ((start : Running H M K) (frames : List FrameValue) → TookFrames meaning start frames before
    → TookFrames meaning start frames now)
    → IfErr result
    (λ why. StopsNext (λ input. TookFrames meaning) (λ why input. StoppedFrames meaning why) why bytes
    frame before now)
stopped_before meaning bytes frame before now (Ok done) is kept = tt
stopped_before meaning bytes frame before now (Err why) is kept =
    stops_before (λ input. TookFrames meaning) (λ why input. StoppedFrames meaning why) bytes frame
    before now why is
    (λ input start frames took. stopped_whole meaning start now frames (kept start frames took))
