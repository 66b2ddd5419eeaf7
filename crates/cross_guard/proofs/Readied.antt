-- A session that took frames is ready for the next, and goes on with it.
use Rattle.std.proofs.Common.{◌≡◌, ℕ, ◌≤◌, ◌<◌, List, [], ◌++◌, length, refl, sym, ap, ◌∙◌, subst, arith, inl, inr}
use Rattle.std.specs.Prelude.{Option, Some, None, Result, Ok, Err, IfErr, is_some, true, false}
use Rattle.std.specs.List.{concat}
use Rattle.std.specs.Io.KnownBytes.{Appends}
use Rattle.std.specs.Result.{is_ok}
use Rattle.std.proofs.lemmas.Bool.{false≢true}
use Rattle.fix_fields.specs.Fields.{FieldValue}
use Rattle.fix_fields.specs.Frames.{FrameValue}
use Rattle.fix_fields.specs.declared.frame.Frame.{Frame}
use Rattle.gate_ports.specs.declared.ports.PortFault.{PortFault}
use Rattle.gate_ports.specs.declared.ports.PortFault.TheVariants as fault
use Rattle.limit_table.specs.Trees.{LimitsValue}
use Rattle.risk_journal.specs.ActLists.{reads_of}
use Rattle.frame_run.specs.Ends.{input_most}
use Rattle.frame_run.specs.Frames.{IsFrameOf, IsSameFrame, text_in, text_of}
use Rattle.frame_run.specs.Taking.{StopsNext, TakesNext, TakesNone}
use Rattle.frame_run.proofs.Stops.{stops_before, stops_within}
use Rattle.cross_guard.specs.Crossing.{AreOfSymbols, Continues, Crossing, GivesOne, IsReady}
use Rattle.cross_guard.specs.Crossing.{Kept, StandsAs, StoppedFrames, TakesFrom, TakesFront, TakesOrNone}
use Rattle.cross_guard.specs.Crossing.{TakesSound, TookBy, TookFrames, frame_acts, kept_of}
use Rattle.cross_guard.specs.Lasting.{continues_then, stopped_whole}
use Rattle.cross_guard.specs.Resting.{RestingValue}
use Rattle.cross_guard.specs.Session.{CrossSession, after_frame}
use Rattle.cross_guard.specs.Told.{IsOver}
use Rattle.cross_guard.proofs.Stopping.{stopped_next}
use Rattle.cross_guard.proofs.SymbolPlaces.{symbols_after}
use Rattle.cross_guard.proofs.TookFrames.{took_next}

-- a session over the same limits and trees
over_still : {H : Type 0} (Same : H → H → Type 0) (before now : Crossing H) (acts : ℕ)
    → IsOver before.limits before.told → Continues Same before now acts → IsOver now.limits now.told
over_still {H} Same before now acts over continues =
    let L : LimitsValue → Type 0 = λ l. IsOver l now.told in
    subst L (sym continues.limits_are) (record {
      trees_are = continues.told_is.trees_are ∙ over.trees_are;
      quota_is = continues.told_is.quota_is ∙ over.quota_is;
    })

module _ {H : Type 0} (Same : H → H → Type 0) (input : List ℕ) (start before : Crossing H)
    (frames : List FrameValue) (took_all : TookFrames input start frames before) where
  abbrev took : TookBy (λ tree stamp. 0) input start frames before
  took = took_all (λ tree stamp. 0)

  -- each order is of a symbol of the limits
  symbols : AreOfSymbols (length before.limits.symbols) before.orders
  symbols =
      let by = ap (λ (s : CrossSession). s.orders) (took.reached []) ∙ took.stands.orders_are in
      let S : List RestingValue → Type 0 = λ o. AreOfSymbols (length start.limits.symbols) o in
      let L : LimitsValue → Type 0 = λ l. AreOfSymbols (length l.symbols) before.orders in
      subst L (sym took.limits_are)
      (subst S by (symbols_after start.limits input (reads_of took.session.acts ++ []) frames))

  -- a session that took room is ready
  pub ready : (now : Crossing H) → length frames < input_most → Continues Same before now 0
      → kept_of now ≡ kept_of before → frame_acts ≤ now.told.room → IsReady now
  ready now few continues same room =
      let counted = took.counted in
      let stands = took.stands in
      let frames_are = ap (λ (k : Kept). k.frames) same in
      let refused_are = ap (λ (k : Kept). k.refused) same in
      let L : LimitsValue → Type 0 = λ l. AreOfSymbols (length l.symbols) now.orders in
      record {
        room = room;
        over = over_still Same before now 0 took.over continues;
        frames = omega (arith, few, counted, stands.frames_are, frames_are);
        refused = omega (
          arith,
          few,
          counted,
          stands.frames_are,
          stands.client_are,
          stands.passed_are,
          refused_are,
        );
        symbols = subst L (sym continues.limits_are)
            (subst (AreOfSymbols (length before.limits.symbols))
            (sym (ap (λ (k : Kept). k.orders) same)) symbols);
      }

  -- a session that keeps what it kept, as room is taken, took the same frames
  pub took_kept : (now : Crossing H) (acts : ℕ) → Continues Same before now acts
      → kept_of now ≡ kept_of before → TookFrames input start frames now
  took_kept now acts continues same = λ place.
      let own = took_all place in
      let P : Kept → Type 0 = λ k. Appends start.pass.held k.pass (concat own.session.passed) in
      let C : Kept → Type 0 = λ k. Appends start.client.held k.client (concat own.session.client) in
      record {
        session = own.session;
        reached = own.reached;
        limits_are = continues.limits_are ∙ own.limits_are;
        over = over_still Same before now acts own.over continues;
        stands = subst (λ (k : Kept). StandsAs place k own.session) (sym same) own.stands;
        counted = own.counted;
        pass_grows = subst P (sym same) own.pass_grows;
        client_grows = subst C (sym same) own.client_grows;
        pass_later = omega (arith, own.pass_later, continues.pass_is.faults_are);
        client_later = omega (arith, own.client_later, continues.client_is.faults_are);
      }

-- what was given whole leads to what is kept
pub whole_step : {H : Type 0} (step : Kept → Kept → Type 0) (given failed : Type 0)
    (before now : Crossing H) → TakesFront step given failed before now → given
    → step (kept_of before) (kept_of now)
whole_step {H} step given failed before now front is = by front.pass front.client front.taken front.gives
  where
    by : (pass client : Option (List ℕ))
        → step (kept_of before) (record (kept_of now) { pass = pass; client = client })
        → GivesOne given failed before now pass client → step (kept_of before) (kept_of now)
    by pass client taken (inl (gives, other, same)) =
        let S : Option (List ℕ) → Option (List ℕ) → Type 0 = λ p c. step (kept_of before)
        (record (kept_of now) { pass = p; client = c }) in
        subst (λ p. S p now.client.held) (sym (gives.front.all is))
        (subst (S pass) (sym other) taken)
    by pass client taken (inr (gives, other, same)) =
        let S : Option (List ℕ) → Option (List ℕ) → Type 0 = λ p c. step (kept_of before)
        (record (kept_of now) { pass = p; client = c }) in
        subst (λ p. S p now.client.held) (sym other)
        (subst (S pass) (sym (gives.front.all is)) taken)

-- nothing was done of the frame, for want of memory, by a session that keeps what it kept
none_taken : {H : Type 0} (Same : H → H → Type 0) (bytes : List ℕ) (frame : Frame)
    (before now : Crossing H) (acts : ℕ) → Continues Same before now acts → kept_of now ≡ kept_of before
    → TakesNone TookFrames (StoppedFrames fault.Memory) before now
none_taken {H} Same bytes frame before now acts continues same = λ input start frames took.
    stopped_whole input start now frames
    (took_kept Same input start before frames took now acts continues same)

-- what comes of a want of memory before the frame was read
pub stopped_before : {H : Type 0} (Same : H → H → Type 0) (bytes : List ℕ) (frame : Frame)
    (before now : Crossing H) (acts : ℕ) (result : Result (Unit {0}) PortFault)
    → IfErr result (λ why. why ≡ fault.Memory) → Continues Same before now acts
    → kept_of now ≡ kept_of before
    → IfErr result (λ why. StopsNext TookFrames StoppedFrames why bytes frame before now)
stopped_before Same bytes frame before now acts (Ok done) is continues same = tt
stopped_before Same bytes frame before now acts (Err why) is continues same =
    stops_before TookFrames StoppedFrames bytes frame before now why is
    (none_taken Same bytes frame before now acts continues same)

-- A frame was taken by a session that took room for it, or for want of memory nothing was done.
module _ {H : Type 0} (Same : H → H → Type 0) (next_same : (a b c : H) → Same a b → Same b c → Same a c)
    (bytes : List ℕ) (frame : Frame) (before reserved now : Crossing H)
    (room : Continues Same before reserved 0) (same : kept_of reserved ≡ kept_of before)
    (on : Continues Same reserved now frame_acts) (step : Kept → Kept → Type 0)
    (steps : (input : List ℕ) (next : FrameValue) → IsSameFrame bytes frame input next → (a b : Kept)
    → step a b → TakesFrom (after_frame reserved.limits (text_of input next) next.fields) a b) where
  takes_next : (given failed : Type 0) → TakesFront step given failed reserved now → given
      → TakesNext TookFrames TookFrames bytes frame before now
  takes_next given failed front is = λ input start frames next frame_is took.
      let kept = took_kept Same input start before frames took reserved 0 room same in
      took_next input start reserved frames kept now next on.limits_are
      (over_still Same reserved now frame_acts (kept (λ tree stamp. 0)).over on) on.pass_is.faults_are
      on.client_is.faults_are
      (steps input next frame_is (kept_of reserved) (kept_of now)
      (whole_step step given failed reserved now front is))

  stops_in : (why : PortFault) (given failed : Type 0) → (why ≡ fault.Failed → failed)
      → TakesFront step given failed reserved now
      → TakesNext TookFrames (StoppedFrames why) bytes frame before now
  stops_in why given failed fails front = λ input start frames next frame_is took.
      let kept = took_kept Same input start before frames took reserved 0 room same in
      stopped_next input start reserved now frames next front.pass front.client given failed kept
      (steps input next frame_is (kept_of reserved)
      (record (kept_of now) { pass = front.pass; client = front.client }) front.taken)
      on.limits_are (over_still Same reserved now frame_acts (kept (λ tree stamp. 0)).over on) front.frames_are
      on.pass_is.faults_are on.client_is.faults_are why fails front.gives

  -- it was taken
  pub takes_or_none : (result : Result (Unit {0}) PortFault) (failed : Type 0)
      → TakesOrNone step (is_ok result ≡ true) failed result reserved now → is_ok result ≡ true
      → TakesNext TookFrames TookFrames bytes frame before now
  takes_or_none result failed (inl front) is = takes_next (is_ok result ≡ true) failed front is
  takes_or_none result failed (inr none) is =
      absurd (false≢true (sym (ap is_ok none.why) ∙ is))

  -- or it was refused
  pub stops_or_none : (result : Result (Unit {0}) PortFault)
      → TakesOrNone step (is_ok result ≡ true) (result ≡ Err fault.Failed) result reserved now
      → IfErr result (λ why. StopsNext TookFrames StoppedFrames why bytes frame before now)
  stops_or_none (Ok done) taken = tt
  stops_or_none (Err why) (inl front) =
      stops_within TookFrames StoppedFrames bytes frame before now why
      (stops_in why _ _ (λ failed. ap (λ (e : PortFault). Err e) failed) front)
  stops_or_none (Err why) (inr none) =
      let memory : why ≡ fault.Memory = cc (none.why) in
      stops_before TookFrames StoppedFrames bytes frame before now why memory
      (none_taken Same bytes frame before now frame_acts
      (continues_then Same next_same before reserved now 0 frame_acts frame_acts room on (omega arith))
      (none.kept ∙ same))

-- a frame that isn't sound, as the input has it
pub steps_unsound : (bytes : List ℕ) (frame : Frame) (limits : LimitsValue)
    → frame.sound ≡ false → (input : List ℕ) (next : FrameValue) → IsSameFrame bytes frame input next
    → (a b : Kept) → TakesFrom (after_frame limits (text_in bytes frame) None) a b
    → TakesFrom (after_frame limits (text_of input next) next.fields) a b
steps_unsound bytes frame limits unsound input next is a b takes =
    let none = no_fields next.fields (sym is.stands.2 ∙ unsound) in
    let T : List ℕ → Type 0 = λ t. TakesFrom (after_frame limits t next.fields) a b in
    let F : Option (List FieldValue) → Type 0 = λ f.
    TakesFrom (after_frame limits (text_in bytes frame) f) a b in
    subst T (sym is.text) (subst F (sym none) takes)
  where
    no_fields : (fields : Option (List FieldValue)) → is_some fields ≡ false → fields ≡ None
    no_fields None is = refl
    no_fields (Some listed) is = absurd cc

-- a sound one
pub steps_sound : (bytes : List ℕ) (frame : Frame) (limits : LimitsValue)
    → frame.sound ≡ true → (input : List ℕ) (next : FrameValue) → IsSameFrame bytes frame input next
    → (a b : Kept) → TakesSound limits (record { bytes = bytes; frame = frame }) a b
    → TakesFrom (after_frame limits (text_of input next) next.fields) a b
steps_sound bytes frame limits sound input next is a b takes =
    let T : List ℕ → Type 0 = λ t. TakesFrom (after_frame limits t next.fields) a b in
    subst T (sym is.text) (by next.fields is.stands)
  where
    by : (fields : Option (List FieldValue)) → IsFrameOf bytes frame fields
        → TakesFrom (after_frame limits (text_in bytes frame) fields) a b
    by None (from, stands, has) = absurd (false≢true (sym has ∙ sound))
    by (Some listed) (from, stands, has) = takes listed (from, stands)
