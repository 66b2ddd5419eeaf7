-- What a session's orders rest as stays admitted with every frame.
use Rattle.std.proofs.Common.{◌≡◌, ℕ, ◌+◌, ◌==◌, List, [], ◌∷◌, ◌++◌, refl, ap, sym, ◌∙◌, subst, arith}
use Rattle.std.proofs.Common.{Bool, true, false, cond, fold}
use Rattle.std.specs.Prelude.{min, nat_le, Option, Some, None, Result, Ok, Err}
use Rattle.std.specs.Prelude.{slice_get}
use Rattle.std.proofs.lemmas.Bool.{eqb-true}
use Rattle.std.proofs.lemmas.List.Sums.{fold-append}
use Rattle.fix_fields.specs.Fields.{FieldValue}
use Rattle.fix_orders.specs.declared.message.Message.{Message}
use Rattle.fix_orders.specs.declared.message.Message.TheVariants as message
use Rattle.fix_orders.specs.declared.message.FieldFault.{FieldFault}
use Rattle.fix_orders.specs.declared.message.NewOrder.{NewOrder}
use Rattle.fix_orders.specs.declared.message.Replace.{Replace}
use Rattle.fix_orders.specs.Reading.{read_of}
use Rattle.limit_table.specs.declared.kind.SymbolRow.{SymbolRow}
use Rattle.risk_board.specs.History.Event.{Posted, Saw}
use Rattle.risk_journal.specs.declared.acts.Act.{Act}
use Rattle.risk_journal.specs.declared.acts.Act.TheVariants.{Post, Sent, Refused}
use Rattle.risk_journal.specs.ActLists.{SeenAt, events_of, last_post, posts_in}
use Rattle.admit_core.specs.Admitted.{Standing, nothing}
use Rattle.admit_core.specs.Tapes.{Tape, tape, next_read, with_post, read_act}
use Rattle.limit_table.specs.Trees.{LimitsValue}
use Rattle.admit_core.proofs.ActLemmas.{last_post-append}
use Rattle.admit_core.proofs.Standings.{events_of-append, last_post-own}
use Rattle.cross_guard.specs.declared.guarding.CrossVerdict.{CrossVerdict}
use Rattle.cross_guard.specs.declared.guarding.CrossVerdict.TheVariants as verdict
use Rattle.cross_guard.specs.Halves.{upper, lower, cross_join, cross_meet, is_clear}
use Rattle.cross_guard.specs.HalvesLaws.{upper-join, lower-join, upper-packed, lower-packed}
use Rattle.cross_guard.specs.HalvesLaws.{le-halves, halves-le}
use Rattle.cross_guard.specs.Standings.{after_event, own_standing}
use Rattle.cross_guard.specs.Covering.{Covers}
use Rattle.cross_guard.specs.Levels.{value_of_order}
use Rattle.cross_guard.specs.Resting.{RestingValue, value_in}
use Rattle.cross_guard.specs.Resting.{after_replace, symbol_with}
use Rattle.cross_guard.specs.Resting.{after_new, term_of_new, after_report}
use Rattle.cross_guard.specs.Resting.{after_reject, after_cancel}
use Rattle.cross_guard.specs.Session.{CrossSession, Wording, symbol_place, is_short, guarded_by, guarding}
use Rattle.cross_guard.specs.Session.{after_verdict, after_guarding, after_order, after_change}
use Rattle.cross_guard.specs.Session.{after_message, after_result}
use Rattle.cross_guard.specs.Session.{after_frame, at_place, with_value, opening}
use Rattle.cross_guard.specs.Session.{order_refusal, replace_refusal, after_passing, after_reporting}
use Rattle.fix_orders.specs.declared.message.Report.{Report}
use Rattle.admit_core.specs.Tapes.{after_reading, after_posting}
use Rattle.cross_guard.proofs.Rested.{new_within, new_elsewhere, replace_within, replace_elsewhere}
use Rattle.cross_guard.proofs.Rested.{cancel_keeps, all-below}
use Rattle.cross_guard.proofs.Rested.{Below, rested, value-rested, reports_lower, rejects_lower}

pub below-through : (a b c : ℕ) → Below a b → Below b c → Below a c
below-through a b c one two = record {
  high = omega (arith, one.high, two.high);
  low = omega (arith, one.low, two.low);
}

below-join : (a b : ℕ) → Below a (cross_join a b)
below-join a b =
    let u = upper-join a b in let l = lower-join a b in
    record { high = omega (arith, u); low = omega (arith, l) }

below-meet : (a b c : ℕ) → Below a b → Below a c → Below a (cross_meet b c)
below-meet a b c one two =
    let u = upper-packed (min (upper b) (upper c)) (min (lower b) (lower c)) (omega arith) in
    let l = lower-packed (min (upper b) (upper c)) (min (lower b) (lower c)) (omega arith) in
    record {
      high = omega (arith, u, one.high, two.high);
      low = omega (arith, l, one.low, two.low);
    }

meet-below : (b c : ℕ) → Below (cross_meet b c) c
meet-below b c =
    let u = upper-packed (min (upper b) (upper c)) (min (lower b) (lower c)) (omega arith) in
    let l = lower-packed (min (upper b) (upper c)) (min (lower b) (lower c)) (omega arith) in
    record { high = omega (arith, u); low = omega (arith, l) }

-- what rests is admitted, no more is admitted than posted, and what is posted is the last post
pub record Holds (rest : ℕ) (standing : Standing) (last : ℕ) : Type 0 where
  pub rests : Below rest standing.admitted
  pub within : Below standing.admitted standing.posted
  pub posted : standing.posted ≡ last

-- in a symbol
abbrev pub HoldsIn : ℕ → ℕ → List Act → Type 0
HoldsIn symbol rest acts = Holds rest (own_standing (events_of symbol acts)) (last_post symbol acts)

fewer : (less rest : ℕ) (standing : Standing) (last : ℕ) → Below less rest → Holds rest standing last
    → Holds less standing last
fewer less rest standing last below holds = record {
  rests = below-through less rest standing.admitted below holds.rests;
  within = holds.within;
  posted = holds.posted;
}

-- the standing after one more act
one_more : (symbol : ℕ) (acts : List Act) (act : Act)
    → own_standing (events_of symbol (acts ++ act ∷ []))
    ≡ fold after_event (own_standing (events_of symbol acts)) (events_of symbol (act ∷ []))
one_more symbol acts act =
    ap own_standing (events_of-append symbol acts (act ∷ []))
    ∙ fold-append after_event nothing (events_of symbol acts) (events_of symbol (act ∷ []))

-- an act that leaves standing and last post to show
by_act : (symbol rest : ℕ) (acts : List Act) (act : Act)
    → Holds rest (fold after_event (own_standing (events_of symbol acts)) (events_of symbol (act ∷ [])))
    (last_post symbol (acts ++ act ∷ []))
    → HoldsIn symbol rest (acts ++ act ∷ [])
by_act symbol rest acts act holds =
    subst (λ (s : Standing). Holds rest s (last_post symbol (acts ++ act ∷ [])))
    (sym (one_more symbol acts act)) holds

-- a post of a value that covers what rests
pub posts_hold : (symbol own index value rest : ℕ) (acts : List Act)
    → ((own == symbol) ≡ true → Below rest value) → HoldsIn symbol rest acts
    → HoldsIn symbol rest (acts ++ Post own index value ∷ [])
posts_hold symbol own index value rest acts covers holds =
    by_act symbol rest acts (Post own index value)
    (rw (last_post-append symbol acts (Post own index value ∷ []))
    (by_test (own == symbol) covers))
  where
    by_test : (here : Bool) → (here ≡ true → Below rest value)
        → Holds rest
        (fold after_event (own_standing (events_of symbol acts)) (cond here (Posted value ∷ []) []))
        (cond here value (last_post symbol acts))
    by_test true over = record {
      rests = below-meet rest (own_standing (events_of symbol acts)).admitted value holds.rests
          (over refl);
      within = meet-below (own_standing (events_of symbol acts)).admitted value;
      posted = refl;
    }
    by_test false over = holds

-- a read, whether it is clear or not
pub reads_hold : (symbol own rest : ℕ) (seen : SeenAt) (acts : List Act)
    → HoldsIn symbol rest acts → HoldsIn symbol rest (acts ++ read_act own seen ∷ [])
reads_hold symbol own rest seen acts holds =
    by_act symbol rest acts (read_act own seen)
    (rw (last_post-append symbol acts (read_act own seen ∷ []))
    (by_test (own == symbol) (is_clear seen.value) refl))
  where
    by_test : (here clear : Bool) → is_clear seen.value ≡ clear
        → Holds rest
        (fold after_event (own_standing (events_of symbol acts))
        (cond here (Saw seen.stamp seen.place seen.value ∷ []) []))
        (last_post symbol acts)
    by_test true true is = rw is (record {
      rests = below-through rest (own_standing (events_of symbol acts)).admitted
          (own_standing (events_of symbol acts)).posted holds.rests holds.within;
      within = record { high = omega arith; low = omega arith };
      posted = holds.posted;
    })
    by_test true false is = rw is holds
    by_test false clear is = holds

-- a clear read admits what is posted
pub cleared_holds : (symbol own rest after : ℕ) (seen : SeenAt) (acts : List Act)
    → is_clear seen.value ≡ true → HoldsIn symbol rest acts
    → ((own == symbol) ≡ true → Below after (last_post symbol acts))
    → ((own == symbol) ≡ false → Below after rest)
    → HoldsIn symbol after (acts ++ read_act own seen ∷ [])
cleared_holds symbol own rest after seen acts clear holds over apart =
    by_act symbol after acts (read_act own seen)
    (rw (last_post-append symbol acts (read_act own seen ∷ []))
    (by_test (own == symbol) over apart))
  where
    by_test : (here : Bool) → (here ≡ true → Below after (last_post symbol acts))
        → (here ≡ false → Below after rest)
        → Holds after
        (fold after_event (own_standing (events_of symbol acts))
        (cond here (Saw seen.stamp seen.place seen.value ∷ []) []))
        (last_post symbol acts)
    by_test true here other = rw clear (record {
      rests = subst (λ n. Below after n) (sym holds.posted) (here refl);
      within = record { high = omega arith; low = omega arith };
      posted = holds.posted;
    })
    by_test false here other =
        fewer after rest (own_standing (events_of symbol acts)) (last_post symbol acts) (other refl)
        holds

pub sent_holds : (symbol rest frame : ℕ) (acts : List Act) → HoldsIn symbol rest acts
    → HoldsIn symbol rest (acts ++ Sent frame ∷ [])
sent_holds symbol rest frame acts holds =
    by_act symbol rest acts (Sent frame) (rw (last_post-append symbol acts (Sent frame ∷ [])) holds)

pub refused_holds : (symbol rest frame code : ℕ) (acts : List Act) → HoldsIn symbol rest acts
    → HoldsIn symbol rest (acts ++ Refused frame code 0 0 ∷ [])
refused_holds symbol rest frame code acts holds =
    by_act symbol rest acts (Refused frame code 0 0)
    (rw (last_post-append symbol acts (Refused frame code 0 0 ∷ [])) holds)

-- what rests after a guard: what the order makes of it where it is sent, and else what it was
abbrev pub left_by : CrossVerdict → ℕ → ℕ → ℕ
left_by verdict.Sent rest after = after
left_by verdict.Cross rest after = rest
left_by verdict.Quota rest after = rest

join-below : (a b c : ℕ) → Below a b → Below (cross_join a c) (cross_join b c)
join-below a b c below =
    let u = upper-join a c in let l = lower-join a c in
    let v = upper-join b c in let m = lower-join b c in
    record { high = omega (arith, u, v, below.high); low = omega (arith, l, m, below.low) }

-- the acts of a guard
module _ (limits : LimitsValue) (own value symbol rest after : ℕ) (before : Tape)
    (holds : HoldsIn symbol rest before.acts)
    (grows : (own == symbol) ≡ true → Below after (cross_join rest value))
    (stays : (own == symbol) ≡ false → Below after rest) where
  abbrev old : ℕ
  old = last_post own before.acts

  abbrev new : ℕ
  new = cross_join old value

  abbrev posted : List Act
  posted = with_post own new before.acts

  rest-old : (own == symbol) ≡ true → Below rest old
  rest-old same =
      let P : ℕ → Type 0 = λ n. Below rest (last_post n before.acts) in
      subst P (sym (eqb-true own symbol same)) (
      subst (λ n. Below rest n) holds.posted
      (below-through rest (own_standing (events_of symbol before.acts)).admitted
      (own_standing (events_of symbol before.acts)).posted holds.rests holds.within))

  posted_holds : HoldsIn symbol rest posted
  posted_holds =
      posts_hold symbol own (posts_in own before.acts + 1) new rest before.acts
      (λ same. below-through rest old new (rest-old same) (below-join old value)) holds

  abbrev asked : Tape
  asked = after_reading own (after_posting own new before)

  guarded_holds : (clear : Bool) → is_clear (next_read before.reads).value ≡ clear
      → HoldsIn symbol (left_by (guarded_by clear own old asked).verdict rest after)
      (guarded_by clear own old asked).tape.acts
  guarded_holds true is =
      cleared_holds symbol own rest after (next_read before.reads) posted is posted_holds
      (λ same. subst (λ n. Below after n)
      (sym (last_post-own symbol own new before.acts same))
      (below-through after (cross_join rest value) new (grows same)
      (join-below rest old value (rest-old same))))
      stays
  guarded_holds false is =
      let after_read = reads_hold symbol own rest (next_read before.reads) posted posted_holds in
      posts_hold symbol own
      (posts_in own (posted ++ read_act own (next_read before.reads) ∷ []) + 1) old rest
      (posted ++ read_act own (next_read before.reads) ∷ []) rest-old after_read

  pub guard_holds : HoldsIn symbol
      (left_by (guarding limits own value before).verdict rest after)
      (guarding limits own value before).tape.acts
  guard_holds =
      by_test (is_short limits before.acts own)
      (guarded_holds (is_clear (next_read before.reads).value) refl)
    where
      by_test : (short : Bool)
          → HoldsIn symbol
          (left_by (guarded_by (is_clear (next_read before.reads).value) own old asked).verdict
          rest after)
          (guarded_by (is_clear (next_read before.reads).value) own old asked).tape.acts
          → HoldsIn symbol
          (left_by (cond short (record { verdict = verdict.Quota; tape = before })
          (guarded_by (is_clear (next_read before.reads).value) own old asked)).verdict rest after)
          (cond short (record { verdict = verdict.Quota; tape = before })
          (guarded_by (is_clear (next_read before.reads).value) own old asked)).tape.acts
      by_test true guarded = holds
      by_test false guarded = guarded

-- what rests in a symbol is admitted
abbrev pub CoversIn : ℕ → CrossSession → Type 0
CoversIn symbol session = HoldsIn symbol (rested symbol session.orders) session.acts

answered : (verdict : CrossVerdict) (symbol : ℕ) (wording : Wording) (text : List ℕ)
    (fields : List FieldValue) (orders : List RestingValue) (session : CrossSession)
    → HoldsIn symbol (left_by verdict (rested symbol session.orders) (rested symbol orders))
    session.acts
    → CoversIn symbol (after_verdict verdict wording text fields orders session)
answered verdict.Sent symbol wording text fields orders session holds =
    sent_holds symbol (rested symbol orders) session.frames session.acts holds
answered verdict.Cross symbol wording text fields orders session holds =
    refused_holds symbol (rested symbol session.orders) session.frames 17 session.acts holds
answered verdict.Quota symbol wording text fields orders session holds =
    refused_holds symbol (rested symbol session.orders) session.frames 5 session.acts holds

module _ (limits : LimitsValue) (symbol : ℕ) (text : List ℕ) (session : CrossSession)
    (covers : CoversIn symbol session) where
  asked_covers : (place value : ℕ) (wording : Wording) (fields : List FieldValue)
      (orders : List RestingValue)
      → ((place == symbol) ≡ true
      → Below (rested symbol orders) (cross_join (rested symbol session.orders) value))
      → ((place == symbol) ≡ false → Below (rested symbol orders) (rested symbol session.orders))
      → CoversIn symbol (after_guarding
      (guarding limits place value (tape session.acts session.reads)) wording text fields orders
      session)
  asked_covers place value wording fields orders grows stays =
      answered (guarding limits place value (tape session.acts session.reads)).verdict symbol wording
      text fields orders
      (record session {
        acts = (guarding limits place value (tape session.acts session.reads)).tape.acts;
        reads = (guarding limits place value (tape session.acts session.reads)).tape.reads;
      })
      (guard_holds limits place value symbol (rested symbol session.orders) (rested symbol orders)
      (tape session.acts session.reads) covers grows stays)

  order_covers : (fields : List FieldValue) (order : NewOrder) (place : ℕ) (row : Option SymbolRow)
      → CoversIn symbol (after_order limits text fields order session place row)
  order_covers fields order place None = covers
  order_covers fields order place (Some row) =
      let value = value_of_order row order.side order.kind order.price in
      asked_covers place value order_refusal fields
      (after_new place order value session.orders)
      (λ same. new_within symbol place order.side (term_of_new order value) session.orders)
      (new_elsewhere symbol place order.side (term_of_new order value) session.orders)

  change_covers : (fields : List FieldValue) (request : Replace) (place : ℕ)
      (row : Option SymbolRow)
      → CoversIn symbol (after_change limits text fields request session place row)
  change_covers fields request place None = covers
  change_covers fields request place (Some row) =
      let value = value_of_order row request.side request.kind request.price in
      asked_covers place value replace_refusal fields
      (after_replace place request value session.orders)
      (λ same. replace_within symbol place request value session.orders)
      (replace_elsewhere symbol place request value session.orders)

  -- a value that is posted where it differs and a post is left
  valued : (place : ℕ) (orders : List RestingValue)
      → Below (rested symbol orders) (rested symbol session.orders)
      → HoldsIn symbol (rested symbol orders) (with_value limits place orders session.acts)
  valued place orders less =
      by_test (value_in place orders == last_post place session.acts)
      (nat_le limits.quota (posts_in place session.acts))
    where
      holds : HoldsIn symbol (rested symbol orders) session.acts
      holds = fewer (rested symbol orders) (rested symbol session.orders)
          (own_standing (events_of symbol session.acts)) (last_post symbol session.acts) less covers

      by_test : (same used : Bool)
          → HoldsIn symbol (rested symbol orders) (cond same session.acts (cond used session.acts
          (with_post place (value_in place orders) session.acts)))
      by_test true used = holds
      by_test false true = holds
      by_test false false =
          posts_hold symbol place (posts_in place session.acts + 1) (value_in place orders)
          (rested symbol orders) session.acts
          (λ same. subst (λ n. Below (rested symbol orders) n)
          (sym (ap (λ n. value_in n orders) (eqb-true place symbol same)
          ∙ value-rested symbol orders)) (all-below (rested symbol orders))) holds

  settling_covers : (id : List ℕ) (orders : List RestingValue) (place : Option ℕ)
      → Below (rested symbol orders) (rested symbol session.orders)
      → CoversIn symbol (at_place place
      (λ own. record (after_passing text session) {
        acts = with_value limits own orders session.acts;
        orders = orders;
      }) (after_passing text session))
  settling_covers id orders None less = covers
  settling_covers id orders (Some own) less = valued own orders less

  reporting_covers : (report : Report) (id : Option (List ℕ))
      → CoversIn symbol (after_reporting limits text report id session)
  reporting_covers report None = covers
  reporting_covers report (Some id) =
      settling_covers id (after_report (Some id) report.exec session.orders)
      (symbol_with id session.orders) (reports_lower symbol id report.exec session.orders)

  order_found : (fields : List FieldValue) (order : NewOrder) (place : Option ℕ)
      → CoversIn symbol (at_place place
      (λ own. after_order limits text fields order session own (slice_get limits.symbols own))
      (after_passing text session))
  order_found fields order None = covers
  order_found fields order (Some own) =
      order_covers fields order own (slice_get limits.symbols own)

  change_found : (fields : List FieldValue) (request : Replace) (place : Option ℕ)
      → CoversIn symbol (at_place place
      (λ own. after_change limits text fields request session own (slice_get limits.symbols own))
      (after_passing text session))
  change_found fields request None = covers
  change_found fields request (Some own) =
      change_covers fields request own (slice_get limits.symbols own)

  message_covers : (fields : List FieldValue) (whole : Message)
      → CoversIn symbol (after_message limits text fields whole session)
  message_covers fields (message.New order) =
      order_found fields order (symbol_place order.symbol limits)
  message_covers fields (message.Replace request) =
      change_found fields request (symbol_place request.symbol limits)
  message_covers fields (message.Cancel request) =
      fewer (rested symbol (after_cancel request session.orders)) (rested symbol session.orders)
      (own_standing (events_of symbol session.acts)) (last_post symbol session.acts)
      (cancel_keeps symbol request session.orders) covers
  message_covers fields (message.Report report) = reporting_covers report report.id
  message_covers fields (message.CancelReject reject) =
      settling_covers reject.id (after_reject reject.id session.orders)
      (symbol_with reject.id session.orders) (rejects_lower symbol reject.id session.orders)
  message_covers fields message.Admin = covers
  message_covers fields message.Other = covers

  result_covers : (fields : List FieldValue) (read : Result Message FieldFault)
      → CoversIn symbol (after_result limits text fields read session)
  result_covers fields (Ok whole) = message_covers fields whole
  result_covers fields (Err fault) = covers

  pub frame_covers : (fields : Option (List FieldValue))
      → CoversIn symbol (after_frame limits text fields session)
  frame_covers None = covers
  frame_covers (Some fields) = result_covers fields (read_of fields)

-- a session with what rests told by the definition
from_covers : (session : CrossSession) → Covers session → (symbol : ℕ) → CoversIn symbol session
from_covers session covers symbol =
    let s = own_standing (events_of symbol session.acts) in
    let less = le-halves (value_in symbol session.orders) s.admitted (covers.orders symbol) in
    let under = le-halves s.admitted (last_post symbol session.acts) (covers.admitted symbol) in
    record {
      rests = subst (λ n. Below n s.admitted) (value-rested symbol session.orders)
          (record { high = less.0; low = less.1 });
      within = subst (λ n. Below s.admitted n) (sym (covers.posted symbol))
          (record { high = under.0; low = under.1 });
      posted = covers.posted symbol;
    }

to_covers : (session : CrossSession) → ((symbol : ℕ) → CoversIn symbol session) → Covers session
to_covers session covers = record {
  orders = λ symbol.
      let s = own_standing (events_of symbol session.acts) in
      let below = subst (λ n. Below n s.admitted) (sym (value-rested symbol session.orders))
      (covers symbol).rests in
      halves-le (value_in symbol session.orders) s.admitted below.high below.low;
  admitted = λ symbol.
      let s = own_standing (events_of symbol session.acts) in
      let below = subst (λ n. Below s.admitted n) (covers symbol).posted (covers symbol).within in
      halves-le s.admitted (last_post symbol session.acts) below.high below.low;
  posted = λ symbol. (covers symbol).posted;
}

pub covers_after : (limits : LimitsValue) (text : List ℕ) (fields : Option (List FieldValue))
    (session : CrossSession) → Covers session → Covers (after_frame limits text fields session)
covers_after limits text fields session covers =
    to_covers (after_frame limits text fields session)
    (λ symbol. frame_covers limits symbol text session (from_covers session covers symbol) fields)

pub covers_first : (reads : List SeenAt) → Covers (opening reads)
covers_first reads = record {
  orders = λ symbol. refl;
  admitted = λ symbol. refl;
  posted = λ symbol. refl;
}
