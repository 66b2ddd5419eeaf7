-- Where a symbol stands among the limits' rows, and that each resting order is of one of them.
use Rattle.std.proofs.Common.{◌≡◌, ℕ, suc, ◌+◌, ◌<◌, List, [], ◌∷◌, ◌++◌, length, refl, sym, ap, subst, arith}
use Rattle.std.proofs.Common.{Bool, true, false, cond}
use Rattle.std.specs.Prelude.{Option, Some, None, Result, Ok, Err, nat_lt, slice_get}
use Rattle.std.specs.Option.{option_map}
use Rattle.std.specs.List.{list_any, position, position_or_len}
use Rattle.std.specs.Str.{bytes_eq}
use Rattle.std.proofs.lemmas.Bool.Decides.{nat_tests}
use Rattle.std.proofs.lemmas.List.{length-map}
use Rattle.std.proofs.lemmas.List.Quantifiers.{position-Some}
use Rattle.fix_fields.specs.Fields.{FieldValue}
use Rattle.fix_fields.specs.Frames.{FrameValue}
use Rattle.fix_orders.specs.declared.message.Exec.{Exec}
use Rattle.fix_orders.specs.declared.message.Exec.TheVariants as exec
use Rattle.fix_orders.specs.declared.message.FieldFault.{FieldFault}
use Rattle.fix_orders.specs.declared.message.Message.{Message}
use Rattle.fix_orders.specs.declared.message.Message.TheVariants as message
use Rattle.fix_orders.specs.declared.message.NewOrder.{NewOrder}
use Rattle.fix_orders.specs.declared.message.Replace.{Replace}
use Rattle.fix_orders.specs.declared.message.Report.{Report}
use Rattle.fix_orders.specs.Reading.{read_of}
use Rattle.limit_table.specs.declared.kind.SymbolRow.{SymbolRow}
use Rattle.limit_table.specs.Files.{IsHeldByFile}
use Rattle.limit_table.specs.Places.{IsPlaceOf, symbol_names}
use Rattle.limit_table.specs.Trees.{LimitsValue}
use Rattle.limit_table.proofs.FileLimits.{held_is_file_limits}
use Rattle.cross_guard.proofs.NamePlaces.{place_is}
use Rattle.risk_journal.specs.ActLists.{SeenAt}
use Rattle.admit_core.specs.Tapes.{tape}
use Rattle.frame_run.specs.Frames.{text_of}
use Rattle.cross_guard.specs.declared.guarding.CrossVerdict.{CrossVerdict}
use Rattle.cross_guard.specs.declared.guarding.CrossVerdict.TheVariants as verdict
use Rattle.cross_guard.specs.Crossing.{AreOfSymbols}
use Rattle.cross_guard.specs.Levels.{value_of_order}
use Rattle.cross_guard.specs.Resting.{RestingValue, after_new, after_reject, after_replace}
use Rattle.cross_guard.specs.Resting.{after_report, is_first_id, is_open_with, is_replaced_by}
use Rattle.cross_guard.specs.Resting.{ended, later_without, reported, started, symbol_with, term_of_replace}
use Rattle.cross_guard.specs.Resting.{terms_without, with_id, with_last, with_term, with_terms}
use Rattle.cross_guard.specs.Session.{CrossSession, Wording, after_change}
use Rattle.cross_guard.specs.Session.{after_frame, after_frames, after_message}
use Rattle.cross_guard.specs.Session.{after_order, after_passing, after_reporting, after_result}
use Rattle.cross_guard.specs.Session.{after_verdict, at_place, guarding, opening}
use Rattle.cross_guard.specs.Session.{order_refusal, replace_refusal, symbol_place, told, with_value}

-- the first place at which a test passes, by recursion
position-cons : {X : Type 0} (test : X → Bool) (x : X) (xs : List X)
    → position test (x ∷ xs) ≡ cond (test x) (Some 0) (option_map (λ p. p + 1) (position test xs))
position-cons test x xs = by_test (test x) refl
  where
    later : (here : Bool) (n count : ℕ) → nat_lt n count ≡ here
        → cond (nat_lt (1 + n) (suc count)) (Some (1 + n)) None
        ≡ option_map (λ p. p + 1) (cond here (Some n) None)
    later true n count is =
        let same : nat_lt (1 + n) (suc count) ≡ true = grind (arith, nat_tests) in
        let next : 1 + n ≡ n + 1 = omega arith in
        rw same (ap (λ p. Some p) next)
    later false n count is =
        let same : nat_lt (1 + n) (suc count) ≡ false = grind (arith, nat_tests) in
        rw same refl

    by_test : (here : Bool) → test x ≡ here
        → position test (x ∷ xs) ≡ cond here (Some 0) (option_map (λ p. p + 1) (position test xs))
    by_test true is =
        let some : nat_lt 0 (suc (length xs)) ≡ true = grind (arith, nat_tests) in
        rw is (rw some refl)
    by_test false is =
        rw is (later (nat_lt (position_or_len test xs) (length xs)) (position_or_len test xs) (length xs)
        refl)

-- the place of a symbol is the one that the limits say
pub symbol_is : (limits : LimitsValue) (name : List ℕ) (place : Option ℕ) → IsHeldByFile limits
    → IsPlaceOf (symbol_names limits.symbols) name place → place ≡ symbol_place name limits
symbol_is limits name place held at =
    place_is name (position (λ own. bytes_eq own name))
    (record { none = refl; next = position-cons (λ own. bytes_eq own name) })
    (symbol_names limits.symbols) place (held_is_file_limits limits held).symbols.distinct at

-- and it is one of their rows
pub symbol_within : (limits : LimitsValue) (name : List ℕ) (tree : ℕ)
    → symbol_place name limits ≡ Some tree → tree < length limits.symbols
symbol_within limits name tree is =
    let at = position-Some (λ own. bytes_eq own name) (symbol_names limits.symbols) tree [] is in
    omega (arith, at.0, length-map limits.symbols (λ (row : SymbolRow). row.name))

module _ (count : ℕ) where
  abbrev Are : List RestingValue → Type 0
  Are orders = AreOfSymbols count orders

  are-snoc : (orders : List RestingValue) (order : RestingValue) → Are orders → order.symbol < count
      → Are (orders ++ order ∷ [])
  are-snoc [] order are one = (one, tt)
  are-snoc (first ∷ orders) order are one = (are.0, are-snoc orders order are.1 one)

  -- a change that keeps an order's symbol
  are-last : (test : RestingValue → Bool) (change : RestingValue → RestingValue)
      → ((order : RestingValue) → (change order).symbol ≡ order.symbol)
      → (orders : List RestingValue) → Are orders → Are (with_last test change orders)
  are-last test change keeps [] are = tt
  are-last test change keeps (order ∷ orders) are =
      by_test (list_any test orders) (test order) (are-last test change keeps orders are.1)
    where
      by_test : (later here : Bool) → Are (with_last test change orders)
          → Are (cond later (order ∷ with_last test change orders)
          (cond here (change order ∷ orders) (order ∷ orders)))
      by_test true here others = (are.0, others)
      by_test false true others = (subst (λ n. n < count) (sym (keeps order)) are.0, are.1)
      by_test false false others = are

  -- the symbol of an order with an id
  pub with_id_within : (id : List ℕ) (orders : List RestingValue) (tree : ℕ) → Are orders
      → symbol_with id orders ≡ Some tree → tree < count
  with_id_within id [] tree are is = absurd cc
  with_id_within id (order ∷ orders) tree are is =
      by_test (list_any (is_open_with id) orders) (is_open_with id order)
      (with_id_within id orders tree are.1) is
    where
      by_test : (later here : Bool) → (symbol_with id orders ≡ Some tree → tree < count)
          → cond later (symbol_with id orders) (cond here (Some order.symbol) None) ≡ Some tree
          → tree < count
      by_test true here others is = others is
      by_test false true others is =
          let same : order.symbol ≡ tree = cc in subst (λ n. n < count) same are.0
      by_test false false others is = absurd cc

  pub are-new : (tree : ℕ) (order : NewOrder) (value : ℕ) (orders : List RestingValue)
      → tree < count → Are orders → Are (after_new tree order value orders)
  are-new tree order value orders inside are = are-snoc orders _ are inside

  pub are-replace : (tree : ℕ) (request : Replace) (value : ℕ) (orders : List RestingValue)
      → tree < count → Are orders → Are (after_replace tree request value orders)
  are-replace tree request value orders inside are =
      by_test (list_any (is_replaced_by tree request) orders)
    where
      by_test : (some : Bool) → Are (cond some
          (with_last (is_replaced_by tree request) (with_term (term_of_replace request value)) orders)
          (orders ++ started tree request.side (term_of_replace request value) ∷ []))
      by_test true = are-last (is_replaced_by tree request) (with_term (term_of_replace request value))
          (λ order. refl) orders are
      by_test false = are-snoc orders (started tree request.side (term_of_replace request value)) are
          inside

  reported_symbol : (id : List ℕ) (what : Exec) (order : RestingValue)
      → (reported id what order).symbol ≡ order.symbol
  reported_symbol id exec.New order = refl
  reported_symbol id exec.Canceled order = refl
  reported_symbol id exec.Replaced order = refl
  reported_symbol id exec.Rejected order = by_test (is_first_id id order.ids)
    where
      by_test : (first : Bool) → (cond first (ended order)
          (with_terms (terms_without id order.terms) order)).symbol ≡ order.symbol
      by_test true = refl
      by_test false = refl
  reported_symbol id exec.Expired order = refl
  reported_symbol id (exec.Trade quantity price) order = refl
  reported_symbol id exec.Else order = refl

  pub are-report : (id : List ℕ) (what : Exec) (orders : List RestingValue) → Are orders
      → Are (after_report (Some id) what orders)
  are-report id what orders are =
      are-last (is_open_with id) (reported id what) (reported_symbol id what) orders are

module _ (limits : LimitsValue) (text : List ℕ) where
  abbrev count : ℕ
  count = length limits.symbols

  abbrev Stay : CrossSession → Type 0
  Stay session = AreOfSymbols count session.orders

  verdict_stays : (why : CrossVerdict) (wording : Wording) (fields : List FieldValue)
      (orders : List RestingValue) (session : CrossSession) → AreOfSymbols count orders
      → Stay session → Stay (after_verdict why wording text fields orders session)
  verdict_stays verdict.Sent wording fields orders session next now = next
  verdict_stays verdict.Cross wording fields orders session next now = now
  verdict_stays verdict.Quota wording fields orders session next now = now

  order_stays : (fields : List FieldValue) (order : NewOrder) (session : CrossSession) (tree : ℕ)
      (found : Option SymbolRow) → tree < count → Stay session
      → Stay (after_order limits text fields order session tree found)
  order_stays fields order session tree None inside stays = stays
  order_stays fields order session tree (Some row) inside stays =
      let value = value_of_order row order.side order.kind order.price in
      let g = guarding limits tree value (tape session.acts session.reads) in
      verdict_stays g.verdict order_refusal fields (after_new tree order value session.orders)
      (told g.tape session) (are-new count tree order value session.orders inside stays) stays

  change_stays : (fields : List FieldValue) (request : Replace) (session : CrossSession) (tree : ℕ)
      (found : Option SymbolRow) → tree < count → Stay session
      → Stay (after_change limits text fields request session tree found)
  change_stays fields request session tree None inside stays = stays
  change_stays fields request session tree (Some row) inside stays =
      let value = value_of_order row request.side request.kind request.price in
      let g = guarding limits tree value (tape session.acts session.reads) in
      verdict_stays g.verdict replace_refusal fields
      (after_replace tree request value session.orders) (told g.tape session)
      (are-replace count tree request value session.orders inside stays) stays

  new_stays : (fields : List FieldValue) (order : NewOrder) (session : CrossSession)
      (place : Option ℕ) → symbol_place order.symbol limits ≡ place → Stay session
      → Stay (at_place place (λ own. after_order limits text fields order session own
      (slice_get limits.symbols own)) (after_passing text session))
  new_stays fields order session None is stays = stays
  new_stays fields order session (Some tree) is stays =
      order_stays fields order session tree (slice_get limits.symbols tree)
      (symbol_within limits order.symbol tree is) stays

  replace_stays : (fields : List FieldValue) (request : Replace) (session : CrossSession)
      (place : Option ℕ) → symbol_place request.symbol limits ≡ place → Stay session
      → Stay (at_place place (λ own. after_change limits text fields request session own
      (slice_get limits.symbols own)) (after_passing text session))
  replace_stays fields request session None is stays = stays
  replace_stays fields request session (Some tree) is stays =
      change_stays fields request session tree (slice_get limits.symbols tree)
      (symbol_within limits request.symbol tree is) stays

  settle_stays : (orders : List RestingValue) (session : CrossSession) (symbol : Option ℕ)
      → AreOfSymbols count orders → Stay session
      → Stay (at_place symbol (λ own. record (after_passing text session) {
        acts = with_value limits own orders session.acts;
        orders = orders;
      }) (after_passing text session))
  settle_stays orders session None next now = now
  settle_stays orders session (Some own) next now = next

  report_stays : (report : Report) (id : Option (List ℕ)) (session : CrossSession) → Stay session
      → Stay (after_reporting limits text report id session)
  report_stays report None session stays = stays
  report_stays report (Some id) session stays =
      settle_stays (after_report (Some id) report.exec session.orders) session
      (symbol_with id session.orders) (are-report count id report.exec session.orders stays) stays

  message_stays : (fields : List FieldValue) (what : Message) (session : CrossSession) → Stay session
      → Stay (after_message limits text fields what session)
  message_stays fields (message.New order) session stays =
      new_stays fields order session (symbol_place order.symbol limits) refl stays
  message_stays fields (message.Replace request) session stays =
      replace_stays fields request session (symbol_place request.symbol limits) refl stays
  message_stays fields (message.Cancel request) session stays =
      are-last count (is_open_with request.orig) (with_id request.id) (λ order. refl) session.orders
      stays
  message_stays fields (message.Report report) session stays =
      report_stays report report.id session stays
  message_stays fields (message.CancelReject reject) session stays =
      settle_stays (after_reject reject.id session.orders) session
      (symbol_with reject.id session.orders)
      (are-last count (is_open_with reject.id)
      (λ order. with_terms (later_without reject.id order.terms) order) (λ order. refl) session.orders
      stays) stays
  message_stays fields message.Admin session stays = stays
  message_stays fields message.Other session stays = stays

  result_stays : (fields : List FieldValue) (read : Result Message FieldFault) (session : CrossSession)
      → Stay session → Stay (after_result limits text fields read session)
  result_stays fields (Err fault) session stays = stays
  result_stays fields (Ok what) session stays = message_stays fields what session stays

  frame_stays : (fields : Option (List FieldValue)) (session : CrossSession) → Stay session
      → Stay (after_frame limits text fields session)
  frame_stays None session stays = stays
  frame_stays (Some fields) session stays = result_stays fields (read_of fields) session stays

-- after any frames, each order is of a symbol of the limits
frames_stay : (limits : LimitsValue) (input : List ℕ) (session : CrossSession)
    (frames : List FrameValue) → AreOfSymbols (length limits.symbols) session.orders
    → AreOfSymbols (length limits.symbols) (after_frames limits input session frames).orders
frames_stay limits input session [] stays = stays
frames_stay limits input session (frame ∷ frames) stays =
    frames_stay limits input (after_frame limits (text_of input frame) frame.fields session) frames
    (frame_stays limits (text_of input frame) frame.fields session stays)

pub symbols_after : (limits : LimitsValue) (input : List ℕ) (reads : List SeenAt)
    (frames : List FrameValue)
    → AreOfSymbols (length limits.symbols) (after_frames limits input (opening reads) frames).orders
symbols_after limits input reads frames = frames_stay limits input (opening reads) frames tt
