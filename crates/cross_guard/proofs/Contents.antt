-- What a frame makes of a session, by what it says.
use Rattle.std.proofs.Common.{◌≡◌, ℕ, ◌+◌, ◌==◌, List, [], ◌∷◌, ◌++◌, length, refl, sym, ap, ◌∙◌}
use Rattle.std.proofs.Common.{Bool, true, false, cond}
use Rattle.std.specs.Prelude.{Option, Some, None, Result, Ok, Err, IfSome, nat_le, slice_get}
use Rattle.std.proofs.lemmas.List.{append-nil}
use Rattle.fix_fields.specs.Fields.{FieldValue}
use Rattle.fix_orders.specs.declared.message.Cancel.{Cancel}
use Rattle.fix_orders.specs.declared.message.CancelReject.{CancelReject}
use Rattle.fix_orders.specs.declared.message.FieldFault.{FieldFault}
use Rattle.fix_orders.specs.declared.message.Message.{Message}
use Rattle.fix_orders.specs.declared.message.Message.TheVariants as message
use Rattle.fix_orders.specs.declared.message.NewOrder.{NewOrder}
use Rattle.fix_orders.specs.declared.message.Replace.{Replace}
use Rattle.fix_orders.specs.declared.message.Report.{Report}
use Rattle.fix_orders.specs.Reading.{read_of}
use Rattle.limit_table.specs.declared.kind.SymbolRow.{SymbolRow}
use Rattle.limit_table.specs.Trees.{LimitsValue}
use Rattle.risk_journal.specs.declared.acts.Act.{Act}
use Rattle.risk_journal.specs.declared.acts.Act.TheVariants.{Post, Sent, Refused}
use Rattle.risk_journal.specs.ActLists.{SeenAt, reads_of, last_post, posts_in}
use Rattle.admit_core.specs.Tapes.{tape}
use Rattle.admit_core.proofs.ActLemmas.{reads_of-append}
use Rattle.cross_guard.specs.Giving.{with_message}
use Rattle.cross_guard.specs.declared.guarding.CrossVerdict.{CrossVerdict}
use Rattle.cross_guard.specs.declared.guarding.CrossVerdict.TheVariants as verdict
use Rattle.cross_guard.specs.Crossing.{with_reads}
use Rattle.cross_guard.specs.Levels.{value_of_order}
use Rattle.cross_guard.specs.Resting.{RestingValue, after_new, after_replace, after_cancel}
use Rattle.cross_guard.specs.Resting.{after_report, after_reject, later_without, reported}
use Rattle.cross_guard.specs.Resting.{symbol_with, value_in, with_terms}
use Rattle.cross_guard.specs.Session.{CrossSession, Guarded, Wording, after_change, after_content}
use Rattle.cross_guard.specs.Session.{after_guarding, after_order, after_passing}
use Rattle.cross_guard.specs.Session.{after_reporting, after_result, after_settling, after_verdict, at_place, code_of}
use Rattle.cross_guard.specs.Session.{guarding, order_refusal, replace_refusal, symbol_place, told}
use Rattle.cross_guard.specs.Session.{with_value}
use Rattle.cross_guard.specs.Told.{Asks}
use Rattle.cross_guard.specs.Answering.{settled_by}
use Rattle.cross_guard.proofs.Places.{unknown_same}

-- the session with these acts and orders, at most one message more in either stream, and these reads
abbrev pub content_by : List Act → List RestingValue → Option (List ℕ) → Option (List ℕ)
    → CrossSession → List SeenAt → CrossSession
content_by acts orders to_pass to_client session more = record {
  acts = acts;
  passed = with_message to_pass session.passed;
  client = with_message to_client session.client;
  orders = orders;
  frames = session.frames;
  reads = more;
}

-- A frame leads to these acts and orders and to these messages, by the reads that the acts have, whatever
-- further reads are to come.
pub record Content (limits : LimitsValue) (text : List ℕ) (fields : Option (List FieldValue))
    (session : CrossSession) (acts : List Act) (orders : List RestingValue)
    (to_pass to_client : Option (List ℕ)) : Type 0 where
  pub seen : List SeenAt
  pub reads_are : reads_of acts ≡ reads_of session.acts ++ seen
  pub content_is : (more : List SeenAt)
      → after_content limits text fields (with_reads (seen ++ more) session)
      ≡ content_by acts orders to_pass to_client session more

-- a frame that is passed, without a read
quiet : (limits : LimitsValue) (text : List ℕ) (fields : Option (List FieldValue))
    (session : CrossSession) (acts : List Act) (orders : List RestingValue)
    → reads_of acts ≡ reads_of session.acts
    → ((more : List SeenAt) → after_content limits text fields (with_reads more session)
    ≡ record (after_passing text (with_reads more session)) { acts = acts; orders = orders })
    → Content limits text fields session acts orders (Some text) None
quiet limits text fields session acts orders reads is = record {
  seen = [];
  reads_are = reads ∙ sym (append-nil (reads_of session.acts));
  content_is = is;
}

module _ (limits : LimitsValue) (text : List ℕ) (session : CrossSession) where
  pub content_unsound : Content limits text None session session.acts session.orders (Some text) None
  content_unsound =
      quiet limits text None session session.acts session.orders refl (λ more. refl)

  module _ (fields : List FieldValue) where
    -- what was read of the fields
    by_read : (read : Result Message FieldFault) → read_of fields ≡ read → (s : CrossSession)
        → after_content limits text (Some fields) s ≡ after_result limits text fields read s
    by_read read is s = ap (λ r. after_result limits text fields r s) is

    pub content_faulty : (fault : FieldFault) → read_of fields ≡ Err fault
        → Content limits text (Some fields) session session.acts session.orders (Some text) None
    content_faulty fault is =
        quiet limits text (Some fields) session session.acts session.orders refl
        (λ more. by_read (Err fault) is (with_reads more session))

    pub content_admin : read_of fields ≡ Ok message.Admin
        → Content limits text (Some fields) session session.acts session.orders (Some text) None
    content_admin is =
        quiet limits text (Some fields) session session.acts session.orders refl
        (λ more. by_read (Ok message.Admin) is (with_reads more session))

    pub content_other : read_of fields ≡ Ok message.Other
        → Content limits text (Some fields) session session.acts session.orders (Some text) None
    content_other is =
        quiet limits text (Some fields) session session.acts session.orders refl
        (λ more. by_read (Ok message.Other) is (with_reads more session))

    pub content_cancel : (request : Cancel) → read_of fields ≡ Ok (message.Cancel request)
        → Content limits text (Some fields) session session.acts
        (after_cancel request session.orders) (Some text) None
    content_cancel request is =
        quiet limits text (Some fields) session session.acts (after_cancel request session.orders)
        refl (λ more. by_read (Ok (message.Cancel request)) is (with_reads more session))

    -- an order or a replace of an unknown symbol
    pub content_new_unknown : (order : NewOrder) → read_of fields ≡ Ok (message.New order)
        → symbol_place order.symbol limits ≡ None
        → Content limits text (Some fields) session session.acts session.orders (Some text) None
    content_new_unknown order is unknown =
        quiet limits text (Some fields) session session.acts session.orders refl
        (λ more. by_read (Ok (message.New order)) is (with_reads more session)
        ∙ ap (λ p. at_place p
        (λ place. after_order limits text fields order (with_reads more session) place
        (slice_get limits.symbols place)) (after_passing text (with_reads more session))) unknown)

    pub content_change_unknown : (request : Replace) → read_of fields ≡ Ok (message.Replace request)
        → symbol_place request.symbol limits ≡ None
        → Content limits text (Some fields) session session.acts session.orders (Some text) None
    content_change_unknown request is unknown =
        quiet limits text (Some fields) session session.acts session.orders refl
        (λ more. by_read (Ok (message.Replace request)) is (with_reads more session)
        ∙ ap (λ p. at_place p
        (λ place. after_change limits text fields request (with_reads more session) place
        (slice_get limits.symbols place)) (after_passing text (with_reads more session))) unknown)

    -- what a guard made of a request, whose value was asked about
    abbrev guarded : Wording → ℕ → ℕ → List RestingValue → CrossSession → CrossSession
    guarded wording tree value orders s =
        after_guarding (guarding limits tree value (tape s.acts s.reads)) wording text fields orders s

    order_by : (order : NewOrder) (tree value : ℕ) (s : CrossSession) (found : Option SymbolRow)
        → (found ≡ None → ⊥)
        → IfSome found (λ row. value ≡ value_of_order row order.side order.kind order.price)
        → after_order limits text fields order s tree found
        ≡ guarded order_refusal tree value (after_new tree order value s.orders) s
    order_by order tree value s None some is = absurd (some refl)
    order_by order tree value s (Some row) some is =
        ap (λ v. guarded order_refusal tree v (after_new tree order v s.orders) s) (sym is)

    change_by : (request : Replace) (tree value : ℕ) (s : CrossSession) (found : Option SymbolRow)
        → (found ≡ None → ⊥)
        → IfSome found (λ row. value ≡ value_of_order row request.side request.kind request.price)
        → after_change limits text fields request s tree found
        ≡ guarded replace_refusal tree value (after_replace tree request value s.orders) s
    change_by request tree value s None some is = absurd (some refl)
    change_by request tree value s (Some row) some is =
        ap (λ v. guarded replace_refusal tree v (after_replace tree request v s.orders) s) (sym is)

    pub new_is : (order : NewOrder) (tree value : ℕ) → read_of fields ≡ Ok (message.New order)
        → symbol_place order.symbol limits ≡ Some tree → (slice_get limits.symbols tree ≡ None → ⊥)
        → IfSome (slice_get limits.symbols tree)
        (λ row. value ≡ value_of_order row order.side order.kind order.price) → (s : CrossSession)
        → after_content limits text (Some fields) s
        ≡ guarded order_refusal tree value (after_new tree order value s.orders) s
    new_is order tree value is place some value_is s =
        by_read (Ok (message.New order)) is s
        ∙ ap (λ p. at_place p (λ own. after_order limits text fields order s own
        (slice_get limits.symbols own)) (after_passing text s)) place
        ∙ order_by order tree value s (slice_get limits.symbols tree) some value_is

    pub change_is : (request : Replace) (tree value : ℕ)
        → read_of fields ≡ Ok (message.Replace request)
        → symbol_place request.symbol limits ≡ Some tree
        → (slice_get limits.symbols tree ≡ None → ⊥)
        → IfSome (slice_get limits.symbols tree)
        (λ row. value ≡ value_of_order row request.side request.kind request.price)
        → (s : CrossSession) → after_content limits text (Some fields) s
        ≡ guarded replace_refusal tree value (after_replace tree request value s.orders) s
    change_is request tree value is place some value_is s =
        by_read (Ok (message.Replace request)) is s
        ∙ ap (λ p. at_place p (λ own. after_change limits text fields request s own
        (slice_get limits.symbols own)) (after_passing text s)) place
        ∙ change_by request tree value s (slice_get limits.symbols tree) some value_is

    verdict_refuses : (why : CrossVerdict) → (why ≡ verdict.Sent → ⊥) → (wording : Wording)
        (orders : List RestingValue) (after : List Act) (more : List SeenAt)
        → after_verdict why wording text fields orders (told (tape after more) session)
        ≡ content_by (after ++ Refused session.frames (code_of why) 0 0 ∷ []) session.orders None
        (Some (wording (length session.client + 1) fields why)) session more
    verdict_refuses verdict.Sent other wording orders after more = absurd (other refl)
    verdict_refuses verdict.Cross other wording orders after more = refl
    verdict_refuses verdict.Quota other wording orders after more = refl

    -- A request that the guard was asked about: the content, as far as the guard goes.
    module _ (wording : Wording) (tree value : ℕ) (orders : List RestingValue) (after : List Act)
        (why : CrossVerdict)
        (is : (more : List SeenAt) → after_content limits text (Some fields) (with_reads more session)
        ≡ guarded wording tree value orders (with_reads more session))
        (asks : Asks (guarding limits tree value) session.acts after why)
      where
        asked_is : (more : List SeenAt)
            → after_content limits text (Some fields) (with_reads (asks.seen ++ more) session)
            ≡ after_verdict why wording text fields orders (told (tape after more) session)
        asked_is more =
            is (asks.seen ++ more)
            ∙ ap (λ (g : Guarded). after_guarding g wording text fields orders session)
            (asks.asked more)

        pub content_sent : why ≡ verdict.Sent
            → Content limits text (Some fields) session (after ++ Sent session.frames ∷ []) orders
            (Some text) None
        content_sent sent = record {
          seen = asks.seen;
          reads_are = reads_of-append after (Sent session.frames ∷ []) ∙ append-nil (reads_of after)
              ∙ asks.reads_are;
          content_is = λ more. asked_is more
              ∙ ap (λ v. after_verdict v wording text fields orders (told (tape after more) session)) sent;
        }

        pub content_refused : (why ≡ verdict.Sent → ⊥)
            → Content limits text (Some fields) session
            (after ++ Refused session.frames (code_of why) 0 0 ∷ []) session.orders None
            (Some (wording (length session.client + 1) fields why))
        content_refused other = record {
          seen = asks.seen;
          reads_are = reads_of-append after (Refused session.frames (code_of why) 0 0 ∷ [])
              ∙ append-nil (reads_of after) ∙ asks.reads_are;
          content_is = λ more. asked_is more ∙ verdict_refuses why other wording orders after more;
        }

    -- a value that is posted, or isn't, is no read
    value_reads : (tree : ℕ) (orders : List RestingValue) (acts : List Act) (same none : Bool)
        → reads_of (cond same acts (cond none acts
        (acts ++ Post tree (posts_in tree acts + 1) (value_in tree orders) ∷ []))) ≡ reads_of acts
    value_reads tree orders acts true none = refl
    value_reads tree orders acts false true = refl
    value_reads tree orders acts false false =
        reads_of-append acts (Post tree (posts_in tree acts + 1) (value_in tree orders) ∷ [])
        ∙ append-nil (reads_of acts)

    -- a report, by the symbol of the order that has its id, if one has it
    settled : (id : List ℕ) (orders : List RestingValue) (symbol : Option ℕ)
        → symbol_with id session.orders ≡ symbol → (symbol ≡ None → orders ≡ session.orders)
        → ((s : CrossSession) → s.orders ≡ session.orders → after_content limits text (Some fields) s
        ≡ after_settling limits text id orders s)
        → Content limits text (Some fields) session (settled_by limits symbol orders session.acts) orders
        (Some text) None
    settled id orders None unknown same is =
        quiet limits text (Some fields) session session.acts orders refl
        (λ more. is (with_reads more session) refl
        ∙ ap (λ p. at_place p (λ symbol. record (after_passing text (with_reads more session)) {
          acts = with_value limits symbol orders session.acts;
          orders = orders;
        }) (after_passing text (with_reads more session))) unknown
        ∙ ap (λ own. let next : CrossSession = record (after_passing text (with_reads more session)) {
          orders = own;
        } in next) (sym (same refl)))
    settled id orders (Some tree) known same is =
        quiet limits text (Some fields) session (with_value limits tree orders session.acts) orders
        (value_reads tree orders session.acts (value_in tree orders == last_post tree session.acts)
        (nat_le limits.quota (posts_in tree session.acts)))
        (λ more. is (with_reads more session) refl
        ∙ ap (λ p. at_place p (λ symbol. record (after_passing text (with_reads more session)) {
          acts = with_value limits symbol orders session.acts;
          orders = orders;
        }) (after_passing text (with_reads more session))) known)

    pub content_report_none : (report : Report) → read_of fields ≡ Ok (message.Report report)
        → report.id ≡ None
        → Content limits text (Some fields) session session.acts session.orders (Some text) None
    content_report_none report is none =
        quiet limits text (Some fields) session session.acts session.orders refl
        (λ more. by_read (Ok (message.Report report)) is (with_reads more session)
        ∙ ap (λ o. after_reporting limits text report o (with_reads more session)) none)

    report_is : (report : Report) (id : List ℕ) → read_of fields ≡ Ok (message.Report report)
        → report.id ≡ Some id → (s : CrossSession) → s.orders ≡ session.orders
        → after_content limits text (Some fields) s
        ≡ after_settling limits text id (after_report (Some id) report.exec session.orders) s
    report_is report id is has s same =
        by_read (Ok (message.Report report)) is s
        ∙ ap (λ o. after_reporting limits text report o s) has
        ∙ ap (λ orders. after_settling limits text id (after_report (Some id) report.exec orders) s) same

    pub content_report : (report : Report) (id : List ℕ)
        → read_of fields ≡ Ok (message.Report report) → report.id ≡ Some id
        → Content limits text (Some fields) session
        (settled_by limits (symbol_with id session.orders)
        (after_report (Some id) report.exec session.orders) session.acts)
        (after_report (Some id) report.exec session.orders) (Some text) None
    content_report report id is has =
        settled id (after_report (Some id) report.exec session.orders) (symbol_with id session.orders)
        refl (unknown_same id (reported id report.exec) session.orders) (report_is report id is has)

    reject_is : (reject : CancelReject) → read_of fields ≡ Ok (message.CancelReject reject)
        → (s : CrossSession) → s.orders ≡ session.orders
        → after_content limits text (Some fields) s
        ≡ after_settling limits text reject.id (after_reject reject.id session.orders) s
    reject_is reject is s same =
        by_read (Ok (message.CancelReject reject)) is s
        ∙ ap (λ orders. after_settling limits text reject.id (after_reject reject.id orders) s) same

    pub content_reject : (reject : CancelReject)
        → read_of fields ≡ Ok (message.CancelReject reject)
        → Content limits text (Some fields) session
        (settled_by limits (symbol_with reject.id session.orders)
        (after_reject reject.id session.orders) session.acts)
        (after_reject reject.id session.orders) (Some text) None
    content_reject reject is =
        settled reject.id (after_reject reject.id session.orders)
        (symbol_with reject.id session.orders) refl
        (unknown_same reject.id (λ order. with_terms (later_without reject.id order.terms) order)
        session.orders) (reject_is reject is)
