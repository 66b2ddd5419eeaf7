-- An order is sent exactly where the roots allow it, and what raises no value is sent at once.
use Rattle.std.proofs.Common.{◌≡◌, ℕ, List, [], ◌∷◌, refl, sym, ap, ◌∙◌, arith, Bool, true, false}
use Rattle.std.proofs.Common.{cond, Result, Ok, Err}
use Rattle.std.specs.Prelude.{None, IsOk, nat_lt, ◌↔◌}
use Rattle.std.proofs.lemmas.Bool.{le-ltb, ltb-false, true≢false}
use Rattle.fix_orders.specs.declared.message.NewOrder.{NewOrder}
use Rattle.fix_orders.specs.declared.message.Cancel.{Cancel}
use Rattle.fix_orders.specs.declared.message.Replace.{Replace}
use Rattle.limit_table.specs.Trees.{LimitsValue, account_tree, symbol_tree}
use Rattle.exposure_book.specs.declared.answer.BookFault.{BookFault}
use Rattle.exposure_book.specs.declared.answer.Proposal.{Proposal}
use Rattle.exposure_book.specs.Books.{BookValue}
use Rattle.exposure_book.specs.Commits.{with_cancel_pending, with_replace_pending}
use Rattle.exposure_book.specs.Proposals.{proposal_of_cancel}
use Rattle.screen_kit.specs.Screens.{ScreenValue}
use Rattle.screen_kit.specs.Sets.{first_code}
use Rattle.risk_journal.specs.declared.acts.Act.{Act}
use Rattle.risk_journal.specs.ActLists.{SeenAt}
use Rattle.admit_core.specs.declared.ask.Verdict.{Verdict}
use Rattle.admit_core.specs.declared.ask.Verdict.TheVariants as verdict
use Rattle.admit_core.specs.declared.rows.OrderRows.{OrderRows}
use Rattle.admit_core.specs.Asking.{is_short, verdict_of}
use Rattle.admit_core.specs.Legs.{Leg, legs_of}
use Rattle.admit_core.specs.Tapes.{Tape}
use Rattle.order_desk.specs.declared.offer.Offer.{Offer}
use Rattle.order_desk.specs.declared.refusal.Refusal.{Refusal}
use Rattle.order_desk.specs.Decisions.{cancel_by, cancel_decided, decided_on, is_above_last}
use Rattle.order_desk.specs.Decisions.{new_next, new_screened, offer_legs, replace_screened}
use Rattle.order_desk.specs.Decisions.{screened, sent_at_once, taken_up, tree_decided}
use Rattle.order_desk.specs.Offers.{new_offer, new_seen, replace_offer, replace_seen}
use Rattle.order_desk.specs.Refusals.{refusal_by, refusal_by_code}
use Rattle.order_desk.specs.Sending.{ProposesNew, ProposesReplace, RootsAllow, root_read}
use Rattle.order_desk.specs.Sending.{root_limit}
use Rattle.order_desk.specs.Values.{values_of}
use Rattle.order_desk.proofs.Offered.{new_is_offered, offer_of_new, offer_of_replace}
use Rattle.order_desk.proofs.Offered.{replace_is_offered}

-- the verdict by whether somebody has halted, and whether each root is above its limit
abbrev verdict_by : Bool → Bool → Bool → Bool → Verdict
verdict_by halted firm account symbol =
    cond halted verdict.Halt (cond firm verdict.Firm
    (cond account verdict.Account (cond symbol verdict.Symbol verdict.Sent)))

-- nothing is refused exactly where none of the four is so
sent_by_tests : (halted firm account symbol : Bool)
    → (refusal_by (verdict_by halted firm account symbol) ≡ None)
    ↔ ((halted ≡ false) × (firm ≡ false) × (account ≡ false) × (symbol ≡ false))
sent_by_tests true firm account symbol = (λ none. absurd cc, λ all. absurd (true≢false all.0))
sent_by_tests false true account symbol = (λ none. absurd cc, λ all. absurd (true≢false all.1))
sent_by_tests false false true symbol = (λ none. absurd cc, λ all. absurd (true≢false all.2))
sent_by_tests false false false true = (λ none. absurd cc, λ all. absurd (true≢false all.3))
sent_by_tests false false false false = (λ none. (refl, refl, refl, refl), λ all. refl)

module _ (limits : LimitsValue) (rows : OrderRows) where
  -- the verdict by the tests of the four roots
  abbrev tested : List SeenAt → Verdict
  tested reads =
      verdict_by (nat_lt 0 (root_read 0 reads)) (nat_lt (root_limit limits 0) (root_read 1 reads))
      (nat_lt (root_limit limits (account_tree rows.account)) (root_read 2 reads))
      (nat_lt (root_limit limits (symbol_tree limits rows.symbol)) (root_read 3 reads))

  verdict_is : (acts : List Act) (values : List ℕ) (reads : List SeenAt)
      → verdict_of (legs_of limits rows acts values) reads ≡ tested reads
  verdict_is acts values [] = refl
  verdict_is acts values (halt ∷ []) = refl
  verdict_is acts values (halt ∷ firm ∷ []) = refl
  verdict_is acts values (halt ∷ firm ∷ account ∷ []) = refl
  verdict_is acts values (halt ∷ firm ∷ account ∷ symbol ∷ more) = refl

  -- the trees refuse nothing exactly where the roots allow it
  allowed : (acts : List Act) (values : List ℕ) (reads : List SeenAt)
      → (refusal_by (verdict_of (legs_of limits rows acts values) reads) ≡ None)
      ↔ RootsAllow limits rows reads
  allowed acts values reads =
      let same = ap refusal_by (verdict_is acts values reads) in
      let tests = sent_by_tests (nat_lt 0 (root_read 0 reads))
      (nat_lt (root_limit limits 0) (root_read 1 reads))
      (nat_lt (root_limit limits (account_tree rows.account)) (root_read 2 reads))
      (nat_lt (root_limit limits (symbol_tree limits rows.symbol)) (root_read 3 reads)) in (
        λ none.
            let each = tests.0 (sym same ∙ none) in
            record {
              halt = omega (arith, ltb-false 0 (root_read 0 reads) each.0);
              firm = ltb-false _ _ each.1;
              account = ltb-false _ _ each.2;
              symbol = ltb-false _ _ each.3;
            },
        λ allow.
            same ∙ tests.1 (
              le-ltb 0 (root_read 0 reads) (omega (arith, allow.halt)),
              le-ltb _ _ allow.firm,
              le-ltb _ _ allow.account,
              le-ltb _ _ allow.symbol,
            ),
      )

-- where two posts are left in each tree, what is asked about is sent exactly so
asked_is_sent : (limits : LimitsValue) (offer : Offer) (book next : BookValue) (before : Tape)
    → is_short limits before.acts (offer_legs limits offer before.acts) ≡ false
    → ((taken_up true limits offer book next before).refusal ≡ None)
    ↔ RootsAllow limits offer.rows before.reads
asked_is_sent limits offer book next before enough =
    rw enough (allowed limits offer.rows before.acts (values_of offer.values) before.reads)

module _ (limits : LimitsValue) (rows : OrderRows) (values : Proposal) (book : BookValue)
    (before : Tape) (screens : List ScreenValue) where
  abbrev legs : List Leg
  legs = legs_of limits rows before.acts (values_of values)

  -- what no screen refuses is for the trees to decide
  unscreened : (offer : Offer) (next : Offer → BookValue) (offered : Result Offer Refusal)
      → offered ≡ Ok offer → first_code offer.seen screens ≡ 0
      → decided_on limits screens next book before offered
      ≡ tree_decided limits offer book (next offer) before
  unscreened offer next offered is no_code =
      ap (decided_on limits screens next book before) is
      ∙ ap (λ (code : ℕ). screened (refusal_by_code code) book before
      (tree_decided limits offer book (next offer) before)) no_code

  -- an order that the book proposes
  pub new_is_sent : (order : NewOrder) → ProposesNew limits order rows values book
      → first_code (new_seen limits order rows) screens ≡ 0
      → is_short limits before.acts legs ≡ false
      → ((new_screened limits order screens book before).refusal ≡ None)
      ↔ RootsAllow limits rows before.reads
  new_is_sent order is no_code enough =
      let offer = offer_of_new limits order rows values in
      rw (unscreened offer (new_next order book) (new_offer limits order book)
      (new_is_offered limits order book rows values is) no_code)
      (asked_is_sent limits offer book (new_next order book offer) before enough)

  -- a replace that the book proposes
  module _ (request : Replace) (is : ProposesReplace limits request rows values book)
      (no_code : first_code (replace_seen limits request rows) screens ≡ 0) where
    abbrev next : BookValue
    next = with_replace_pending request limits book

    -- by whether one of its values is above what was last posted
    replace_is : (above : Bool) → is_above_last legs ≡ above
        → replace_screened limits request screens book before
        ≡ taken_up above limits (offer_of_replace limits request rows values) book next before
    replace_is above needs =
        let offer = offer_of_replace limits request rows values in
        unscreened offer (λ o. next) (replace_offer limits request book)
        (replace_is_offered limits request book rows values is) no_code
        ∙ ap (λ (b : Bool). taken_up b limits offer book next before) needs

    pub replace_is_sent : is_above_last legs ≡ true → is_short limits before.acts legs ≡ false
        → ((replace_screened limits request screens book before).refusal ≡ None)
        ↔ RootsAllow limits rows before.reads
    replace_is_sent above enough =
        rw (replace_is true above) (asked_is_sent limits
        (offer_of_replace limits request rows values) book next before enough)

    pub replace_at_once : is_above_last legs ≡ false
        → replace_screened limits request screens book before ≡ sent_at_once next before
    replace_at_once within = replace_is false within

-- a cancel that the book proposes is sent at once
pub cancel_at_once : (request : Cancel) (book : BookValue) (before : Tape)
    → IsOk (proposal_of_cancel book request)
    → cancel_decided request book before
    ≡ sent_at_once (with_cancel_pending request book) before
cancel_at_once request book before = by (proposal_of_cancel book request)
  where
    by : (proposed : Result (Unit {0}) BookFault) → IsOk proposed
        → cancel_by request book before proposed
        ≡ sent_at_once (with_cancel_pending request book) before
    by (Ok nothing) is = refl
    by (Err fault) is = absurd cc
