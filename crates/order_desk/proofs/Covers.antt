-- Posts, as they back the orders of a book and are admitted.
use Rattle.std.proofs.Common.{◌≡◌, ℕ, ◌+◌, ◌≤◌, ◌<◌, List, [], ◌∷◌, ◌++◌, length, fold, refl, ap}
use Rattle.std.proofs.Common.{sym, ◌∙◌, arith, Bool, true, false, cond, All, IfSome, Option, Some}
use Rattle.std.proofs.Common.{None}
use Rattle.std.specs.Prelude.{slice_index, slice_index_or, nat_lt}
use Rattle.std.specs.List.{list_any}
use Rattle.std.proofs.lemmas.Bool.{eqb-false, ltb-false, or_parts}
use Rattle.std.proofs.lemmas.List.Elements.{All-nil, All-cons}
use Rattle.admit_core.specs.declared.ask.Verdict.{Verdict}
use Rattle.admit_core.specs.declared.ask.Verdict.TheVariants as verdict
use Rattle.exposure_book.specs.declared.order.Order.{Order}
use Rattle.exposure_book.specs.Books.{BookValue, proposal_of, with_orders}
use Rattle.exposure_book.specs.Totals.{IsPlaced}
use Rattle.risk_journal.specs.declared.acts.Act.{Act}
use Rattle.risk_journal.specs.ActLists.{SeenAt, posts_in, last_post, events_of}
use Rattle.admit_core.specs.declared.rows.OrderRows.{OrderRows}
use Rattle.admit_core.specs.Admitted.{own_admitted, AdmitsLast}
use Rattle.admit_core.specs.Asking.{Asked, is_short, asking, verdict_of, settled, posted_and_read}
use Rattle.admit_core.specs.Asking.{post_old}
use Rattle.admit_core.specs.Legs.{Leg, AreRowsOf, legs_of, leg_with}
use Rattle.admit_core.specs.Lowering.{lowering}
use Rattle.admit_core.specs.Tapes.{IsNoCall, Tape, tape, with_post}
use Rattle.limit_table.specs.Trees.{LimitsValue, halt_tree, account_tree, symbol_tree, limit_of}
use Rattle.admit_core.proofs.AskedTrees.{all_three, leg_in, none_in_front, KeepsTree, asked_keeps}
use Rattle.admit_core.proofs.AskedTrees.{asked_posts, back_keeps, back_posts}
use Rattle.admit_core.proofs.AskedAdmits.{IsLegFor, legs_are, asked_admits}
use Rattle.admit_core.proofs.LoweredTrees.{leg_has, legs_apart, lowering_keeps, lowering_posts}
use Rattle.admit_core.proofs.LoweredTrees.{lowered_admits}
use Rattle.admit_core.specs.declared.ask.Verdict.TheVariants.{Firm, Account, Symbol}
use Rattle.admit_core.proofs.Noted.{noted_keeps, noted_admits}
use Rattle.admit_core.proofs.Tripped.{tripped_keeps, tripped_admits}
use Rattle.order_desk.specs.declared.refusal.Refusal.{Refusal}
use Rattle.order_desk.specs.declared.refusal.Refusal.TheVariants as refusal
use Rattle.order_desk.specs.Backing.{IsBacked, Backs, Covers}
use Rattle.order_desk.specs.Decisions.{decided_by}
use Rattle.order_desk.specs.Refusals.{refusal_by}
use Rattle.order_desk.specs.Values.{value_in, first_book, values_of}
use Rattle.order_desk.proofs.TreeValues.{value_in-none, IsOtherTree, firm_for, account_for}
use Rattle.order_desk.proofs.TreeValues.{symbol_for}

pub first_covers : (limits : LimitsValue) → Covers limits [] (first_book limits)
first_covers limits = record {
  backs = record {
    accounts = refl;
    symbols = refl;
    nets = refl;
    placed = All-nil (IsPlaced (length limits.accounts) (length limits.symbols));
    trees = λ tree inside. record {
      within = omega (arith, value_in-none limits tree);
      exact = λ left. value_in-none limits tree;
    };
  };
  admitted = λ tree. by_limit (limit_of limits tree) tree;
}
  where
    by_limit : (found : Option ℕ) (tree : ℕ)
        → IfSome found (λ limit. own_admitted limit (events_of tree []) ≡ last_post tree [])
    by_limit None tree = tt
    by_limit (Some limit) tree = refl

-- The three values of rows are what other orders are worth in their trees, and in each other tree
-- these are worth what the orders are.
pub record Tells (limits : LimitsValue) (rows : OrderRows) (values : List ℕ)
    (orders next : List Order) : Type 0 where
  pub firm : slice_index values 0 ≡ value_in limits 0 next
  pub account : slice_index values 1 ≡ value_in limits (account_tree rows.account) next
  pub symbol : slice_index values 2 ≡ value_in limits (symbol_tree limits rows.symbol) next
  pub others : (tree : ℕ) → IsOtherTree limits rows.account rows.symbol tree
      → value_in limits tree next ≡ value_in limits tree orders

-- the values of rows of a backed book, with these orders in place of its own
pub tells_with : (limits : LimitsValue) (acts : List Act) (book : BookValue)
    → Backs limits acts book → (rows : OrderRows) → AreRowsOf limits rows → (next : List Order)
    → ((tree : ℕ) → IsOtherTree limits rows.account rows.symbol tree
    → value_in limits tree next ≡ value_in limits tree book.orders)
    → Tells limits rows
    (values_of (proposal_of (with_orders next book) rows.account rows.symbol)) book.orders next
tells_with limits acts book backs rows are next others = record {
  firm = firm_for limits acts book backs next;
  account = account_for limits acts book backs next rows.account are.account;
  symbol = symbol_for limits acts book backs next rows.symbol;
  others = others;
}

-- tests that none passes
pub none_passes : {X : Type 0} (test : X → Bool) (items : List X) → list_any test items ≡ false
    → All (λ item. test item ≡ false) items
none_passes test [] none = All-nil (λ item. test item ≡ false)
none_passes test (item ∷ items) none =
    let both = or_parts (test item) (list_any test items) none in
    All-cons (λ one. test one ≡ false) item items both.0 (none_passes test items both.1)

-- a tree with no leg is another tree
other_tree : (limits : LimitsValue) (rows : OrderRows) (acts : List Act) (values : List ℕ)
    (tree : ℕ) → leg_in tree (legs_of limits rows acts values) ≡ None
    → IsOtherTree limits rows.account rows.symbol tree
other_tree limits rows acts values tree none =
    let firm = leg_with limits acts 0 (slice_index values 0) Firm in
    let account =
    leg_with limits acts (account_tree rows.account) (slice_index values 1) Account in
    let symbol =
    leg_with limits acts (symbol_tree limits rows.symbol) (slice_index values 2) Symbol in
    let one = none_in_front tree firm (account ∷ symbol ∷ []) none in
    let two = none_in_front tree account (symbol ∷ []) one.1 in
    let three = none_in_front tree symbol [] two.1 in
    record {
      not_firm = λ e. eqb-false 0 tree one.0 (sym e);
      not_account = λ e. eqb-false (account_tree rows.account) tree two.0 (sym e);
      not_symbol = λ e. eqb-false (symbol_tree limits rows.symbol) tree three.0 (sym e);
    }

-- a tree that keeps its posts backs what is worth the same
kept_backed : (limits : LimitsValue) (acts after : List Act) (book changed : BookValue) (tree : ℕ)
    → IsBacked limits acts book tree → KeepsTree tree acts after
    → value_in limits tree changed.orders ≡ value_in limits tree book.orders
    → IsBacked limits after changed tree
kept_backed limits acts after book changed tree was kept same = record {
  within = omega (arith, same, was.within, kept.last);
  exact = λ left. same ∙ was.exact (omega (arith, left, kept.posts)) ∙ sym kept.last;
}

-- ids with the places of their orders
abbrev pub Ids : Type 0
Ids = List (List ℕ × ℕ)

-- the acts keep what is posted in each tree of sums, and the orders are worth the same there
pub covers_kept : (limits : LimitsValue) (acts after : List Act) (book : BookValue)
    (orders : List Order) (ids : Ids) → Covers limits acts book
    → All (IsPlaced book.accounts book.symbols) orders
    → ((tree : ℕ) → tree < halt_tree limits → KeepsTree tree acts after)
    → ((tree : ℕ) → value_in limits tree orders ≡ value_in limits tree book.orders)
    → AdmitsLast limits after → Covers limits after (record book { orders = orders; ids = ids })
covers_kept limits acts after book orders ids covers placed kept same admits = record {
  backs = record {
    accounts = covers.backs.accounts;
    symbols = covers.backs.symbols;
    nets = covers.backs.nets;
    placed = placed;
    trees = λ tree inside.
        kept_backed limits acts after book (record book { orders = orders; ids = ids }) tree
        (covers.backs.trees tree inside) (kept tree inside) (same tree);
  };
  admitted = admits;
}

-- an act that is no call
pub covers_noted : (limits : LimitsValue) (acts : List Act) (book : BookValue) (act : Act)
    → IsNoCall act → Covers limits acts book → Covers limits (acts ++ act ∷ []) book
covers_noted limits acts book act none covers =
    covers_kept limits acts (acts ++ act ∷ []) book book.orders book.ids covers covers.backs.placed
    (λ tree inside. noted_keeps tree acts act none) (λ tree. refl)
    (noted_admits limits acts act none covers.admitted)

-- a post in the halt tree
pub covers_tripped : (limits : LimitsValue) (value : ℕ) (acts : List Act) (book : BookValue)
    → Covers limits acts book → Covers limits (with_post (halt_tree limits) value acts) book
covers_tripped limits value acts book covers =
    covers_kept limits acts (with_post (halt_tree limits) value acts) book book.orders book.ids
    covers covers.backs.placed (λ tree below. tripped_keeps limits value tree acts below)
    (λ tree. refl) (tripped_admits limits value acts covers.admitted)

-- whatever is so where too few posts are left, where the values stand posted and where the old ones
-- are posted back, is so of what asking comes to
module _ (limits : LimitsValue) (legs : List Leg) (before : Tape) (P : Asked → Type 0)
    (quota : P (record { verdict = verdict.Quota; tape = before }))
    (sent : P (record { verdict = verdict.Sent; tape = posted_and_read limits legs before }))
    (back : (answer : Verdict) (why : Refusal) → refusal_by answer ≡ Some why
    → P (record {
      verdict = answer;
      tape = fold post_old (posted_and_read limits legs before) legs;
    })) where
  by_verdict : (answer : Verdict) → P (record {
    verdict = answer;
    tape = settled legs answer (posted_and_read limits legs before);
  })
  by_verdict verdict.Sent = sent
  by_verdict verdict.Firm = back verdict.Firm refusal.Firm refl
  by_verdict verdict.Account = back verdict.Account refusal.Account refl
  by_verdict verdict.Symbol = back verdict.Symbol refusal.Symbol refl
  by_verdict verdict.Halt = back verdict.Halt refusal.Halt refl
  by_verdict verdict.Quota = back verdict.Quota refusal.Quota refl

  by_shortage : (short : Bool) → P (cond {A = Asked} short
      (record { verdict = verdict.Quota; tape = before }) (record {
        verdict = verdict_of legs before.reads;
        tape = settled legs (verdict_of legs before.reads) (posted_and_read limits legs before);
      }))
  by_shortage true = quota
  by_shortage false = by_verdict (verdict_of legs before.reads)

  pub asking_is : P (asking limits legs before)
  asking_is = by_shortage (is_short limits before.acts legs)

-- orders become others, and the three trees of these rows are asked or lowered
module _ (limits : LimitsValue) (rows : OrderRows) (are : AreRowsOf limits rows) (values : List ℕ)
    (acts : List Act) (book : BookValue) (orders : List Order) (ids : Ids)
    (covers : Covers limits acts book) (placed : All (IsPlaced book.accounts book.symbols) orders)
    (told : Tells limits rows values book.orders orders) where
  abbrev next : BookValue
  next = record book { orders = orders; ids = ids }

  abbrev legs : List Leg
  legs = legs_of limits rows acts values

  legs_for : All (IsLegFor limits acts) legs
  legs_for = legs_are limits rows acts values

  -- the new value of a leg is what the other orders are worth in its tree
  legs_tell : All (λ leg. leg.new ≡ value_in limits leg.tree orders) legs
  legs_tell =
      all_three (λ leg. leg.new ≡ value_in limits leg.tree orders) _ _ _ told.firm told.account
      told.symbol

  legs_below : All (λ leg. leg.tree < halt_tree limits) legs
  legs_below =
      all_three (λ leg. leg.tree < halt_tree limits) _ _ _ (omega arith)
      (omega (arith, are.account)) (omega (arith, are.symbol))

  others_same : (tree : ℕ) → leg_in tree legs ≡ None
      → value_in limits tree orders ≡ value_in limits tree book.orders
  others_same tree none = told.others tree (other_tree limits rows acts values tree none)

  -- in the tree of a leg
  own_value : (tree : ℕ) (own : Leg) → leg_in tree legs ≡ Some own
      → own.new ≡ value_in limits tree orders
  own_value tree own found =
      let has = leg_has (λ leg. leg.new ≡ value_in limits leg.tree orders) tree own legs found
      legs_tell in
      has.1 ∙ ap (λ t. value_in limits t orders) has.0

  own_old : (tree : ℕ) (own : Leg) → leg_in tree legs ≡ Some own → own.old ≡ last_post tree acts
  own_old tree own found =
      let has = leg_has (IsLegFor limits acts) tree own legs found legs_for in
      has.1.old ∙ ap (λ t. last_post t acts) has.0

  -- backed in each tree by whether it has a leg
  by_leg : (after : List Act) (changed : BookValue)
      → ((tree : ℕ) → leg_in tree legs ≡ None → KeepsTree tree acts after)
      → ((tree : ℕ) → leg_in tree legs ≡ None
      → value_in limits tree changed.orders ≡ value_in limits tree book.orders)
      → ((tree : ℕ) (own : Leg) → leg_in tree legs ≡ Some own → tree < halt_tree limits
      → IsBacked limits after changed tree)
      → (tree : ℕ) → tree < halt_tree limits → (found : Option Leg) → leg_in tree legs ≡ found
      → IsBacked limits after changed tree
  by_leg after changed keeps same posts tree inside None none =
      kept_backed limits acts after book changed tree (covers.backs.trees tree inside)
      (keeps tree none) (same tree none)
  by_leg after changed keeps same posts tree inside (Some own) found = posts tree own found inside

  backed_by : (after : List Act)
      → ((tree : ℕ) → leg_in tree legs ≡ None → KeepsTree tree acts after)
      → ((tree : ℕ) (own : Leg) → leg_in tree legs ≡ Some own → tree < halt_tree limits
      → IsBacked limits after next tree)
      → Backs limits after next
  backed_by after keeps posts = record {
    accounts = covers.backs.accounts;
    symbols = covers.backs.symbols;
    nets = covers.backs.nets;
    placed = placed;
    trees = λ tree inside.
        by_leg after next keeps others_same posts tree inside (leg_in tree legs) refl;
  }

  -- Nothing is posted: the values are at most what was last posted, and no less than before.
  pub covers_at_once : All (λ leg. leg.new ≤ leg.old) legs
      → ((tree : ℕ) → value_in limits tree book.orders ≤ value_in limits tree orders)
      → Covers limits acts next
  covers_at_once less raised = record {
    backs = backed_by acts (λ tree none. record { posts = refl; last = refl })
        (λ tree own found inside.
        let was = covers.backs.trees tree inside in
        let low = leg_has (λ leg. leg.new ≤ leg.old) tree own legs found less in
        let value = own_value tree own found in
        let old = own_old tree own found in
        record {
          within = omega (arith, low.1, value, old);
          exact = λ left.
              omega (arith, low.1, value, old, raised tree, was.exact left);
        });
    admitted = covers.admitted;
  }

  -- lower values are posted
  pub covers_lowered : All (λ leg. leg.new ≤ leg.old) legs
      → Covers limits (lowering limits legs acts).acts next
  covers_lowered less =
      let apart = legs_apart limits rows acts values are.account in
      record {
        backs = backed_by (lowering limits legs acts).acts
            (λ tree none. lowering_keeps limits tree legs acts none)
            (λ tree own found inside.
            let low = leg_has (λ leg. leg.new ≤ leg.old) tree own legs found less in
            let posted = lowering_posts limits tree own legs acts found apart
            (own_old tree own found) low.1 in
            let value = own_value tree own found in
            record {
              within = omega (arith, value, posted.within);
              exact = λ left. sym value ∙ sym (posted.exact left);
            });
        admitted = lowered_admits limits legs acts apart legs_for covers.admitted less;
      }

  -- values that are no more than they were
  pub lower_legs : ((tree : ℕ)
      → value_in limits tree orders ≤ value_in limits tree book.orders)
      → All (λ leg. leg.new ≤ leg.old) legs
  lower_legs lowered = λ k d inside.
      let value = legs_tell k d inside in
      let below = legs_below k d inside in
      let old = legs_for k d inside in
      let was = covers.backs.trees (slice_index_or legs k d).tree below in
      omega (arith, value, old.old, was.within, lowered (slice_index_or legs k d).tree)

  -- the trees are asked, and the book becomes the other one where they refuse nothing
  module _ (reads : List SeenAt)
      (raised : (tree : ℕ)
      → value_in limits tree book.orders ≤ value_in limits tree orders) where
    abbrev before : Tape
    before = tape acts reads

    abbrev posted : Tape
    posted = posted_and_read limits legs before

    -- while two posts are left no value is below the last post
    raised_legs : is_short limits acts legs ≡ false → All (λ leg. leg.old ≤ leg.new) legs
    raised_legs enough = λ k d inside.
        let leg = slice_index_or legs k d in
        let two = ltb-false limits.quota (posts_in leg.tree acts + 2)
        (none_passes (λ (own : Leg). nat_lt limits.quota (posts_in own.tree acts + 2)) legs enough
        k d inside) in
        let value = legs_tell k d inside in
        let below = legs_below k d inside in
        let old = legs_for k d inside in
        let was = covers.backs.trees leg.tree below in
        let exact = was.exact (omega (arith, two)) in
        omega (arith, value, old.old, exact, raised leg.tree)

    -- the values stand posted
    backs_sent : Backs limits posted.acts next
    backs_sent =
        let apart = legs_apart limits rows acts values are.account in
        backed_by posted.acts (λ tree none. asked_keeps limits legs before tree none)
        (λ tree own found inside.
        let posts = asked_posts limits legs before tree own found apart in
        let value = own_value tree own found in
        record {
          within = omega (arith, value, posts.last);
          exact = λ left. sym value ∙ sym posts.last;
        })

    -- the old values stand posted again
    covers_refused : AdmitsLast limits (fold post_old posted legs).acts
        → Covers limits (fold post_old posted legs).acts book
    covers_refused admits = record {
      backs = record {
        accounts = covers.backs.accounts;
        symbols = covers.backs.symbols;
        nets = covers.backs.nets;
        placed = covers.backs.placed;
        trees = λ tree inside.
            by_leg (fold post_old posted legs).acts book
            (λ own none. back_keeps limits legs before own none) (λ own none. refl)
            (λ own leg found below.
            let posts = back_posts limits legs before own leg found
            (legs_apart limits rows acts values are.account) in
            let old = own_old own leg found in
            let was = covers.backs.trees own below in
            record {
              within = omega (arith, was.within, old, posts.last);
              exact = λ left.
                  was.exact (omega (arith, left, posts.posts)) ∙ sym old ∙ sym posts.last;
            }) tree inside (leg_in tree legs) refl;
      };
      admitted = admits;
    }

    pub covers_asked : (let asked = asking limits legs (tape acts reads) in
        Covers limits (decided_by book next asked).tape.acts (decided_by book next asked).book)
    covers_asked =
        asking_is limits legs before
        (λ asked. AdmitsLast limits asked.tape.acts
        → Covers limits (decided_by book next asked).tape.acts (decided_by book next asked).book)
        (λ admits. covers) (λ admits. record { backs = backs_sent; admitted = admits })
        (λ answer why is admits. rw is (covers_refused admits))
        (asked_admits limits legs before legs_for covers.admitted raised_legs)
