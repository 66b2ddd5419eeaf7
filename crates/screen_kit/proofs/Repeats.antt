-- What the screen for repeats tells of the orders that it judged.
use Rattle.std.proofs.Common.{◌≡◌, ℕ, ◌-◌, ◌==◌, Bool, true, false, ◌&&◌, List, [], Any, ap, refl, sym, ◌∙◌, ◌⊎◌, inl, inr, arith, fold, if◌then◌else◌}
use Rattle.std.specs.List.{list_any}
use Rattle.std.proofs.lemmas.Bool.{eqb-true, and_from}
use Rattle.std.proofs.lemmas.List.Folds.{Any-from_list_any, list_any-from_Any}
use Rattle.std.proofs.Math.Seq.{drop-nil}
use Rattle.circular_buffer.specs.Buffer.{keep_last}
use Rattle.fix_orders.specs.declared.message.OrderKind.{OrderKind}
use Rattle.fix_orders.specs.declared.message.OrderKind.TheVariants.{Market, Limit}
use Rattle.screen_kit.specs.declared.order.Order.{Order}
use Rattle.screen_kit.specs.declared.order.Terms.{Terms}
use Rattle.screen_kit.specs.Screens.{ScreenValue, armed, code_for}
use Rattle.screen_kit.specs.Repeat.{SameOrder, kind_number, is_same, window_of, repeat_code, repeat_next, repeat_screen}
use Rattle.screen_kit.specs.Laws.{judged_all, TellsRepeats}
use Rattle.screen_kit.proofs.Folds.{code_is_fold}
use Rattle.screen_kit.proofs.Windows.{fold-repeat_next, is_among-sixes_of}

-- two order types with one number are the same
kind_number-same : (a b : OrderKind) → kind_number a ≡ kind_number b → a ≡ b
kind_number-same Market Market same = refl
kind_number-same Market Limit same = absurd (omega arith)
kind_number-same Limit Market same = absurd (omega arith)
kind_number-same Limit Limit same = refl

both : (x y : Bool) → (x && y) ≡ true → (x ≡ true) × (y ≡ true)
both true y held = (refl, held)
both false y held = absurd (cc)

equal_passes : (a b : ℕ) → a ≡ b → (a == b) ≡ true
equal_passes a b same = grind arith

-- the test is of the six fields
pub same_from_test : (a b : Order) → is_same a b ≡ true → SameOrder a b
same_from_test a b held =
    let price = both _ (a.price == b.price) held in
    let quantity = both _ (a.quantity == b.quantity) price.0 in
    let kind = both _ (kind_number a.kind == kind_number b.kind) quantity.0 in
    let side = both _ (a.side == b.side) kind.0 in
    let symbol = both (a.account == b.account) (a.symbol == b.symbol) side.0 in
    record {
      account = eqb-true a.account b.account symbol.0;
      symbol = eqb-true a.symbol b.symbol symbol.1;
      side = eqb-true a.side b.side side.1;
      kind = kind_number-same a.kind b.kind
          (eqb-true (kind_number a.kind) (kind_number b.kind) kind.1);
      quantity = eqb-true a.quantity b.quantity quantity.1;
      price = eqb-true a.price b.price price.1;
    }

pub test_from_same : (a b : Order) → SameOrder a b → is_same a b ≡ true
test_from_same a b same =
    and_from _ (a.price == b.price) (and_from _ (a.quantity == b.quantity)
    (and_from _ (kind_number a.kind == kind_number b.kind) (and_from _ (a.side == b.side)
    (and_from (a.account == b.account) (a.symbol == b.symbol)
    (equal_passes a.account b.account same.account) (equal_passes a.symbol b.symbol same.symbol))
    (equal_passes a.side b.side same.side))
    (equal_passes (kind_number a.kind) (kind_number b.kind) (ap kind_number same.kind)))
    (equal_passes a.quantity b.quantity same.quantity))
    (equal_passes a.price b.price same.price)

-- the code where the test holds, and otherwise
abbrev code_of : Bool → ℕ
code_of b = if b then 3 else 0

-- the code after these orders, by the last of them
repeat_code-last : (terms : Terms) (orders : List Order) (order : Order)
    → code_for order (judged_all orders (armed terms (repeat_screen [])))
    ≡ code_of (list_any (λ kept. is_same order kept) (keep_last terms.repeat orders))
repeat_code-last terms orders order =
    code_is_fold (repeat_screen []) terms orders order
    ∙ ap (λ s. repeat_code (fold repeat_next (window_of terms.repeat s) orders) order)
    (sym (drop-nil (0 - terms.repeat)))
    ∙ ap (λ s. repeat_code s order) (fold-repeat_next terms.repeat [] orders)
    ∙ ap code_of (is_among-sixes_of order (keep_last terms.repeat orders))

three_is_true : (b : Bool) → code_of b ≡ 3 → b ≡ true
three_is_true true is = refl
three_is_true false is = absurd (omega arith)

three_or_none : (b : Bool) → (code_of b ≡ 3) ⊎ (code_of b ≡ 0)
three_or_none true = inl refl
three_or_none false = inr refl

pub tells_repeats : (terms : Terms) (orders : List Order) (order : Order)
    → TellsRepeats terms orders order
tells_repeats terms orders order =
    let last : List Order = keep_last terms.repeat orders in
    let test : Order → Bool = λ kept. is_same order kept in
    let judged : ScreenValue = judged_all orders (armed terms (repeat_screen [])) in
    let code : code_for order judged ≡ code_of (list_any test last) =
    repeat_code-last terms orders order in
    record {
      refuses = (
        (λ is.
            let found : Any (λ kept. test kept ≡ true) last = Any-from_list_any test last
            (three_is_true (list_any test last) (sym code ∙ is)) in
            (found.0, found.1, found.2, found.3, same_from_test order found.1 found.4)),
        (λ found. code ∙ ap code_of (list_any-from_Any test last
            (found.0, found.1, found.2, found.3, test_from_same order found.1 found.4))),
      );
      passes = elim (three_or_none (list_any test last)) [
        | inl is ↦ inl (code ∙ is)
        | inr is ↦ inr (code ∙ is)
      ];
    }
