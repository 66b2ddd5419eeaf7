-- The window of the screen for repeats: as a list of orders, and as the numbers that it keeps.
use Rattle.std.proofs.Common.{◌≡◌, ℕ, ◌+◌, ◌-◌, ◌*◌, List, [], ◌∷◌, ◌++◌, length, drop, zero, suc, ap, refl, sym, ◌∙◌, arith, fold, append_assoc, length-append, length-drop, ◌||◌}
use Rattle.std.specs.List.{list_any}
use Rattle.std.proofs.lemmas.List.{drop-append-le, drop-drop, append-nil}
use Rattle.std.proofs.Math.Seq.{drop-nil}
use Rattle.circular_buffer.specs.Buffer.{keep_last}
use Rattle.screen_kit.specs.declared.order.Order.{Order}
use Rattle.screen_kit.specs.Repeat.{is_same, six_of, sixes_of, is_among, window_of, repeat_next}

-- the six numbers of one more order
pub sixes_of-append : (orders : List Order) (order : Order)
    → sixes_of (orders ++ order ∷ []) ≡ sixes_of orders ++ six_of order
sixes_of-append [] order = refl
sixes_of-append (first ∷ orders) order = ap (λ s. six_of first ++ s) (sixes_of-append orders order)

pub length-sixes_of : (orders : List Order) → length (sixes_of orders) ≡ 6 * length orders
length-sixes_of [] = refl
length-sixes_of (order ∷ orders) =
    let rest : length (sixes_of orders) ≡ 6 * length orders = length-sixes_of orders in
    omega arith

-- six numbers are dropped with each order
pub sixes_of-drop : (k : ℕ) (orders : List Order)
    → sixes_of (drop k orders) ≡ drop (6 * k) (sixes_of orders)
sixes_of-drop zero orders = refl
sixes_of-drop (suc k) [] = sym (drop-nil (6 * suc k))
sixes_of-drop (suc k) (order ∷ orders) =
    let more : 6 * suc k ≡ suc (suc (suc (suc (suc (suc (6 * k)))))) = omega arith in
    sixes_of-drop k orders ∙ ap (λ n. drop n (sixes_of (order ∷ orders))) (sym more)

-- so the last orders keep the last numbers
pub sixes_of-keep_last : (n : ℕ) (orders : List Order)
    → sixes_of (keep_last n orders) ≡ keep_last (6 * n) (sixes_of orders)
sixes_of-keep_last n orders =
    let long : length (sixes_of orders) ≡ 6 * length orders = length-sixes_of orders in
    let same : 6 * (length orders - n) ≡ length (sixes_of orders) - 6 * n = omega arith in
    sixes_of-drop (length orders - n) orders ∙ ap (λ k. drop k (sixes_of orders)) same

-- an order joins the window
pub repeat_next-window_of : (most : ℕ) (orders : List Order) (order : Order)
    → repeat_next (window_of most orders) order
    ≡ window_of most (keep_last most (orders ++ order ∷ []))
repeat_next-window_of most orders order =
    ap (λ s. most ∷ keep_last (6 * most) s) (sym (sixes_of-append orders order))
    ∙ ap (λ s. most ∷ s) (sym (sixes_of-keep_last most (orders ++ order ∷ [])))

-- among the numbers stands an order exactly where one of the orders is the same
pub is_among-sixes_of : (order : Order) (orders : List Order)
    → is_among order (sixes_of orders) ≡ list_any (λ kept. is_same order kept) orders
is_among-sixes_of order [] = refl
is_among-sixes_of order (first ∷ orders) =
    ap (λ b. is_same order first || b) (is_among-sixes_of order orders)

-- the last n are those of the last n and of what follows
pub keep_last-again : (n : ℕ) (xs ys : List Order)
    → keep_last n (keep_last n xs ++ ys) ≡ keep_last n (xs ++ ys)
keep_last-again n xs ys =
    let cut : ℕ = length xs - n in
    let joined : drop cut xs ++ ys ≡ drop cut (xs ++ ys) =
    sym (drop-append-le cut xs ys (omega arith)) in
    let long : length (xs ++ ys) ≡ length xs + length ys = length-append xs ys in
    let left : length (drop cut (xs ++ ys)) ≡ length (xs ++ ys) - cut =
    length-drop cut (xs ++ ys) in
    ap (λ s. keep_last n s) joined
    ∙ drop-drop (length (drop cut (xs ++ ys)) - n) cut (xs ++ ys)
    ∙ ap (λ k. drop k (xs ++ ys)) (omega arith)

-- a window that judged these orders has the last of them
pub fold-repeat_next : (most : ℕ) (before orders : List Order)
    → fold repeat_next (window_of most (keep_last most before)) orders
    ≡ window_of most (keep_last most (before ++ orders))
fold-repeat_next most before [] =
    ap (λ s. window_of most (keep_last most s)) (sym (append-nil before))
fold-repeat_next most before (order ∷ orders) =
    ap (λ s. fold repeat_next s orders) (repeat_next-window_of most (keep_last most before) order
    ∙ ap (λ s. window_of most s) (keep_last-again most before (order ∷ [])))
    ∙ fold-repeat_next most (before ++ order ∷ []) orders
    ∙ ap (λ s. window_of most (keep_last most s)) (append_assoc before (order ∷ []) orders)
