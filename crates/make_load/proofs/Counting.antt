-- How many messages of each type an order has.
use Rattle.std.proofs.Common.{◌≡◌, ℕ, ◌+◌, ◌≤◌, List, [], ◌∷◌, ◌++◌, refl, ap, ◌∙◌, arith, codes}
use Rattle.std.proofs.Common.{Bool, cond}
use Rattle.std.specs.Prelude.{count_by}
use Rattle.std.proofs.lemmas.List.Sums.{sum_by-append}
use Rattle.fix_fields.specs.Fields.{FieldValue}
use Rattle.make_load.specs.declared.draws.Draws.{Draws}
use Rattle.make_load.specs.declared.draws.Fate.{Fate}
use Rattle.make_load.specs.declared.draws.Fate.TheVariants as fate
use Rattle.make_load.specs.Loads.{fate_messages, fate_requests, fate_reports, order_messages}
use Rattle.make_load.specs.Loads.{is_of_type}
use Rattle.make_load.specs.Patterns.{new_order, taken}

pub count_by-append : {X : Type 0} (p : X → Bool) (xs ys : List X)
    → count_by p (xs ++ ys) ≡ count_by p xs + count_by p ys
count_by-append p xs ys = sum_by-append (λ x. cond (p x) 1 0) xs ys

fate_news : (f : Fate) (session order requests reports : ℕ) (d : Draws)
    → count_by (is_of_type (codes "D")) (fate_messages f session order requests reports d) ≡ 0
fate_news fate.Filled session order requests reports d = refl
fate_news fate.Canceled session order requests reports d = refl
fate_news fate.Left session order requests reports d = refl

fate_cancels : (f : Fate) (session order requests reports : ℕ) (d : Draws)
    → count_by (is_of_type (codes "F")) (fate_messages f session order requests reports d)
    ≡ fate_requests f
fate_cancels fate.Filled session order requests reports d = refl
fate_cancels fate.Canceled session order requests reports d = refl
fate_cancels fate.Left session order requests reports d = refl

fate_counts : (f : Fate) (session order requests reports : ℕ) (d : Draws)
    → count_by (is_of_type (codes "8")) (fate_messages f session order requests reports d)
    ≡ fate_reports f
fate_counts fate.Filled session order requests reports d = refl
fate_counts fate.Canceled session order requests reports d = refl
fate_counts fate.Left session order requests reports d = refl

-- an order is one, with the cancels and the reports that its fate brings
pub order_news : (session order requests reports : ℕ) (d : Draws)
    → count_by (is_of_type (codes "D")) (order_messages session order requests reports d) ≡ 1
order_news session order requests reports d =
    let kind : List FieldValue → Bool = is_of_type (codes "D") in
    let fates = fate_messages d.fate session order (requests + 1) (reports + 1) d in
    count_by-append kind (new_order session order (requests + 1) d
    ∷ taken session order (reports + 1) d ∷ []) fates
    ∙ ap (λ n. 1 + n) (fate_news d.fate session order (requests + 1) (reports + 1) d)

pub order_cancels : (session order requests reports : ℕ) (d : Draws)
    → count_by (is_of_type (codes "F")) (order_messages session order requests reports d)
    ≡ fate_requests d.fate
order_cancels session order requests reports d =
    fate_cancels d.fate session order (requests + 1) (reports + 1) d

pub order_reports : (session order requests reports : ℕ) (d : Draws)
    → count_by (is_of_type (codes "8")) (order_messages session order requests reports d)
    ≡ 1 + fate_reports d.fate
order_reports session order requests reports d =
    let kind : List FieldValue → Bool = is_of_type (codes "8") in
    let fates = fate_messages d.fate session order (requests + 1) (reports + 1) d in
    count_by-append kind (new_order session order (requests + 1) d
    ∷ taken session order (reports + 1) d ∷ []) fates
    ∙ ap (λ n. 1 + n) (fate_counts d.fate session order (requests + 1) (reports + 1) d)

pub fate_few : (f : Fate) → (fate_requests f ≤ 1) × (fate_reports f ≤ 1)
fate_few fate.Filled = (omega arith, omega arith)
fate_few fate.Canceled = (omega arith, omega arith)
fate_few fate.Left = (omega arith, omega arith)
