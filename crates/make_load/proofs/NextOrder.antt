-- One order more of a session's file.
use Rattle.std.proofs.Common.{◌≡◌, ℕ, ◌+◌, ◌-◌, ◌<◌, zero, suc, List, [], ◌∷◌, ◌++◌, refl, sym}
use Rattle.std.proofs.Common.{ap, ◌∙◌, subst, arith, codes, append_assoc}
use Rattle.std.specs.Prelude.{count_by}
use Rattle.std.specs.List.{flat_map}
use Rattle.std.proofs.lemmas.Grind.{flat_map-append}
use Rattle.fix_fields.specs.Fields.{FieldValue}
use Rattle.make_load.specs.declared.draws.Draws.{Draws}
use Rattle.make_load.specs.declared.orders.Numbers.{Numbers}
use Rattle.make_load.specs.Draws.{draws_from}
use Rattle.make_load.specs.Loads.{fate_requests, fate_reports, order_messages, messages_from}
use Rattle.make_load.specs.Loads.{line_of, is_of_type, session_text, count_in_session}
use Rattle.make_load.specs.Pens.{AddsLines, CountsOrder, IsFew}
use Rattle.make_load.proofs.Counting.{count_by-append, order_news, order_cancels, order_reports}
use Rattle.make_load.proofs.Counting.{fate_few}

-- the messages of an order and of those behind it
pub next_order : (session left rest order x requests reports : ℕ) → left ≡ rest + 1
    → (let d = draws_from x in
    messages_from session left order x requests reports
    ≡ order_messages session order requests reports d
    ++ messages_from session rest (order + 1) d.state (requests + 1 + fate_requests d.fate)
    (reports + 1 + fate_reports d.fate))
next_order session zero rest order x requests reports is = absurd (omega (arith, is))
next_order session (suc left) rest order x requests reports is =
    let same : left ≡ rest = omega (arith, is) in
    let d = draws_from x in
    ap (λ n. order_messages session order requests reports d
    ++ messages_from session n (order + 1) d.state (requests + 1 + fate_requests d.fate)
    (reports + 1 + fate_reports d.fate)) same

-- After so many orders of a session: the bytes, and the messages of each type, of those that are
-- left are what all of them still lack.
pub record IsSoFar (number orders session order x : ℕ) (numbers : Numbers) (bytes : List ℕ)
    : Type 0 where
  pub text : bytes ++ flat_map line_of (messages_from session (orders - order) order x
      numbers.requests numbers.reports) ≡ session_text number orders session
  pub few : IsFew numbers order
  pub new : order + count_by (is_of_type (codes "D")) (messages_from session (orders - order) order x
      numbers.requests numbers.reports) ≡ count_in_session (codes "D") number orders session
  pub cancel : (numbers.requests - order) + count_by (is_of_type (codes "F"))
      (messages_from session (orders - order) order x numbers.requests numbers.reports)
      ≡ count_in_session (codes "F") number orders session
  pub report : numbers.reports + count_by (is_of_type (codes "8"))
      (messages_from session (orders - order) order x numbers.requests numbers.reports)
      ≡ count_in_session (codes "8") number orders session

module _ (number orders session order x : ℕ) (numbers after : Numbers) (bytes now : List ℕ)
    (below : order < orders) (so_far : IsSoFar number orders session order x numbers bytes)
    (lines : AddsLines bytes now
    (order_messages session order numbers.requests numbers.reports (draws_from x)))
    (counted : CountsOrder numbers after (draws_from x)) where
  abbrev own : List (List FieldValue)
  own = order_messages session order numbers.requests numbers.reports (draws_from x)

  abbrev behind : List (List FieldValue)
  behind = messages_from session (orders - (order + 1)) (order + 1) (draws_from x).state
      after.requests after.reports

  split : messages_from session (orders - order) order x numbers.requests numbers.reports
      ≡ own ++ behind
  split =
      next_order session (orders - order) (orders - (order + 1)) order x numbers.requests
      numbers.reports (omega (arith, below))
      ∙ ap (λ n. own ++ messages_from session (orders - (order + 1)) (order + 1)
      (draws_from x).state n (numbers.reports + 1 + fate_reports (draws_from x).fate))
      (sym counted.requests)
      ∙ ap (λ n. own ++ messages_from session (orders - (order + 1)) (order + 1)
      (draws_from x).state after.requests n) (sym counted.reports)

  pub order_more : IsSoFar number orders session (order + 1) (draws_from x).state after now
  order_more = record {
    text = ap (λ b. b ++ flat_map line_of behind) lines.added
        ∙ append_assoc bytes (flat_map line_of own) (flat_map line_of behind)
        ∙ ap (λ t. bytes ++ t) (sym (flat_map-append line_of own behind))
        ∙ ap (λ ms. bytes ++ flat_map line_of ms) (sym split)
        ∙ so_far.text;
    few = record {
      least = omega (arith, so_far.few.least, counted.requests);
      requests = omega (arith, so_far.few.requests, counted.requests, (fate_few (draws_from x).fate).0);
      reports = omega (arith, so_far.few.reports, counted.reports, (fate_few (draws_from x).fate).1);
    };
    new = omega (
      arith,
      so_far.new,
      ap (count_by (is_of_type (codes "D"))) split,
      count_by-append (is_of_type (codes "D")) own behind,
      order_news session order numbers.requests numbers.reports (draws_from x),
    );
    cancel = omega (
      arith,
      so_far.cancel,
      so_far.few.least,
      counted.requests,
      ap (count_by (is_of_type (codes "F"))) split,
      count_by-append (is_of_type (codes "F")) own behind,
      order_cancels session order numbers.requests numbers.reports (draws_from x),
    );
    report = omega (
      arith,
      so_far.report,
      counted.reports,
      ap (count_by (is_of_type (codes "8"))) split,
      count_by-append (is_of_type (codes "8")) own behind,
      order_reports session order numbers.requests numbers.reports (draws_from x),
    );
  }

-- the same of draws that are those of this number
pub order_next : (number orders session order x : ℕ) (numbers after : Numbers) (bytes now : List ℕ)
    (d : Draws) → d ≡ draws_from x → order < orders
    → IsSoFar number orders session order x numbers bytes
    → AddsLines bytes now (order_messages session order numbers.requests numbers.reports d)
    → CountsOrder numbers after d
    → IsSoFar number orders session (order + 1) d.state after now
order_next number orders session order x numbers after bytes now d is below so_far lines counted =
    subst (λ (e : Draws). IsSoFar number orders session (order + 1) e.state after now) (sym is)
    (order_more number orders session order x numbers after bytes now below so_far
    (subst (λ (e : Draws). AddsLines bytes now
    (order_messages session order numbers.requests numbers.reports e)) is lines)
    (subst (λ (e : Draws). CountsOrder numbers after e) is counted))

-- when no order is left
none_left : (session left order x requests reports : ℕ) → left ≡ 0
    → messages_from session left order x requests reports ≡ []
none_left session left order x requests reports none =
    ap (λ n. messages_from session n order x requests reports) none

pub record IsWhole (number orders session : ℕ) (numbers : Numbers) (bytes : List ℕ) : Type 0 where
  pub text : bytes ≡ session_text number orders session
  pub new : orders ≡ count_in_session (codes "D") number orders session
  pub cancel : numbers.requests - orders ≡ count_in_session (codes "F") number orders session
  pub report : numbers.reports ≡ count_in_session (codes "8") number orders session

pub all_orders : (number orders session order x : ℕ) (numbers : Numbers) (bytes : List ℕ)
    → order ≡ orders → IsSoFar number orders session order x numbers bytes
    → IsWhole number orders session numbers bytes
all_orders number orders session order x numbers bytes whole h =
    let none = none_left session (orders - order) order x numbers.requests numbers.reports
    (omega (arith, whole)) in
    record {
      text = sym (append_nothing bytes) ∙ ap (λ ms. bytes ++ flat_map line_of ms) (sym none) ∙ h.text;
      new = omega (arith, whole, h.new, ap (count_by (is_of_type (codes "D"))) none);
      cancel = omega (arith, whole, h.cancel, ap (count_by (is_of_type (codes "F"))) none);
      report = omega (arith, whole, h.report, ap (count_by (is_of_type (codes "8"))) none);
    } where
      append_nothing : (xs : List ℕ) → xs ++ [] ≡ xs
      append_nothing [] = refl
      append_nothing (b ∷ xs) = ap (λ r. b ∷ r) (append_nothing xs)
