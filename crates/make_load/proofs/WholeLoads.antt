-- The files of a load: each message can be read again, and the files are short.
use Rattle.std.proofs.Common.{◌≡◌, ℕ, ◌+◌, ◌*◌, ◌^◌, ◌<◌, ◌≤◌, zero, suc, List, [], ◌∷◌, ◌++◌}
use Rattle.std.proofs.Common.{length, arith, sym, length-append}
use Rattle.std.specs.List.{AllByRecursion, flat_map}
use Rattle.fix_fields.specs.Fields.{FieldValue}
use Rattle.fix_fields.specs.Frames.{FrameValue}
use Rattle.fix_fields.specs.Found.{Splits}
use Rattle.fix_fields.specs.declared.frame.Found.TheVariants as found
use Rattle.make_load.specs.declared.draws.Draws.{Draws}
use Rattle.make_load.specs.declared.draws.Fate.{Fate}
use Rattle.make_load.specs.declared.draws.Fate.TheVariants as fate
use Rattle.make_load.specs.declared.part.Part.{Part}
use Rattle.make_load.specs.Draws.{draws_from, drawn, first_state}
use Rattle.make_load.specs.Loads.{fate_messages, fate_requests, fate_reports, order_messages}
use Rattle.make_load.specs.Loads.{messages_from, session_messages, session_text, line_of}
use Rattle.make_load.specs.Sizes.{AreSmall}
use Rattle.make_load.specs.Values.{IsPart, message_of}
use Rattle.make_load.proofs.Counting.{fate_few}
use Rattle.make_load.proofs.Lines.{lines_split, no_gap}
use Rattle.make_load.proofs.Messages.{IsMessage, IsKind, line_size}
use Rattle.make_load.proofs.PatternParts.{CanBeSpelled, small_is_spelled}
use Rattle.make_load.proofs.PatternParts.{new_order_parts, new_order_is, new_order_each, taken_parts}
use Rattle.make_load.proofs.PatternParts.{taken_is, taken_each, filled_is, cancel_is, canceled_is}
use Rattle.make_load.proofs.PatternParts.{filled_parts, filled_each, cancel_parts, cancel_each}
use Rattle.make_load.proofs.PatternParts.{canceled_parts, canceled_each}

-- a draw is below its bound
drawn_below : (x n : ℕ) → drawn x (n + 1) < n + 1
drawn_below x n = omega arith

-- what is drawn is within its range
pub draws_are_small : (x : ℕ) → AreSmall (draws_from x)
draws_are_small x = record {
  account = omega arith;
  symbol = omega arith;
  side = omega arith;
  quantity = omega arith;
  price = omega arith;
}

is_message : (fields : List FieldValue) (kind : ℕ) (parts : List Part)
    → message_of kind parts ≡ fields → IsKind kind → AllByRecursion IsPart parts
    → length parts ≤ 20 → IsMessage fields
is_message fields kind parts is typed each few =
    record { kind = kind; parts = parts; is = sym is; typed = typed; each = each; few = few }

abbrev order_kind : IsKind 68
order_kind = record { least = omega arith; most = omega arith }

abbrev cancel_kind : IsKind 70
cancel_kind = record { least = omega arith; most = omega arith }

abbrev report_kind : IsKind 56
report_kind = record { least = omega arith; most = omega arith }

module _ (session order : ℕ) (low : session < 100) (order_fits : order < 2 ^ 31) where
  fate_each : (f : Fate) (requests reports : ℕ) (d : Draws) → requests < 2 ^ 31 → reports < 2 ^ 31
      → CanBeSpelled d → AllByRecursion IsMessage (fate_messages f session order requests reports d)
  fate_each fate.Filled requests reports d some more spelled = (
    is_message _ 56 (filled_parts session order (reports + 1) d)
        (filled_is session order (reports + 1) d) report_kind
        (filled_each session order (reports + 1) d low (omega arith) (omega arith) spelled)
        (omega arith),
    tt,
  )
  fate_each fate.Canceled requests reports d some more spelled = (
    is_message _ 70 (cancel_parts session order (requests + 1) d)
        (cancel_is session order (requests + 1) d) cancel_kind
        (cancel_each session order (requests + 1) d low (omega arith) (omega arith) spelled)
        (omega arith),
    (
      is_message _ 56 (canceled_parts session order (reports + 1) d)
          (canceled_is session order (reports + 1) d) report_kind
          (canceled_each session order (reports + 1) d low (omega arith) (omega arith) spelled)
          (omega arith),
      tt,
    ),
  )
  fate_each fate.Left requests reports d some more spelled = tt

  order_each : (requests reports : ℕ) (d : Draws) → requests + 1 < 2 ^ 31 → reports + 1 < 2 ^ 31
      → CanBeSpelled d → AllByRecursion IsMessage (order_messages session order requests reports d)
  order_each requests reports d some more spelled = (
    is_message _ 68 (new_order_parts session order (requests + 1) d)
        (new_order_is session order (requests + 1) d) order_kind
        (new_order_each session order (requests + 1) d low (omega arith) (omega arith) spelled)
        (omega arith),
    (
      is_message _ 56 (taken_parts session order (reports + 1) d)
          (taken_is session order (reports + 1) d) report_kind
          (taken_each session order (reports + 1) d low (omega arith) (omega arith) spelled)
          (omega arith),
      fate_each d.fate (requests + 1) (reports + 1) d some more spelled,
    ),
  )

both : (ms ns : List (List FieldValue)) → AllByRecursion IsMessage ms → AllByRecursion IsMessage ns
    → AllByRecursion IsMessage (ms ++ ns)
both [] ns each others = others
both (m ∷ ms) ns each others = (each.0, both ms ns each.1 others)

-- each message of so many orders can be read again
pub messages_each : (session left order x requests reports : ℕ) → session < 100
    → order + left ≤ 10000 → requests + 2 * left ≤ 20000 → reports + 2 * left ≤ 20000
    → AllByRecursion IsMessage (messages_from session left order x requests reports)
messages_each session zero order x requests reports low few some more = tt
messages_each session (suc left) order x requests reports low few some more =
    let d = draws_from x in
    let fate_is = fate_few (draws_from x).fate in
    both (order_messages session order requests reports (draws_from x))
    (messages_from session left (order + 1) (draws_from x).state
    (requests + 1 + fate_requests (draws_from x).fate)
    (reports + 1 + fate_reports (draws_from x).fate))
    (order_each session order low (omega (arith, few)) requests reports (draws_from x)
    (omega (arith, some)) (omega (arith, more))
    (small_is_spelled (draws_from x) (draws_are_small x)))
    (messages_each session left (order + 1) (draws_from x).state
    (requests + 1 + fate_requests (draws_from x).fate)
    (reports + 1 + fate_reports (draws_from x).fate) low
    (omega (arith, few)) (omega (arith, some, fate_is.0)) (omega (arith, more, fate_is.1)))

lines_size : (messages : List (List FieldValue)) → AllByRecursion IsMessage messages
    → length (flat_map line_of messages) ≤ 500 * length messages
lines_size [] each = omega arith
lines_size (m ∷ messages) each =
    omega (
      arith,
      length-append (line_of m) (flat_map line_of messages),
      line_size m each.0,
      lines_size messages each.1,
    )

fate_long : (f : Fate) (session order requests reports : ℕ) (d : Draws)
    → length (fate_messages f session order requests reports d) ≤ 2
fate_long fate.Filled session order requests reports d = omega arith
fate_long fate.Canceled session order requests reports d = omega arith
fate_long fate.Left session order requests reports d = omega arith

-- at most four messages an order
messages_few : (session left order x requests reports : ℕ)
    → length (messages_from session left order x requests reports) ≤ 4 * left
messages_few session zero order x requests reports = omega arith
messages_few session (suc left) order x requests reports =
    let d = draws_from x in
    let behind = messages_from session left (order + 1) (draws_from x).state
    (requests + 1 + fate_requests (draws_from x).fate)
    (reports + 1 + fate_reports (draws_from x).fate) in
    omega (
      arith,
      length-append (order_messages session order requests reports (draws_from x)) behind,
      fate_long (draws_from x).fate session order (requests + 1) (reports + 1) (draws_from x),
      messages_few session left (order + 1) (draws_from x).state
          (requests + 1 + fate_requests (draws_from x).fate)
          (reports + 1 + fate_reports (draws_from x).fate),
    )

session_each : (number orders session : ℕ) → orders ≤ 10000 → session < 100
    → AllByRecursion IsMessage (session_messages number orders session)
session_each number orders session few low =
    messages_each session orders 0 (first_state number session) 0 0 low (omega (arith, few))
    (omega (arith, few)) (omega (arith, few))

pub session_splits : (number orders session : ℕ) → orders ≤ 10000 → session < 100
    → (frames : List FrameValue)
    × Splits (session_text number orders session) 0 frames found.End
session_splits number orders session few low =
    lines_split (session_messages number orders session) [] []
    (session_each number orders session few low) no_gap

pub session_size : (number orders session : ℕ) → orders ≤ 10000 → session < 100
    → length (session_text number orders session) ≤ 2000 * orders
session_size number orders session few low =
    omega (
      arith,
      lines_size (session_messages number orders session)
          (session_each number orders session few low),
      messages_few session orders 0 (first_state number session) 0 0,
    )
