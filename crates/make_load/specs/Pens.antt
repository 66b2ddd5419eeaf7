-- What a session's file has after some orders.
use Rattle.std.specs.Prelude.{◌≡◌, ℕ, ◌+◌, ◌*◌, ◌≤◌, List, ◌++◌}
use Rattle.std.specs.List.{flat_map}
use Rattle.fix_fields.specs.Fields.{FieldValue}
use Rattle.make_load.specs.declared.draws.Draws.{Draws}
use Rattle.make_load.specs.declared.orders.Numbers.{Numbers}
use Rattle.make_load.specs.Loads.{fate_requests, fate_reports, line_of}

-- these messages were added to the bytes, each on a line of its own
pub record AddsLines (before now : List ℕ) (messages : List (List FieldValue)) : Type 0 where
  pub added : now ≡ before ++ flat_map line_of messages

-- the messages of the client and the reports are counted behind an order's
pub record CountsOrder (before now : Numbers) (d : Draws) : Type 0 where
  pub requests : now.requests ≡ before.requests + 1 + fate_requests d.fate
  pub reports : now.reports ≡ before.reports + 1 + fate_reports d.fate

-- so many orders make at most twice as many messages of either sender
pub record IsFew (numbers : Numbers) (orders : ℕ) : Type 0 where
  pub least : orders ≤ numbers.requests
  pub requests : numbers.requests ≤ 2 * orders
  pub reports : numbers.reports ≤ 2 * orders
