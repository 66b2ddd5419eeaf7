-- What a session has admitted, and what its orders are worth.
use Rattle.std.specs.Prelude.{◌≡◌}
use Rattle.risk_journal.specs.ActLists.{posts_in}
use Rattle.order_desk.specs.Backing.{Covers}
pub use Rattle.admit_core.specs.Admitted.{AdmitsOwn, StaysWithin}
use Rattle.limit_table.specs.Trees.{LimitsValue, halt_tree}
use Rattle.session_engine.specs.Session.{SessionValue}
use Rattle.session_engine.specs.Trips.{trips_by}

-- in each tree with a limit what a session has admitted is its last post, and the orders of its
-- book are worth no more there
abbrev pub CoversOrders : LimitsValue → SessionValue → Type 0
CoversOrders limits session = Covers limits session.acts session.book

-- the session has posted in the halt tree once where as many requests as the trip number were refused
-- as Firm, and never else
abbrev pub TripsOnce : LimitsValue → SessionValue → Type 0
TripsOnce limits session =
    posts_in (halt_tree limits) session.acts ≡ trips_by limits.trip session.firms
