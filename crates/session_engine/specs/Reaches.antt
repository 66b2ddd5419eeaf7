-- How a session's value goes on with a step.
use Rattle.std.specs.Prelude.{◌≡◌, List, ◌++◌}
use Rattle.risk_journal.specs.ActLists.{SeenAt, reads_of}
use Rattle.session_engine.specs.Session.{SessionValue}

-- the session with these reads to come
abbrev pub with_reads : List SeenAt → SessionValue → SessionValue
with_reads reads session = record session { reads = reads }

-- A step leads from a session to the next, by the reads that its acts have, whatever further reads
-- are to come.
pub record Steps (step : SessionValue → SessionValue) (session next : SessionValue) : Type 0 where
  pub seen : List SeenAt
  pub reads_are : reads_of next.acts ≡ reads_of session.acts ++ seen
  pub stepped : (more : List SeenAt)
      → step (with_reads (seen ++ more) session) ≡ with_reads more next
