-- How the running values of a session stand for its value.
use Rattle.std.specs.Prelude.{◌≡◌, length, List}
use Rattle.exposure_book.specs.Books.{BookValue}
use Rattle.risk_journal.specs.declared.acts.Act.{Act}
use Rattle.session_engine.specs.declared.counts.Counts.{Counts}
use Rattle.session_engine.specs.Session.{SessionValue}

-- The acts, the book and the counts are those of the session's value.
pub record StandsFor (acts : List Act) (book : BookValue) (counts : Counts)
    (session : SessionValue) : Type 0 where
  pub acts_are : session.acts ≡ acts
  pub book_is : session.book ≡ book
  pub frames : counts.frames ≡ session.frames
  pub orders : counts.orders ≡ session.orders
  pub venue : counts.venue ≡ length session.venue
  pub client : counts.client ≡ length session.client
  pub firms : counts.firms ≡ session.firms
