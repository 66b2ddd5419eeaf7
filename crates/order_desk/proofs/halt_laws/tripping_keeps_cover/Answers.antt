-- A post in the halt tree keeps a book's orders covered.
use Rattle.order_desk.proofs.Covers.{covers_tripped}
use Rattle.order_desk.proofs.halt_laws.tripping_keeps_cover.Goals as goal

pub returns : goal.returns
returns c = covers_tripped
