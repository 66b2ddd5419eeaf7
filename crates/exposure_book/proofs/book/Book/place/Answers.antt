use Rattle.std.proofs.Common.{◌≡◌, length, rules}
use Rattle.exposure_book.specs.Pendings.{is_same_id}
use Rattle.exposure_book.specs.Books.{place_of}
use Rattle.exposure_book.proofs.Kept.{lookup_within}
use Rattle.exposure_book.proofs.book.Book.place.Goals as goal

pub returns-clause-within : goal.returns-clause-within
returns-clause-within c =
    let found : c.copied.result ≡ place_of c.args.id.now c.self.inside.ids.entries = search rules in
    rw (found, ← c.self.view_is)
    (lookup_within (is_same_id c.args.id.now) (length c.self.inside.orders.items)
    c.self.inside.ids.entries c.self.invariant.named)
