use Rattle.std.proofs.Common.{◌≡◌, ◌≤◌, ◌+◌, ◌*◌, length, subst, sym}
use Rattle.exposure_book.specs.PairTables.{TableValue, IsPair, sums_at, with_pair, in_firm}
use Rattle.exposure_book.specs.PairTables.{most_exposure}
use Rattle.exposure_book.proofs.TableKept.{totals_put}
use Rattle.exposure_book.proofs.pair_table.PairTable.put.Goals as goal

pub invariant_of-self : goal.invariant_of-self
invariant_of-self c =
    let t : TableValue = record {
      nets = c.self.inside.nets.items;
      symbols = length c.self.inside.symbols.items;
      pairs = c.self.inside.pairs.items;
    } in
    let own = subst (λ (x : TableValue). IsPair x c.args.account c.args.symbol) (sym c.self.view_is)
    c.requires.pair in
    let sums : c.sums_with-sums.result
    ≡ sums_at (with_pair c.args.account c.args.symbol c.args.next.now t) c.args.account c.args.symbol =
    subst (λ (x : TableValue). c.sums_with-sums.result
    ≡ sums_at (with_pair c.args.account c.args.symbol c.args.next.now x) c.args.account c.args.symbol)
    (sym c.self.view_is) c.sums_with-sums.ensures.value in
    let place : c.place-place.result ≡ c.args.account * t.symbols + c.args.symbol =
    subst (λ (x : TableValue).
    c.place-place.result ≡ c.args.account * x.symbols + c.args.symbol) (sym c.self.view_is)
    c.place-place.ensures.value in
    let capped = subst (λ (x : TableValue).
    in_firm (with_pair c.args.account c.args.symbol c.args.next.now x) ≤ most_exposure)
    (sym c.self.view_is) c.requires.capped in
    totals_put t _ _ _ c.self.invariant c.args.account c.args.symbol own c.args.next.now
    c.sums_with-sums.result c.place-place.result sums place c.requires.fits capped
