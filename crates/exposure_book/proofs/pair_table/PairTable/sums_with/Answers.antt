use Rattle.std.proofs.Common.{◌≡◌, length, subst, sym}
use Rattle.exposure_book.specs.Pairs.{all_of}
use Rattle.exposure_book.specs.PairTables.{TableValue, IsPair, pair_at, sums_at, with_pair}
use Rattle.exposure_book.proofs.TableKept.{firm_read, account_read, symbol_read, sums_moved}
use Rattle.exposure_book.proofs.TableKept.{moved_fits, tree_sums}
use Rattle.exposure_book.proofs.pair_table.PairTable.sums_with.Goals as goal

pub moved-requires-clause-part : goal.moved-requires-clause-part
moved-requires-clause-part c =
    let t : TableValue = record {
      nets = c.self.inside.nets.items;
      symbols = length c.self.inside.symbols.items;
      pairs = c.self.inside.pairs.items;
    } in
    let own = subst (λ (x : TableValue). IsPair x c.args.account c.args.symbol) (sym c.self.view_is)
    c.requires.pair in
    let read : c.pair-was.result ≡ pair_at t c.args.account c.args.symbol =
    subst (λ (x : TableValue). c.pair-was.result ≡ pair_at x c.args.account c.args.symbol)
    (sym c.self.view_is) c.pair-was.ensures.value in
    firm_read t _ _ _ c.self.invariant c.args.account c.args.symbol own c.index-net.result.now
    c.pair-was.result c.exposure-old.result c.index-net.ensures read c.exposure-old.ensures.value

pub moved-requires-2-clause-part : goal.moved-requires-2-clause-part
moved-requires-2-clause-part c =
    let t : TableValue = record {
      nets = c.self.inside.nets.items;
      symbols = length c.self.inside.symbols.items;
      pairs = c.self.inside.pairs.items;
    } in
    let own = subst (λ (x : TableValue). IsPair x c.args.account c.args.symbol) (sym c.self.view_is)
    c.requires.pair in
    let read : c.pair-was.result ≡ pair_at t c.args.account c.args.symbol =
    subst (λ (x : TableValue). c.pair-was.result ≡ pair_at x c.args.account c.args.symbol)
    (sym c.self.view_is) c.pair-was.ensures.value in
    account_read t _ _ _ c.self.invariant c.args.account c.args.symbol own c.index-net.result.now
    c.pair-was.result c.exposure-old.result c.index-net.ensures read c.exposure-old.ensures.value
    c.index.result.now c.index.ensures

pub moved-requires-3-clause-part : goal.moved-requires-3-clause-part
moved-requires-3-clause-part c =
    let t : TableValue = record {
      nets = c.self.inside.nets.items;
      symbols = length c.self.inside.symbols.items;
      pairs = c.self.inside.pairs.items;
    } in
    let own = subst (λ (x : TableValue). IsPair x c.args.account c.args.symbol) (sym c.self.view_is)
    c.requires.pair in
    let read : c.pair-was.result ≡ pair_at t c.args.account c.args.symbol =
    subst (λ (x : TableValue). c.pair-was.result ≡ pair_at x c.args.account c.args.symbol)
    (sym c.self.view_is) c.pair-was.ensures.value in
    symbol_read t _ _ _ c.self.invariant c.args.account c.args.symbol own c.index-net.result.now
    c.pair-was.result c.exposure-old.result c.index-net.ensures read c.exposure-old.ensures.value
    c.index-2.result.now c.index-2.ensures

pub returns-clause-value : goal.returns-clause-value
returns-clause-value c =
    let t : TableValue = record {
      nets = c.self.inside.nets.items;
      symbols = length c.self.inside.symbols.items;
      pairs = c.self.inside.pairs.items;
    } in
    let own = subst (λ (x : TableValue). IsPair x c.args.account c.args.symbol) (sym c.self.view_is)
    c.requires.pair in
    let read : c.pair-was.result ≡ pair_at t c.args.account c.args.symbol =
    subst (λ (x : TableValue). c.pair-was.result ≡ pair_at x c.args.account c.args.symbol)
    (sym c.self.view_is) c.pair-was.ensures.value in
    subst (λ (x : TableValue).
    tree_sums c.moved.result c.moved-2.result c.moved-3.result
    ≡ sums_at (with_pair c.args.account c.args.symbol c.args.next.now x) c.args.account c.args.symbol)
    c.self.view_is
    (sums_moved t _ _ _ c.self.invariant c.args.account c.args.symbol own c.args.next.now
    c.index-net.result.now c.pair-was.result c.exposure-old.result c.exposure-new.result
    c.index.result.now c.index-2.result.now c.index-net.ensures read c.exposure-old.ensures.value
    c.exposure-new.ensures.value c.index.ensures c.index-2.ensures c.moved.result c.moved-2.result
    c.moved-3.result c.moved.ensures.value c.moved-2.ensures.value c.moved-3.ensures.value)

pub returns-clause-firm : goal.returns-clause-firm
returns-clause-firm c =
    let t : TableValue = record {
      nets = c.self.inside.nets.items;
      symbols = length c.self.inside.symbols.items;
      pairs = c.self.inside.pairs.items;
    } in
    let own = subst (λ (x : TableValue). IsPair x c.args.account c.args.symbol) (sym c.self.view_is)
    c.requires.pair in
    let read : c.pair-was.result ≡ pair_at t c.args.account c.args.symbol =
    subst (λ (x : TableValue). c.pair-was.result ≡ pair_at x c.args.account c.args.symbol)
    (sym c.self.view_is) c.pair-was.ensures.value in
    moved_fits c.self.inside.firm c.exposure-old.result c.exposure-new.result c.moved.result
    (all_of c.args.next.now) c.moved.ensures.value
    (firm_read t _ _ _ c.self.invariant c.args.account c.args.symbol own c.index-net.result.now
    c.pair-was.result c.exposure-old.result c.index-net.ensures read c.exposure-old.ensures.value)
    c.exposure-new.ensures.within c.requires.fits

pub returns-clause-account : goal.returns-clause-account
returns-clause-account c =
    let t : TableValue = record {
      nets = c.self.inside.nets.items;
      symbols = length c.self.inside.symbols.items;
      pairs = c.self.inside.pairs.items;
    } in
    let own = subst (λ (x : TableValue). IsPair x c.args.account c.args.symbol) (sym c.self.view_is)
    c.requires.pair in
    let read : c.pair-was.result ≡ pair_at t c.args.account c.args.symbol =
    subst (λ (x : TableValue). c.pair-was.result ≡ pair_at x c.args.account c.args.symbol)
    (sym c.self.view_is) c.pair-was.ensures.value in
    moved_fits c.index.result.now c.exposure-old.result c.exposure-new.result c.moved-2.result
    (all_of c.args.next.now) c.moved-2.ensures.value
    (account_read t _ _ _ c.self.invariant c.args.account c.args.symbol own c.index-net.result.now
    c.pair-was.result c.exposure-old.result c.index-net.ensures read c.exposure-old.ensures.value
    c.index.result.now c.index.ensures)
    c.exposure-new.ensures.within c.requires.fits

pub returns-clause-symbol : goal.returns-clause-symbol
returns-clause-symbol c =
    let t : TableValue = record {
      nets = c.self.inside.nets.items;
      symbols = length c.self.inside.symbols.items;
      pairs = c.self.inside.pairs.items;
    } in
    let own = subst (λ (x : TableValue). IsPair x c.args.account c.args.symbol) (sym c.self.view_is)
    c.requires.pair in
    let read : c.pair-was.result ≡ pair_at t c.args.account c.args.symbol =
    subst (λ (x : TableValue). c.pair-was.result ≡ pair_at x c.args.account c.args.symbol)
    (sym c.self.view_is) c.pair-was.ensures.value in
    moved_fits c.index-2.result.now c.exposure-old.result c.exposure-new.result c.moved-3.result
    (all_of c.args.next.now) c.moved-3.ensures.value
    (symbol_read t _ _ _ c.self.invariant c.args.account c.args.symbol own c.index-net.result.now
    c.pair-was.result c.exposure-old.result c.index-net.ensures read c.exposure-old.ensures.value
    c.index-2.result.now c.index-2.ensures)
    c.exposure-new.ensures.within c.requires.fits
