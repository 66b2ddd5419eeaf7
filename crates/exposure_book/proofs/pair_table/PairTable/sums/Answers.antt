use Rattle.std.proofs.Common.{length, subst, sym}
use Rattle.exposure_book.specs.PairTables.{TableValue, IsPair, most_exposure}
use Rattle.exposure_book.proofs.TableKept.{read_le, account-le, symbol-le, in_accounts, in_symbols}
use Rattle.exposure_book.proofs.pair_table.PairTable.sums.Goals as goal

pub returns-clause-account : goal.returns-clause-account
returns-clause-account c =
    let t : TableValue = record {
      nets = c.self.inside.nets.items;
      symbols = length c.self.inside.symbols.items;
      pairs = c.self.inside.pairs.items;
    } in
    let own = subst (λ (x : TableValue). IsPair x c.args.account c.args.symbol) (sym c.self.view_is)
    c.requires in
    read_le c.self.inside.accounts.items c.args.account c.index.result.now most_exposure
    (in_accounts t _ _ _ c.self.invariant c.args.account c.args.symbol own) c.index.ensures
    (account-le t _ _ _ c.self.invariant c.args.account own.in_accounts)

pub returns-clause-symbol : goal.returns-clause-symbol
returns-clause-symbol c =
    let t : TableValue = record {
      nets = c.self.inside.nets.items;
      symbols = length c.self.inside.symbols.items;
      pairs = c.self.inside.pairs.items;
    } in
    let own = subst (λ (x : TableValue). IsPair x c.args.account c.args.symbol) (sym c.self.view_is)
    c.requires in
    read_le c.self.inside.symbols.items c.args.symbol c.index-2.result.now most_exposure
    (in_symbols t _ _ _ c.self.invariant c.args.account c.args.symbol own) c.index-2.ensures
    (symbol-le t _ _ _ c.self.invariant c.args.symbol own.in_symbols)
