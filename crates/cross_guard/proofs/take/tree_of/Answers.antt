-- The place is the one that the limits say, and one of their rows.
use Rattle.std.proofs.Common.{◌<◌, length}
use Rattle.cross_guard.specs.Session.{symbol_place}
use Rattle.cross_guard.proofs.SymbolPlaces.{symbol_is, symbol_within}
use Rattle.cross_guard.proofs.Taken.{if_place}
use Rattle.cross_guard.proofs.take.tree_of.Goals as goal

pub returns-clause-place : goal.returns-clause-place
returns-clause-place c =
    symbol_is c.args.limits.now c.args.symbol.now c.symbol.result c.stand_in_a_file.ensures
    c.symbol.ensures

pub returns-clause-tree : goal.returns-clause-tree
returns-clause-tree c =
    if_place c.symbol.result (symbol_place c.args.symbol.now c.args.limits.now)
    (λ tree. tree < length c.args.limits.now.symbols) (returns-clause-place c)
    (λ own is. symbol_within c.args.limits.now c.args.symbol.now own is)
