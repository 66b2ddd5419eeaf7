use Rattle.std.proofs.Common.{◌≡◌, ◌-◌, arith, refl, ap, ◌∙◌, subst, List, length}
use Rattle.limit_table.specs.declared.kind.AccountRow.{AccountRow}
use Rattle.limit_table.specs.declared.kind.SymbolRow.{SymbolRow}
use Rattle.std.specs.Prelude.{slice_get, Some}
use Rattle.std.proofs.lemmas.Option.{slice_get_read}
use Rattle.gate_program.proofs.TotalLists.{account_limit, symbol_limit, symbol_name, halt_limit}
use Rattle.gate_program.proofs.totals.row_of.Goals as goal

pub returns-then-tree-accounts-clause-limit : goal.returns-then-tree-accounts-clause-limit
returns-then-tree-accounts-clause-limit c =
    account_limit c.args.limits.now c.args.tree (c.args.tree - 1) c.index-accounts-tree.result
    (omega arith)
    (subst (λ (rows : List AccountRow). slice_get rows (c.args.tree - 1) ≡ Some
    c.index-accounts-tree.result)
    c.accounts-accounts.ensures
    (slice_get_read c.accounts-accounts.result.now _ (c.args.tree - 1) _ refl (omega arith)
    c.index-accounts-tree.is))

pub returns-then-tree-accounts-2-clause-name : goal.returns-then-tree-accounts-2-clause-name
returns-then-tree-accounts-2-clause-name c =
    let place = c.args.tree - 1 - length c.accounts-accounts.result.now in
    c.of-then-tree-accounts-2.ensures ∙ c.bytes-then-tree-accounts-2.ensures.same
    ∙ symbol_name c.args.limits.now c.args.tree place c.index-symbols-tree.result
    (omega (arith, ap length c.accounts-accounts.ensures))
    (subst (λ (rows : List SymbolRow). slice_get rows place ≡ Some c.index-symbols-tree.result)
    c.symbols-symbols.ensures
    (slice_get_read c.symbols-symbols.result.now _ place _ refl (omega arith) c.index-symbols-tree.is))

pub returns-then-tree-accounts-2-clause-limit : goal.returns-then-tree-accounts-2-clause-limit
returns-then-tree-accounts-2-clause-limit c =
    let place = c.args.tree - 1 - length c.accounts-accounts.result.now in
    symbol_limit c.args.limits.now c.args.tree place c.index-symbols-tree.result
    (omega (arith, ap length c.accounts-accounts.ensures))
    (subst (λ (rows : List SymbolRow). slice_get rows place ≡ Some c.index-symbols-tree.result)
    c.symbols-symbols.ensures
    (slice_get_read c.symbols-symbols.result.now _ place _ refl (omega arith) c.index-symbols-tree.is))

pub returns-else-tree-accounts-2-clause-limit : goal.returns-else-tree-accounts-2-clause-limit
returns-else-tree-accounts-2-clause-limit c = halt_limit c.args.limits.now c.args.tree
    (omega (arith, ap length c.accounts-accounts.ensures, ap length c.symbols-symbols.ensures))
