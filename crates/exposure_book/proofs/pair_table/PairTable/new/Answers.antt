use Rattle.std.proofs.Common.{◌≡◌, ◌*◌, ℕ, length, ap, ◌∙◌, arith}
use Rattle.std.specs.Prelude.{replicate}
use Rattle.exposure_book.specs.Pairs.{no_sums}
use Rattle.exposure_book.proofs.TableKept.{new_totals}
use Rattle.exposure_book.proofs.pair_table.PairTable.new.Goals as goal

pub invariant_of-result : goal.invariant_of-result
invariant_of-result c =
    let ok = c.args.nets.ok in
    let many : c.len.result ≡ length c.args.nets.items = omega (arith, c.len.ensures) in
    let again : c.len-2.result ≡ length c.args.nets.items = omega (arith, c.len-2.ensures) in
    let pairs = c.in_ok-pairs.ensures
    ∙ ap (λ n. replicate (n * c.args.symbols) no_sums) many in
    let accounts = c.in_ok-accounts.ensures ∙ ap (λ n. replicate {A = ℕ} n 0) again in
    new_totals c.args.nets.items c.args.symbols c.in_ok-pairs.pairs.items
    c.in_ok-accounts.accounts.items c.in_ok-symbols.symbols.items pairs accounts
    c.in_ok-symbols.ensures
