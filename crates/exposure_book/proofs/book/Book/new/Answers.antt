use Rattle.std.proofs.Common.{◌≡◌, ◌≤◌, ◌<◌, ◌*◌, ◌^◌, ℕ, length, ap, ◌∙◌, arith}
use Rattle.std.proofs.lemmas.List.{length-map}
use Rattle.std.proofs.Math.Nat.{mul-le-mul}
use Rattle.limit_table.specs.declared.kind.AccountRow.{AccountRow}
use Rattle.limit_table.proofs.FileLimits.{held_is_file_limits}
use Rattle.exposure_book.proofs.book.Book.new.Goals as goal

few_pairs : (accounts symbols : ℕ) → accounts ≤ 100 → symbols ≤ 400 → accounts * symbols < 2 ^ 63
few_pairs accounts symbols few fewer =
    let product : accounts * symbols ≤ 100 * 400 = mul-le-mul few fewer in omega (arith, product)

pub new-requires : goal.new-requires
new-requires c =
    let file = held_is_file_limits c.args.limits.now c.stand_in_a_file.ensures in
    let nets = ap length c.in_ok-nets.ensures
    ∙ length-map c.args.limits.now.accounts (λ (row : AccountRow). row.net) in
    let names = length-map c.args.limits.now.accounts (λ (row : AccountRow). row.name) in
    let symbols = ap length c.symbols.ensures in
    let symbol_names = length-map c.args.limits.now.symbols (λ row. row.name) in
    few_pairs (length c.in_ok-nets.nets.items) (length c.symbols.result.now)
    (omega (arith, nets, names, file.accounts.few))
    (omega (arith, symbols, symbol_names, file.symbols.few))
