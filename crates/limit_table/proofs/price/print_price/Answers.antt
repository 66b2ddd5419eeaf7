use Rattle.std.proofs.Common.{◌≡◌, ℕ, ◌+◌, ◌-◌, List, [], ◌++◌, length, take, drop, ap, ◌∙◌, arith}
use Rattle.std.proofs.Common.{rules, decimal, ◌/◌, length-take, length-append, take_all}
use Rattle.std.proofs.lemmas.List.{drop_at, drop_all, append-nil, length-drop}
use Rattle.std.proofs.lemmas.Fmt.{length-decimal-le}
use borrow.Rule.Slice.PartMut.{put_mid, mid_of}
use Rattle.limit_table.proofs.price.print_price.Goals as goal

-- what stands behind the whole part
behind_point : (old five : List ℕ) → length old ≡ 25 → drop 20 (put_mid 20 5 old five) ≡ five
behind_point old five size =
    let none : drop 5 (drop 20 old) ≡ [] =
    drop_all 5 (drop 20 old) (omega (arith, length-drop 20 old)) in
    drop_at (take 20 old) (five ++ drop 5 (drop 20 old)) 20 (omega (arith, length-take 20 old))
    ∙ ap (λ (s : List ℕ). five ++ s) none ∙ append-nil five

-- the whole part and the rest fill the room from the start of the whole part
price_end : (start : ℕ) (whole now old five : List ℕ) → start + length whole ≡ 20
    → drop start now ≡ whole ++ drop 20 (put_mid 20 5 old five) → length old ≡ 25
    → length five ≡ 5 → mid_of start (25 - start) now ≡ whole ++ five
price_end start whole now old five before written size few =
    ap (take (25 - start)) (written
    ∙ ap (λ (s : List ℕ). whole ++ s) (behind_point old five size))
    ∙ take_all (25 - start) (whole ++ five) (omega (arith, length-append whole five))

pub write_digits-start-requires : goal.write_digits-start-requires
write_digits-start-requires c = search (rules, length-decimal-le 20)

pub returns : goal.returns
returns c =
    let digits = c.write_digits-start in
    let five = c.copy_from_slice.ensures.after ∙ c.decimals.ensures in
    price_end digits.result (decimal (c.args.price / 10000)) digits.new.buf c.args.into.now
    c.copy_from_slice.new.self digits.ensures.start digits.ensures.written (omega arith)
    (ap length five) ∙ ap (λ (s : List ℕ). decimal (c.args.price / 10000) ++ s) five
