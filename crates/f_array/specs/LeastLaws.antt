-- The laws of the least, a fold of the tests whose unit is the largest leaf value.
use Rattle.std.specs.Prelude.{◌≡◌, ℕ, ◌≤◌, true, min, nat_le}
use Rattle.std.proofs.Common.{arith}
use Rattle.std.proofs.lemmas.Bool.{leb-true, le-leb}
use Rattle.fold_law.specs.declared.limits.TheConstants.{LEAF}
use Rattle.fold_law.specs.Laws.{FoldLaws}
use Rattle.fold_law.specs.Max.{IsMaxOf}
use Rattle.fold_law.specs.SumLaws.{nat_le-through, nat_le-both}

min-rises : (a b c d : ℕ) → nat_le a b ≡ true → nat_le c d ≡ true
    → nat_le (min a c) (min b d) ≡ true
min-rises a b c d first second =
    let left : a ≤ b = leb-true a b first in let right : c ≤ d = leb-true c d second in
    le-leb _ _ (omega arith)

pub least_laws : FoldLaws LEAF LEAF min nat_le IsMaxOf
least_laws = record {
  unit_under = λ m. omega arith;
  leaf_under = λ x capped. capped;
  under_more = λ m n x more under. under;
  under_values = λ m x few under. omega arith;
  join_under = λ m n a b few left right. omega arith;
  unit_left = λ m a few under. omega arith;
  unit_right = λ m a few under. omega arith;
  regroups = λ m n o a b c few first second third. omega arith;
  le_itself = λ m a few under. le-leb a a (omega arith);
  le_through = λ m a b c few first second third. nat_le-through a b c;
  le_both = λ m a b few first second. nat_le-both a b;
  join_rises = λ m n a b c d few p q r s. min-rises a b c d;
}
