-- The laws of the largest.
use Rattle.std.specs.Prelude.{◌≡◌, ℕ, ◌≤◌, true, max, nat_le}
use Rattle.std.proofs.Common.{arith}
use Rattle.std.proofs.lemmas.Bool.{leb-true, le-leb}
use Rattle.fold_law.specs.declared.limits.TheConstants.{LEAF}
use Rattle.fold_law.specs.Laws.{FoldLaws}
use Rattle.fold_law.specs.Max.{IsMaxOf}
use Rattle.fold_law.specs.SumLaws.{nat_le-through, nat_le-both}

max-rises : (a b c d : ℕ) → nat_le a b ≡ true → nat_le c d ≡ true
    → nat_le (max a c) (max b d) ≡ true
max-rises a b c d first second =
    let left : a ≤ b = leb-true a b first in let right : c ≤ d = leb-true c d second in
    le-leb _ _ (omega arith)

pub max_laws : FoldLaws 0 LEAF max nat_le IsMaxOf
max_laws = record {
  unit_under = λ m. omega arith;
  leaf_under = λ x capped. capped;
  under_more = λ m n x more under. under;
  under_values = λ m x few under. omega arith;
  join_under = λ m n a b few left right. omega arith;
  unit_left = λ m a few under. omega arith;
  unit_right = λ m a few under. omega arith;
  regroups = λ m n o a b c few first second third. omega arith;
  le_itself = λ m a few under. le-leb a a (omega arith);
  le_through = λ m a b c few first second third. nat_le-through a b c;
  le_both = λ m a b few first second. nat_le-both a b;
  join_rises = λ m n a b c d few p q r s. max-rises a b c d;
}
