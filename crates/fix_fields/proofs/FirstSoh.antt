-- The first SOH of a text is found among its first 32 bytes.
use Rattle.std.proofs.Common.{◌≡◌, ℕ, ◌<◌, ◌≤◌, List, length, take, get_or, Bool, true, false, not}
use Rattle.std.proofs.Common.{ap, sym, ◌∙◌, arith, length-take, refl, ◌==◌}
use Rattle.std.proofs.lemmas.List.{get_or-take}
use Rattle.std.proofs.lemmas.List.Sums.{prefix_len_passes, prefix_len_stops}
use Rattle.std.specs.List.{prefix_len}
use Rattle.memchr.specs.Find.{NoneBefore, Passes, is_byte}
use Rattle.fix_fields.specs.Fields.{is_value_byte}

both_ways : (b : Bool) → not b ≡ true → b ≡ true → ⊥
both_ways true e f = cc
both_ways false e f = cc

turned : (b : Bool) → not b ≡ false → b ≡ true
turned true e = refl
turned false e = cc

module _ (text : List ℕ) (long : 32 ≤ length text) where
  abbrev count : ℕ
  count = prefix_len is_value_byte (take 32 text)

  front : (k : ℕ) → k < 32 → is_value_byte (get_or (take 32 text) k 0) ≡ is_value_byte (get_or text k 0)
  front k inside = ap is_value_byte (get_or-take 32 text k 0 inside)

  pub first_soh : (n : ℕ) → n ≡ count → n < 32
      → NoneBefore (Passes (is_byte 1) text) 0 (length text) n × Passes (is_byte 1) text n
  first_soh n is inside =
      let there : count < length (take 32 text) = omega (arith, length-take 32 text) in
      let stops : is_value_byte (get_or (take 32 text) n 0) ≡ false =
      rw is (prefix_len_stops is_value_byte (take 32 text) 0 there) in (
        record {
          low = omega arith;
          high = omega arith;
          before = λ k _ below. both_ways (get_or text k 0 == 1) (sym (front k (omega arith))
              ∙ prefix_len_passes is_value_byte (take 32 text) k 0 (omega (arith, is)));
        },
        turned (get_or text n 0 == 1) (sym (front n inside) ∙ stops),
      )
