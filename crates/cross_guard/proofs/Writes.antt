-- What stands in a list after a write.
use Rattle.std.proofs.Common.{◌≡◌, ℕ, ◌<◌, ◌≤◌, ◌==◌, List, length, refl, sym, ap, ◌∙◌, Bool, true, false, cond}
use Rattle.std.specs.Prelude.{slice_set}
use Rattle.std.specs.List.{slice_index_or}
use Rattle.std.proofs.lemmas.Bool.{eqb-true, eqb-false}
use Rattle.std.proofs.lemmas.List.{get_or-set_same, get_or-set_other}

pub cond_within : (b : Bool) (x y most : ℕ) → x ≤ most → y ≤ most → cond b x y ≤ most
cond_within true x y most one two = one
cond_within false x y most one two = two

pub set_at : (lasts : List ℕ) (tree place value : ℕ) → tree < length lasts
    → slice_index_or (slice_set lasts tree value) place 0
    ≡ cond (tree == place) value (slice_index_or lasts place 0)
set_at lasts tree place value below = by_test (tree == place) refl
  where
    by_test : (test : Bool) → (tree == place) ≡ test
        → slice_index_or (slice_set lasts tree value) place 0
        ≡ cond test value (slice_index_or lasts place 0)
    by_test true is =
        ap (λ t. slice_index_or (slice_set lasts tree value) t 0) (sym (eqb-true tree place is))
        ∙ get_or-set_same lasts tree value 0 below
    by_test false is =
        get_or-set_other lasts tree place value 0 (λ e. eqb-false tree place is (sym e))
