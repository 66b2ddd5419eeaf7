-- Three lists of acts of which the first differs first somewhere from the third, and the second goes
-- with the first up to a read at most: so the second differs first there too.
use Rattle.std.proofs.Common.{◌≡◌, ◌≢◌, ◌⊎◌, inl, inr, ⊎_elim, ℕ, zero, suc, ◌+◌, ◌≤◌, ◌<◌}
use Rattle.std.proofs.Common.{List, [], ◌∷◌, ◌++◌, length, take, drop, get_or}
use Rattle.std.proofs.Common.{sym, ap, ◌∙◌, arith}
use Rattle.std.proofs.lemmas.Bool.{cases_order}
use Rattle.std.proofs.lemmas.List.{take-append-le}
use Rattle.risk_journal.specs.ActLists.{SeenAt}
use Rattle.risk_journal.specs.declared.acts.Act.{Act}
use Rattle.admit_core.specs.Tapes.{read_act}
use Rattle.session_engine.specs.Parting.{PartAtRead}

-- where the acts are the same up to a read of one tree in both, both saw the same
abbrev pub SeeAlike : List Act → List Act → Type 0
SeeAlike one other =
    (front rest rest_other : List Act) (tree : ℕ) (seen seen_other : SeenAt)
    → one ≡ front ++ read_act tree seen ∷ rest
    → other ≡ front ++ read_act tree seen_other ∷ rest_other → seen ≡ seen_other

-- a list that is the same up to behind an item has it too
pub also_there : {X : Type 0} (front : List X) (x : X) (rest others : List X) (count : ℕ)
    → length front < count → take count (front ++ x ∷ rest) ≡ take count others
    → (more : List X) × (others ≡ front ++ x ∷ more)
also_there front x rest others zero less same = absurd (omega (arith, less))
also_there [] x rest [] (suc count) less same = absurd (omega (arith, ap length same))
also_there [] x rest (y ∷ others) (suc count) less same =
    (others, ap (λ z. z ∷ others) (sym (ap (λ list. get_or list 0 x) same)))
also_there (z ∷ front) x rest [] (suc count) less same = absurd (omega (arith, ap length same))
also_there (z ∷ front) x rest (y ∷ others) (suc count) less same =
    let head : z ≡ y = ap (λ list. get_or list 0 z) same in
    let later = also_there front x rest others count (omega (arith, less)) (ap (drop 1) same) in
    (later.0, ap (λ w. w ∷ others) (sym head) ∙ ap (λ list. z ∷ list) later.1)

-- the second list differs first at this index from the third
pub record DiffersToo (right told : List Act) (index : ℕ) : Type 0 where
  pub before : take index right ≡ take index told
  pub apart : take (index + 1) right ≢ take (index + 1) told

-- lists with a common front are the same within it
same_within : {X : Type 0} (front rest rest_other one other : List X) (count : ℕ)
    → one ≡ front ++ rest → other ≡ front ++ rest_other → count ≤ length front
    → take count other ≡ take count one
same_within front rest rest_other one other count is also few =
    ap (take count) also ∙ take-append-le count front rest_other few
    ∙ sym (ap (take count) is ∙ take-append-le count front rest few)

pub apart_too : (run right told : List Act) (index : ℕ)
    → (right ≡ run) ⊎ PartAtRead run right → SeeAlike run told → SeeAlike right told
    → take index run ≡ take index told → take (index + 1) run ≢ take (index + 1) told
    → DiffersToo right told index
apart_too run right told index (inl same) answered ordered before apart = record {
  before = ap (take index) same ∙ before;
  apart = λ also. apart (ap (take (index + 1)) (sym same) ∙ also);
}
apart_too run right told index (inr parts) answered ordered before apart =
    ⊎_elim at (λ either. ⊎_elim within behind either) (cases_order index (length parts.front))
  where
    one_act : Act
    one_act = read_act parts.tree parts.seen

    other_act : Act
    other_act = read_act parts.tree parts.seen_other

    until : index ≤ length parts.front → take index right ≡ take index told
    until few =
        same_within parts.front (one_act ∷ parts.rest) (other_act ∷ parts.rest_other) run right index
        parts.one_is parts.other_is few
        ∙ before

    -- they part in the act that differs
    at : index ≡ length parts.front → DiffersToo right told index
    at here = record {
      before = until (omega (arith, here));
      apart = λ also.
          let told_is = also_there parts.front other_act parts.rest_other told (index + 1)
          (omega (arith, here)) (ap (take (index + 1)) (sym parts.other_is) ∙ also) in
          parts.differ (answered parts.front parts.rest told_is.0 parts.tree parts.seen
          parts.seen_other parts.one_is told_is.1);
    }

    -- they part later
    within : index < length parts.front → DiffersToo right told index
    within less = record {
      before = until (omega (arith, less));
      apart = λ also. apart
          (sym (same_within parts.front (one_act ∷ parts.rest) (other_act ∷ parts.rest_other) run
          right (index + 1) parts.one_is parts.other_is (omega (arith, less)))
          ∙ also);
    }

    -- they can't part before: the second saw there what the third has
    behind : length parts.front < index → DiffersToo right told index
    behind less =
        let told_is = also_there parts.front one_act parts.rest told index less
        (ap (take index) (sym parts.one_is) ∙ before) in
        absurd (parts.differ (sym (ordered parts.front parts.rest_other told_is.0 parts.tree
        parts.seen_other parts.seen parts.other_is told_is.1)))
