-- The rule holds of a new table.
use Rattle.std.proofs.Common.{◌≡◌, ℕ, zero, suc, ◌*◌, ◌/◌, ◌%◌, ◌^◌, ◌<◌, Bool, List, [], ◌∷◌, length, replicate, refl, sym, ap, ◌∙◌, subst, arith}
use Rattle.fold_law.specs.declared.limits.TheConstants.{VALUES}
use mathlib.Core.Option.{some, some-injective, some-ne-none}
use lib.ListN.{get_elem?}
use Rattle.std.specs.Prelude.{slice_index}
use Rattle.stamp_word.specs.Word.{stamp_in, value_in}
use Rattle.stamp_word.specs.Places.{place_of, leaf_of}
use Rattle.fold_law.specs.Laws.{FoldLaws}
use Rattle.node_rule.specs.declared.view.View.{View}
use Rattle.node_rule.specs.declared.view.View.TheVariants.{Keeper}
use Rattle.node_rule.specs.declared.view.Plan.{Plan}
use Rattle.node_rule.specs.Fronts.{Board, board_of, word_at, leaf_value, value_at}
use Rattle.node_rule.specs.StampPart.{IsPlan, IsView, RefreshesAny, IsStamped}
use Rattle.node_rule.specs.ValuePart.{IsViewValued, IsKept}
use Rattle.node_rule.proofs.Places.{place-in}
use Rattle.node_rule.proofs.Tree.{deep-within}
use Rattle.node_rule.proofs.Values.{value_at_zero}

replicate_index : (n : ℕ) (x k : ℕ) → k < n → slice_index (replicate n x) k ≡ x
replicate_index zero x k h = absurd (omega arith)
replicate_index (suc n) x zero h = refl
replicate_index (suc n) x (suc k) h = replicate_index n x k (omega arith)

length-replicated : (n x : ℕ) → length (replicate n x) ≡ n
length-replicated zero x = refl
length-replicated (suc n) x = let more = length-replicated n x in omega arith

module _ (plan : Plan) (unit cap : ℕ) (join : ℕ → ℕ → ℕ) (le : ℕ → ℕ → Bool)
    (under : ℕ → ℕ → Type 0) (laws : FoldLaws unit cap join le under) (planned : IsPlan plan) where
  abbrev words : List ℕ
  words = replicate (plan.trees * (2 * 2 ^ plan.levels)) unit

  abbrev keeper : View
  keeper = Keeper plan.levels 0 []

  abbrev b : Board
  b = board_of plan.levels words (keeper ∷ [])

  small : unit < VALUES
  small = laws.under_values 0 unit (omega arith) (laws.unit_under 0)

  word-unit : (tree node : ℕ) → tree < plan.trees → node < 2 * 2 ^ plan.levels
      → word_at plan.levels words tree node ≡ unit
  word-unit tree node tree_in node_in = replicate_index (plan.trees * (2 * 2 ^ plan.levels)) unit
      (place_of plan.levels tree node) (place-in plan.levels plan.trees tree node tree_in node_in)

  stamp-zero : (tree node : ℕ) → tree < plan.trees → node < 2 * 2 ^ plan.levels
      → b.stamp tree node ≡ 0
  stamp-zero tree node tree_in node_in = ap stamp_in (word-unit tree node tree_in node_in)
      ∙ (let s = small in let none : unit / VALUES ≡ 0 = omega arith in none)

  only : (P : View → Type 0) → P keeper → (seat : ℕ) (v : View)
      → get_elem? (keeper ∷ []) seat ≡ some v → P v
  only P p zero v e = subst P (some-injective _ _ e) p
  only P p (suc seat) v e = absurd (some-ne-none v (sym e))

  opens_stamped : IsStamped plan words (keeper ∷ [])
  opens_stamped = record {
    planned = planned;
    width = length-replicated (plan.trees * (2 * 2 ^ plan.levels)) unit;
    grown = record {
      leaves = λ tree session tree_in session_in. stamp-zero tree
          (leaf_of plan.levels session) tree_in (omega arith);
      once = λ tree node stamp tree_in low high from_one reached. let z =
          stamp-zero tree node tree_in (omega arith) in absurd (omega arith);
      none_else = λ tree node stamp tree_in low high above. refl;
      none_at_zero = λ tree node tree_in low high. refl;
      counted = λ tree node tree_in low high. stamp-zero tree node tree_in (omega arith);
      rises = λ tree child early late tree_in low high order reached. omega arith;
      below = λ tree child stamp tree_in low high reached. omega arith;
    };
    each = only (IsView plan b) (refl, tt);
    pairs = λ seat other v w e d. only (λ u. RefreshesAny u w) tt seat v e;
    numbers = record {
      one_keeper = refl;
      given = omega arith;
      tracks = refl;
      once = λ number less. absurd (omega arith);
      no_other = λ number more. refl;
    };
  }

  pub opens : IsKept plan unit cap join words (keeper ∷ [])
  opens = record {
    stamps = opens_stamped;
    values = record {
      nodes = λ tree depth height node tree_in e deep.
          let inside = deep-within depth plan.levels node (omega arith) deep in
          let is_unit = word-unit tree node tree_in inside.high in
          let s = small in
          let zero_stamp = stamp-zero tree node tree_in inside.high in
          let value : value_in unit ≡ unit = (let same : unit % VALUES ≡ unit = omega arith in
          same) in
          let at_zero = value_at_zero unit cap join le under laws
          (leaf_value plan.levels unit (keeper ∷ []) tree) (λ child stamp. 0) (λ n. refl)
          (λ c. refl) height node in
          ap value_in is_unit
          ∙ (value ∙ (sym at_zero
          ∙ ap (λ (n : ℕ). value_at plan.levels unit join (keeper ∷ []) tree height node n)
          (sym zero_stamp)));
      each = only (IsViewValued plan cap (value_at plan.levels unit join (keeper ∷ [])))
          (record { loaded = tt; calls = tt });
    };
  }
