-- A board before any call is sound.
use Rattle.std.proofs.Common.{◌≡◌, ℕ, ◌<◌, ◌≤◌, List, [], ◌∷◌, length, map, refl, ap, sym, ◌∙◌}
use Rattle.std.proofs.Common.{arith, zero, suc}
use Rattle.std.specs.Prelude.{replicate}
use Rattle.std.proofs.lemmas.List.{length-replicate, get_or-replicate, length-map}
use Rattle.std.proofs.lemmas.Simd.{map-map}
use Rattle.std.proofs.lemmas.List.Elements.{All-replicate}
use Rattle.std.proofs.lemmas.List.Folds.{sum_by-replicate}
use Rattle.fold_law.specs.declared.limits.TheConstants.{SESSIONS, QUOTA}
use Rattle.risk_board.specs.declared.hand.Call.{Call}
use Rattle.risk_board.specs.declared.tree.PlainTree.{PlainTree}
use Rattle.risk_board.specs.Calls.{post_count}
use Rattle.risk_board.specs.History.{components_of}
use Rattle.risk_board.specs.Tree.{TreeValue, contents, empty_tree}
use Rattle.risk_board.specs.Kept.{IsSound, TellsCalls}
use Rattle.risk_board.proofs.Doublings.{sessions_have_components}
use Rattle.risk_board.proofs.Events.{events}
use Rattle.risk_board.proofs.PlainSteps.{plain_of_none}

map-replicate : {X Y : Type 0} (f : X → Y) (n : ℕ) (x : X)
    → map f (replicate n x) ≡ replicate n (f x)
map-replicate f zero x = refl
map-replicate f (suc n) x = ap (λ s. f x ∷ s) (map-replicate f n x)

-- no calls of so many sessions
abbrev no_calls : ℕ → List (List Call)
no_calls sessions = replicate sessions []

-- the trees of an empty board have no lines
pub lines_of_none : (trees : List PlainTree) (count unit components sessions : ℕ)
    → map contents trees ≡ replicate count (empty_tree unit components sessions)
    → map (λ tree. tree.lines.items) trees ≡ replicate count []
lines_of_none trees count unit components sessions none =
    sym (map-map (λ (tree : TreeValue). tree.lines) contents trees)
    ∙ ap (map (λ (tree : TreeValue). tree.lines)) none
    ∙ map-replicate (λ (tree : TreeValue). tree.lines) count
    (empty_tree unit components sessions)

module _ (whole : List ℕ → ℕ) (unit : ℕ) (IsLeaf : ℕ → Type 0) (quota sessions : ℕ)
    (leaf : IsLeaf unit) where
  tells_of_none : (index : ℕ)
      → TellsCalls whole unit IsLeaf quota (no_calls sessions) index
      (empty_tree unit (components_of sessions) sessions)
  tells_of_none index =
      let all : length (no_calls sessions) ≡ sessions = length-replicate {A = List Call} sessions [] in
      let none = map-replicate (events index) sessions [] in
      record {
        plain = rw all (plain_of_none whole unit (components_of sessions) sessions _ none
            (omega (
              arith,
              length-map (no_calls sessions) (events index),
              all,
              sessions_have_components sessions,
            )));
        array = rw all refl;
        leaves = All-replicate IsLeaf (components_of sessions) unit leaf;
        counts = sym (map-replicate (post_count index) sessions []);
        total = omega (arith, sum_by-replicate (λ n. n) sessions 0);
        within = All-replicate (λ count. count ≤ quota) sessions 0 (omega arith);
      }

  -- so it is sound
  pub sound_of_none : (count : ℕ) → sessions ≤ SESSIONS → quota ≤ QUOTA
      → IsSound whole unit IsLeaf quota
      (replicate count (empty_tree unit (components_of sessions) sessions))
      (replicate sessions [])
  sound_of_none count few small =
      let tree : TreeValue = empty_tree unit (components_of sessions) sessions in
      record {
        sessions = rw (length-replicate {A = List Call} sessions []) few;
        few = small;
        each = λ index d below.
            let inside : index < count = omega (arith, length-replicate count tree) in
            rw (get_or-replicate count index tree d inside) (tells_of_none index);
      }
