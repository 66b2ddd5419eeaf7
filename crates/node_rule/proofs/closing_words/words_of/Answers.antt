use Rattle.std.proofs.Common.{◌≡◌, ℕ, zero, suc, ◌+◌, List, [], ◌∷◌, ◌++◌, take, sym, ap, ◌∙◌, refl, arith}
use mathlib.Core.Option.{some, some-injective, some-ne-none}
use lib.ListN.{get_elem?}
use Rattle.std.specs.Slots.{slots_items}
use Rattle.node_rule.proofs.closing_words.words_of.Goals as goal

take_more : (xs : List ℕ) (i j x : ℕ) → j ≡ suc i → get_elem? xs i ≡ some x
    → take j xs ≡ take i xs ++ x ∷ []
take_more [] i j x e h = absurd (some-ne-none x (sym h))
take_more (y ∷ ys) zero j x e h = ap (λ (n : ℕ). take n (y ∷ ys)) e
    ∙ (λ k. some-injective y x h k ∷ [])
take_more (y ∷ ys) (suc i) j x e h = ap (λ (n : ℕ). take n (y ∷ ys)) e
    ∙ ap (λ (l : List ℕ). y ∷ l) (take_more ys i (suc i) x refl h)

pub loop-i-preserved : goal.loop-i-preserved
loop-i-preserved c =
    let step : c.loop-i.i + 1 ≡ suc c.loop-i.i = omega arith in
    c.in-Ok.ensures.items ∙ (ap (λ (l : List ℕ). l ++ c.word.result ∷ []) c.loop-i.invariant
    ∙ sym (take_more (slots_items c.args.closed.now.words) c.loop-i.i
    (c.loop-i.i + 1) c.word.result step c.word.ensures))
