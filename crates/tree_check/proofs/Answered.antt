-- The answers for trees, one after another.
use Rattle.std.proofs.Common.{◌≡◌, List, [], ◌∷◌, refl, ap, ◌∙◌, Bool, ◌&&◌}
use Rattle.std.specs.Prelude.{Result, Ok, Err, IfOk}
use Rattle.std.specs.List.{list_all, AllByRecursion, AllZip}
use Rattle.tree_check.specs.Agreeing.{IsAnswered, yes_of}

-- where each tree was checked, the answers are those of the trees
pub answers_are : {A E : Type 0} (answer : A → Bool) (trees : List A) (done : List (Result Bool E))
    → AllZip (λ tree one. IfOk one (λ found. found ≡ answer tree)) trees done
    → AllByRecursion IsAnswered done → list_all yes_of done ≡ list_all answer trees
answers_are answer [] [] zipped whole = refl
answers_are answer [] (one ∷ done) zipped whole = absurd zipped
answers_are answer (tree ∷ trees) [] zipped whole = absurd zipped
answers_are answer (tree ∷ trees) (Err why ∷ done) zipped whole = absurd whole.0
answers_are answer (tree ∷ trees) (Ok agrees ∷ done) zipped whole =
    ap (λ b. b && list_all yes_of done) zipped.0
    ∙ ap (λ b. answer tree && b) (answers_are answer trees done zipped.1 whole.1)

-- so is what was answered for all
pub all_answers : {A E F : Type 0} (answer : A → Bool) (trees : List A) (done : List (Result Bool E))
    (result : Result Bool F)
    → AllZip (λ tree one. IfOk one (λ found. found ≡ answer tree)) trees done
    → IfOk result (λ found. AllByRecursion IsAnswered done × (found ≡ list_all yes_of done))
    → IfOk result (λ found. found ≡ list_all answer trees)
all_answers answer trees done (Ok agrees) zipped told =
    told.1 ∙ answers_are answer trees done zipped told.0
all_answers answer trees done (Err why) zipped told = tt
