-- The histories of trees that were replayed, in the order of the trees.
use Rattle.std.proofs.Common.{◌≡◌, ℕ, zero, suc, ◌<◌, List, [], ◌∷◌, ◌++◌, map, refl, sym, ap}
use Rattle.std.proofs.Common.{◌∙◌, arith, subst}
use Rattle.std.proofs.lemmas.List.{map-append}
use Rattle.std.specs.List.{AllZip, AllByRecursion}
use Rattle.std.specs.Prelude.{Result, Ok, Err, OnOk}
use Rattle.risk_board.specs.declared.hand.Line.{Line}
use Rattle.f_array.specs.declared.record.Record.{Record}
use Rattle.trail_replay.specs.declared.history.History.{History}
use Rattle.trail_replay.specs.Histories.{history_of, places_of}
use Rattle.trail_replay.specs.Reads.{list_below}
use Rattle.trail_replay.specs.Replayed.{HasReplayed, IsReplayed, lines_in, places_in}

-- what f gives of each number below this one, by the list of the numbers
pub below_by_map : {A : Type 0} (f : ℕ → A) (n : ℕ)
    → list_below f n ≡ map f (list_below (λ tree. tree) n)
below_by_map f zero = refl
below_by_map f (suc n) =
    ap (λ own. own ++ f n ∷ []) (below_by_map f n)
    ∙ sym (map-append f (list_below (λ tree. tree) n) (n ∷ []))

-- What is told of each tree that was replayed, by what its replay gave
module _ {E B : Type 0} (taken : Record) (given : Result History E → B) (of : ℕ → B)
    (told : (tree : ℕ) (own : History) → HasReplayed {E = E} taken tree (Ok own)
    → given (Ok own) ≡ of tree) where
  given_by : (trees : List ℕ) (done : List (Result History E))
      → AllZip (HasReplayed taken) trees done → AllByRecursion IsReplayed done
      → map given done ≡ map of trees
  given_by [] [] zipped whole = refl
  given_by [] (one ∷ done) zipped whole = absurd zipped
  given_by (tree ∷ trees) [] zipped whole = absurd zipped
  given_by (tree ∷ trees) (Err why ∷ done) zipped whole = absurd whole.0
  given_by (tree ∷ trees) (Ok own ∷ done) zipped whole =
      ap (λ first. first ∷ map given done) (told tree own zipped.0)
      ∙ ap (λ rest. of tree ∷ rest) (given_by trees done zipped.1 whole.1)

  -- it stands behind what was there before, in the order of the trees
  given_added : {U W : Type 0} (r : Result U W) (new old : List B) (n : ℕ)
      (done : List (Result History E)) → AllZip (HasReplayed taken) (list_below (λ tree. tree) n) done
      → OnOk r (AllByRecursion IsReplayed done) → OnOk r (new ≡ old ++ map given done)
      → OnOk r (new ≡ old ++ list_below of n)
  given_added (Ok x) new old n done zipped whole added =
      added ∙ ap (λ own. old ++ own)
      (given_by (list_below (λ tree. tree) n) done zipped whole ∙ sym (below_by_map of n))
  given_added (Err why) new old n done zipped whole added = tt

module _ {E : Type 0} (taken : Record) where
  -- the lines of the trees
  pub lines_added : {U W : Type 0} (r : Result U W) (new old : List (List Line)) (n : ℕ)
      (done : List (Result History E)) → AllZip (HasReplayed taken) (list_below (λ tree. tree) n) done
      → OnOk r (AllByRecursion IsReplayed done) → OnOk r (new ≡ old ++ map lines_in done)
      → OnOk r (new ≡ old ++ list_below (history_of taken) n)
  lines_added = given_added taken lines_in (history_of taken) (λ tree own replayed. replayed.0)

  -- and their places
  pub places_added : {U W : Type 0} (r : Result U W) (new old : List (List ℕ)) (n : ℕ)
      (done : List (Result History E)) → AllZip (HasReplayed taken) (list_below (λ tree. tree) n) done
      → OnOk r (AllByRecursion IsReplayed done) → OnOk r (new ≡ old ++ map places_in done)
      → OnOk r (new ≡ old ++ list_below (places_of taken) n)
  places_added = given_added taken places_in (places_of taken) (λ tree own replayed. replayed.1)

all_pushed : {X : Type 0} (P : X → Type 0) (xs : List X) (x : X) → AllByRecursion P xs → P x
    → AllByRecursion P (xs ++ x ∷ [])
all_pushed P [] x all here = (here, tt)
all_pushed P (first ∷ xs) x all here = (all.0, all_pushed P xs x all.1 here)

-- what holds of each number below this one
pub all_below : (P : ℕ → Type 0) (n : ℕ) → ((k : ℕ) → k < n → P k)
    → AllByRecursion P (list_below (λ tree. tree) n)
all_below P zero each = tt
all_below P (suc n) each =
    all_pushed P (list_below (λ tree. tree) n) n
    (all_below P n (λ k below. each k (omega arith))) (each n (omega arith))

-- what holds of each tree of a record holds of all trees of the prepared record
pub all_of_prepared : (P : Record → ℕ → Type 0) (prepared taken : Record) (trees : List ℕ) (n : ℕ)
    → prepared ≡ taken → trees ≡ list_below (λ tree. tree) n → ((k : ℕ) → k < n → P taken k)
    → AllByRecursion (P prepared) trees
all_of_prepared P prepared taken trees n same are each =
    subst (λ (own : Record). AllByRecursion (P own) trees) (sym same)
    (subst (AllByRecursion (P taken)) (sym are) (all_below (P taken) n each))

-- what was replayed of a prepared record was replayed of the record
pub replayed_of : {E : Type 0} (prepared taken : Record) (trees all : List ℕ)
    (done : List (Result History E)) → prepared ≡ taken → trees ≡ all
    → AllZip (HasReplayed prepared) trees done → AllZip (HasReplayed taken) all done
replayed_of prepared taken trees all done same are zipped =
    subst (λ (own : Record). AllZip (HasReplayed own) all done) same
    (subst (λ (own : List ℕ). AllZip (HasReplayed prepared) own done) are zipped)
