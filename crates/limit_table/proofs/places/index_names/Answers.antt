use Rattle.std.proofs.Common.{◌≡◌, ℕ, ◌+◌, List, [], ◌∷◌, ◌++◌, take, ap, sym, ◌∙◌, true, false}
use Rattle.std.proofs.Common.{rules, arith, Result, Ok, Err, length-take-le}
use Rattle.std.proofs.lemmas.List.{take_more}
use Rattle.std.specs.Result.{OnOk, is_ok}
use Rattle.std.specs.Ordering.{nat_cmp}
use Rattle.std.specs.Cmp.Lexicographic.{slice_cmp}
use Rattle.std.specs.BTreeMap.{get}
use Rattle.limit_table.proofs.Names.{place_more}
use Rattle.limit_table.proofs.places.index_names.Goals as goal

false_is_not_true : false ≡ true → ⊥
false_is_not_true h = cc h

ok_gives : {A E P : Type 0} (r : Result A E) → is_ok r ≡ true → OnOk r P → P
ok_gives (Ok x) good h = h
ok_gives (Err e) good h = absurd (false_is_not_true good)

-- the name at the next place
pub loop-place-preserved : goal.loop-place-preserved
loop-place-preserved c = λ q.
    let names = c.args.names.now in
    let place = c.loop-place.place in
    let name = c.index-names-place.result in
    let good : is_ok c.insert.result ≡ true = search rules in
    let gets = (ok_gives c.insert.result good c.insert.ensures.updates).0 q in
    let size = length-take-le place names (omega arith) in
    let more = rw size at (place_more (take place names) name q
    (get (slice_cmp nat_cmp) c.loop-place.places q) (c.loop-place.invariant q)) in
    let split : take (place + 1) names ≡ take place names ++ name ∷ [] =
    take_more names place name (omega arith)
    ∙ ap (λ (n : List ℕ). take place names ++ n ∷ []) (sym c.index-names-place.is) in
    rw (split, gets) more
