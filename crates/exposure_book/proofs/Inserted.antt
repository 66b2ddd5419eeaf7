-- An id that is new goes last in the map of ids.
use Rattle.std.proofs.Common.{◌≡◌, ◌++◌, ℕ, List, [], ◌∷◌, None, Result, Ok, Err, IsOk}
use Rattle.std.proofs.Common.{OnOk, nat_eq, ◌∙◌}
use Rattle.std.specs.Cmp.Lexicographic.{pointwise}
use Rattle.indexmap.specs.IndexMap.{IndexMap, get, insert_entry}
use Rattle.indexmap.proofs.CallerLemmas.{insert_entry-new}

on_ok : {X Y : Type 0} (r : Result X Y) (P : Type 0) → IsOk r → OnOk r P → P
on_ok (Ok x) P ok holds = holds
on_ok (Err e) P ok holds = cc

-- the entries after an id that no entry has
module _ {S X Y : Type 0} (ids ids' : IndexMap (List ℕ) ℕ S) (id : List ℕ) (place : ℕ)
    (r : Result X Y) where
  pub entries-insert : IsOk r → get (pointwise nat_eq) ids id ≡ None
      → OnOk r (ids'.entries ≡ insert_entry (pointwise nat_eq) ids.entries id place)
      → ids'.entries ≡ ids.entries ++ (id, place) ∷ []
  entries-insert ok new put =
      on_ok r (ids'.entries ≡ insert_entry (pointwise nat_eq) ids.entries id place) ok put
      ∙ insert_entry-new (pointwise nat_eq) ids id place new
