-- What the rule allows a seat, it allows the seat that counts.
use Rattle.std.proofs.Common.{◌≡◌, ℕ, suc, ◌<◌, List, [], ◌∷◌, ◌++◌, set, refl, sym, ap, ◌∙◌, subst}
use Rattle.std.specs.Prelude.{slice_index}
use Rattle.std.proofs.lemmas.List.{map-set, map-append}
use mathlib.Core.Option.{some}
use lib.ListN.{get_elem?}
use Rattle.atomic_table.specs.Table.{State, Me, Allows, Splits, Joins, Final, Seen, stepped}
use Rattle.atomic_table.proofs.Lists.{at_map}
use Rattle.atomic_table.specs.Seated.{TableId}
use Rattle.stamp_word.specs.Counting.{TableValue, SeatValue, uncounted, plain}

module _ {V : Type 0} (holds : State (Unit {0}) V → Type 0) where
  -- a step
  pub counted_allowed : (slots id : ℕ) (me : Me (Unit {0}) (V × ℕ)) (place : ℕ) (f : ℕ → ℕ)
      (tells : ℕ → Me (Unit {0}) V → Type 0) → Allows holds slots id (plain me) place f tells
      → Allows (λ s. holds (uncounted s)) slots id me place f
      (λ found after. tells found (plain after) × (after.0.1 ≡ suc me.0.1))
  counted_allowed slots id me place f tells allowed s kept homes at small =
      let due = allowed (uncounted s) kept homes (at_map (λ v. v.0) s.views id me.0 at) small in (
        (due.0, suc me.0.1),
        due.1,
        due.2,
        subst (λ (views : List V). holds (record {
          words = set s.words place (f (slice_index s.words place));
          homes = (stepped (uncounted s) place (f (slice_index s.words place)) id me.1 due.0
              due.1).homes;
          views = views;
        })) (sym (map-set (λ v. v.0) s.views id (due.0, suc me.0.1))) due.3,
        (due.4, refl),
      )

  -- a new seat
  pub counted_splits : (id : ℕ) (v : V × ℕ) (left right : V) (m n : ℕ)
      → Splits holds id v.0 left right → Splits (λ s. holds (uncounted s)) id v (left, m) (right, n)
  counted_splits id v left right m n splits s kept at =
      subst (λ (views : List V). holds (record {
        words = s.words;
        homes = s.homes;
        views = views;
      })) (sym (map-append (λ (u : V × ℕ). u.0) (set s.views id (left, m)) ((right, n) ∷ [])
      ∙ ap (λ (l : List V). l ++ right ∷ []) (map-set (λ (u : V × ℕ). u.0) s.views id (left, m))))
      (splits (uncounted s) kept (at_map (λ u. u.0) s.views id v at))

  -- a seat taken in
  pub counted_joins : (id : ℕ) (v : V × ℕ) (other : ℕ) (w : V × ℕ) (both spent : V) (m n : ℕ)
      → Joins holds id v.0 other w.0 both spent
      → Joins (λ s. holds (uncounted s)) id v other w (both, m) (spent, n)
  counted_joins id v other w both spent m n joins s kept at apart there =
      let one = map-set (λ (u : V × ℕ). u.0) s.views id (both, m) in
      subst (λ (views : List V). holds (record {
        words = s.words;
        homes = s.homes;
        views = views;
      })) (sym (map-set (λ (u : V × ℕ). u.0) (set s.views id (both, m)) other (spent, n)
      ∙ ap (λ (l : List V). set l other spent) one))
      (joins (uncounted s) kept (at_map (λ u. u.0) s.views id v at) apart
      (subst (λ (l : List V). get_elem? l other ≡ some w.0) one
      (at_map (λ u. u.0) (set s.views id (both, m)) other w there)))

  -- the end
  pub counted_final : (id : ℕ) (v : V × ℕ) (words : List ℕ) (slots : List (Unit {0}))
      → Final (Seen (λ s. holds (uncounted s)) id v) words slots
      → Final (Seen holds id v.0) words slots
  counted_final id v words slots final = (
    uncounted final.0,
    (final.1.0, at_map (λ u. u.0) final.0.views id v final.1.1),
    final.2,
    final.3,
    final.4,
  )

-- A step of a seat that is seen as this, on a table that is seen as that
module _ {V K : Type 0} (holds : K → State (Unit {0}) V → Type 0) (table_id : TableId) (key : K)
    (table : TableValue K) (table_is : record { table_id = table_id; key = key } ≡ table)
    (of : TableId) (id : ℕ) (me : Me (Unit {0}) (V × ℕ)) (seat : SeatValue V)
    (seat_is : record { table_id = of; id = id; me = plain me; steps = me.0.1 } ≡ seat) where
  pub counted_step : (place : ℕ) (f : ℕ → ℕ)
      (tells : ℕ → Me (Unit {0}) V → ℕ → Me (Unit {0}) V → Type 0)
      → seat.table_id ≡ table.table_id → place < table.table_id.words
      → Allows (holds table.key) table.table_id.slots seat.id seat.me place f
      (tells table.table_id.slots seat.me)
      → (of ≡ table_id) × (place < table_id.words)
      × Allows (λ s. holds key (uncounted s)) table_id.slots id me place f
      (λ found after. tells table_id.slots (plain me) found (plain after)
      × (after.0.1 ≡ suc me.0.1))
  counted_step place f tells seated within allowed = (
    ap (λ s. s.table_id) seat_is ∙ (seated ∙ sym (ap (λ t. t.table_id) table_is)),
    subst (λ t. place < t.table_id.words) (sym table_is) within,
    counted_allowed (holds key) table_id.slots id me place f
        (tells table_id.slots (plain me))
        (subst (λ t. Allows (holds t.key) t.table_id.slots id (plain me) place f
        (tells t.table_id.slots (plain me))) (sym table_is)
        (subst (λ s. Allows (holds table.key) table.table_id.slots s.id s.me place f
        (tells table.table_id.slots s.me)) (sym seat_is) allowed)),
  )
