-- Rows that drop no screen.
use Rattle.std.proofs.Common.{◌≡◌, ◌≢◌, ℕ, List, [], ◌∷◌, All, true, refl, ap, ◌∙◌, suc, zero}
use Rattle.std.proofs.Common.{arith}
use Rattle.std.specs.Prelude.{◌==◌}
use Rattle.std.specs.Cmp.Lexicographic.{bytes_decides}
use Rattle.std.proofs.lemmas.Bool.{cond_both, false_from_ne_true, ne_eqb}
use Rattle.std.proofs.lemmas.List.Elements.{All-head, All-tail, All-weaker}
use Rattle.limit_table.specs.declared.kind.OffRow.{OffRow}
use Rattle.screen_kit.specs.Screens.{ScreenValue}
use Rattle.screen_kit.specs.Sets.{HasName, is_named, without_first}
use Rattle.order_desk.specs.Dropping.{after_row, after_rows}

module _ (order : ℕ) (screens : List ScreenValue) where
  -- a row that drops nothing
  abbrev IsIdle : OffRow → Type 0
  IsIdle row = after_row order row screens ≡ screens

  idle_rows : (rows : List OffRow) → All IsIdle rows → after_rows order rows screens ≡ screens
  idle_rows [] idle = refl
  idle_rows (row ∷ rows) idle =
      ap (after_rows order rows) (All-head IsIdle row rows idle)
      ∙ idle_rows rows (All-tail IsIdle row rows idle)

-- rows of other orders
pub other_rows : (order : ℕ) (rows : List OffRow) (screens : List ScreenValue)
    → All (λ (row : OffRow). row.from ≢ order) rows → after_rows order rows screens ≡ screens
other_rows order rows screens others =
    idle_rows order screens rows
    (All-weaker (λ (row : OffRow). row.from ≢ order) (IsIdle order screens)
    (λ row other. rw (ne_eqb row.from order other) refl) rows others)

-- a name that no screen has
absent : (name : List ℕ) (screens : List ScreenValue) → ¬ HasName name screens
    → without_first name screens ≡ screens
absent name [] none = refl
absent name (screen ∷ later) none =
    let other = false_from_ne_true (is_named name screen) (λ (is : is_named name screen ≡ true).
    none (zero, screen, omega arith, refl, (bytes_decides screen.name name).0 is)) in
    rw other (ap (λ (kept : List ScreenValue). screen ∷ kept) (absent name later
    (λ (k, own, below, there, named). none (suc k, own, omega arith, there, named))))

pub absent_rows : (order : ℕ) (rows : List OffRow) (screens : List ScreenValue)
    → All (λ (row : OffRow). ¬ HasName row.name screens) rows
    → after_rows order rows screens ≡ screens
absent_rows order rows screens none =
    idle_rows order screens rows
    (All-weaker (λ (row : OffRow). ¬ HasName row.name screens) (IsIdle order screens)
    (λ row no_screen. cond_both (row.from == order) (without_first row.name screens) screens
    (λ (kept : List ScreenValue). kept ≡ screens) (λ is. absent row.name screens no_screen)
    (λ is. refl)) rows none)
