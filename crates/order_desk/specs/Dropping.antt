-- The screens that are dropped as an order is taken up.
use Rattle.std.specs.Prelude.{ℕ, ◌==◌, List, [], ◌∷◌, if◌then◌else◌}
use Rattle.limit_table.specs.declared.kind.OffRow.{OffRow}
use Rattle.limit_table.specs.Trees.{LimitsValue}
use Rattle.screen_kit.specs.Screens.{ScreenValue}
use Rattle.screen_kit.specs.Sets.{without_first}

-- the set after a row: as the order with its number, from 0, the first screen of its name is dropped
abbrev pub after_row : ℕ → OffRow → List ScreenValue → List ScreenValue
after_row order row screens =
    if row.from == order then without_first row.name screens else screens

-- the set after these rows, one after another
abbrev pub after_rows : ℕ → List OffRow → List ScreenValue → List ScreenValue
after_rows order [] screens = screens
after_rows order (row ∷ rows) screens = after_rows order rows (after_row order row screens)

-- the screens that are left as the order of this number, from 0, is taken up
abbrev pub screens_left : LimitsValue → ℕ → List ScreenValue → List ScreenValue
screens_left limits order screens = after_rows order limits.off screens
