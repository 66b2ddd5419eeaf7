-- A text has one answer.
use Rattle.std.specs.Prelude.{◌≡◌, ℕ, List}
use Rattle.limit_table.specs.Trees.{LimitsValue}
use Rattle.limit_table.specs.declared.fault.LimitFault.{LimitFault}
use Rattle.limit_desk.specs.declared.officer.OfficerRow.{OfficerRow}
use Rattle.limit_desk.specs.Officers.{IsOfficerFile, IsFirstFault}

-- the text has one list of posts or one first fault, and not both
pub record IsOneAnswer (limits : LimitsValue) (bytes : List ℕ) : Type 0 where
  pub posts : (some others : List OfficerRow) → IsOfficerFile limits bytes some
      → IsOfficerFile limits bytes others → some ≡ others
  pub faults : (some others : LimitFault) → IsFirstFault limits bytes some
      → IsFirstFault limits bytes others → some ≡ others
  pub apart : (set : List OfficerRow) (why : LimitFault) → IsOfficerFile limits bytes set
      → IsFirstFault limits bytes why → ⊥
