-- What is told of a text that is no limit file.
use Rattle.std.specs.Prelude.{ℕ, List, [], ◌∷◌, ◌++◌, codes, decimal}
use Rattle.limit_table.specs.declared.fault.LimitFault.{LimitFault}
use Rattle.limit_table.specs.declared.fault.LimitFault.TheVariants as fault

-- the number of a fault; want of memory is no fault of a text, and is never told
abbrev pub fault_number : LimitFault → ℕ
fault_number (fault.RowShape row) = 1
fault_number (fault.Kind row) = 2
fault_number (fault.Number row) = 3
fault_number (fault.Name row) = 4
fault_number (fault.Repeated row) = 5
fault_number fault.NoFirm = 6
fault_number (fault.TooMany row) = 7
fault_number (fault.Band row) = 8
fault_number fault.Memory = 0

-- the row of a fault, from 1, and 0 where it has none
abbrev pub fault_row : LimitFault → ℕ
fault_row (fault.RowShape row) = row
fault_row (fault.Kind row) = row
fault_row (fault.Number row) = row
fault_row (fault.Name row) = row
fault_row (fault.Repeated row) = row
fault_row fault.NoFirm = 0
fault_row (fault.TooMany row) = row
fault_row (fault.Band row) = row
fault_row fault.Memory = 0

-- what is told of a text that is refused for this fault
abbrev pub limits_fault_text : LimitFault → List ℕ
limits_fault_text why =
    codes "limits fault " ++ decimal (fault_number why) ++ codes " row "
    ++ decimal (fault_row why) ++ 10 ∷ []
