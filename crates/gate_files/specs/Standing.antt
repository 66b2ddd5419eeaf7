-- The status after sessions, by how each ended.
use Rattle.std.specs.Prelude.{ℕ, List}
use Rattle.std.specs.Prelude.{Bool, true, false, ◌||◌, if◌then◌else◌}
use Rattle.std.specs.List.{list_any}
use Rattle.risk_journal.specs.declared.acts.End.{End}
use Rattle.risk_journal.specs.declared.acts.End.TheVariants as ending

abbrev pub is_memory : End → Bool
is_memory ending.Memory = true
is_memory other = false

abbrev pub is_write_fault : End → Bool
is_write_fault ending.WriteFault = true
is_write_fault other = false

abbrev pub is_read_fault : End → Bool
is_read_fault ending.ReadFault = true
is_read_fault other = false

-- the input ends within a frame, or stands there no frame, or one too long
abbrev pub is_cut_short : End → Bool
is_cut_short (ending.Cut place) = true
is_cut_short (ending.Broken place) = true
is_cut_short (ending.TooLong place) = true
is_cut_short other = false

-- The status after the sessions, by their ends and by whether the journal could not be written: the
-- first of 8, 6, 5, 4 and 0 that applies.
abbrev pub standing_of : List End → Bool → ℕ
standing_of ends refused =
    if list_any is_memory ends then 8
    else (if refused || list_any is_write_fault ends then 6
    else (if list_any is_read_fault ends then 5
    else (if list_any is_cut_short ends then 4 else 0)))
