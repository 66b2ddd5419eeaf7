-- What a call of the gate did, by its words.
use Rattle.std.specs.Prelude.{◌≡◌, ℕ, List, Option, Some, None, ◌⊎◌}
use Rattle.check_command.specs.Gate.{CheckWent}
use Rattle.cross_command.specs.Crossed.{CrossWent}
use Rattle.screen_kit.specs.Screens.{ScreenValue}
use Rattle.gate_files.specs.Stops.{HasNoForm}
use Rattle.gate_program.specs.Gate.{RunWent}
use Rattle.gate_program.specs.Loads.{LoadWent}
use Rattle.gate_files.specs.Ports.{PortsValue}
use Rattle.gate_files.specs.Words.{Command, command_of}
use Rattle.gate_files.specs.Words.Command.{Run, Make, Check, Cross}

-- the way of a command
abbrev pub CommandWent : List (List ℕ) → Option Command → List (List ScreenValue) → PortsValue
    → PortsValue → ℕ → Type 0
CommandWent words None sets before after status = HasNoForm words before after status
CommandWent words (Some (Run run)) sets before after status = RunWent run sets before after status
CommandWent words (Some (Make asked)) sets before after status = LoadWent asked before after status
CommandWent words (Some (Check check)) sets before after status =
    CheckWent check sets before after status
CommandWent words (Some (Cross run)) sets before after status = CrossWent run before after status

-- The call, with a set of screens for each session, answered 8 for want of memory, or went the way
-- of its words.
abbrev pub GateRun : List (List ℕ) → List (List ScreenValue) → PortsValue → PortsValue → ℕ → Type 0
GateRun words sets before after status =
    (status ≡ 8) ⊎ CommandWent words (command_of words) sets before after status
