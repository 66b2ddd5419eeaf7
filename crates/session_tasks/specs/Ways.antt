-- The ways of a command that runs sessions, by how far it came.
use Rattle.std.specs.Prelude.{ℕ, ◌⊎◌}
use Rattle.gate_files.specs.Words.{RunWords}
use Rattle.gate_files.specs.Ports.{PortsValue}
use Rattle.gate_files.specs.Stops.{HasUnreadLimits, HasRefusedLimits, HasUnopenedSession}
use Rattle.gate_files.specs.Stops.{HasRefusedOutput}

-- what a call came to: the ports before it and after it, and its status
abbrev pub Outcome : Type 1
Outcome = PortsValue → PortsValue → ℕ → Type 0

-- a command that came behind its limits, to its sessions' names, or to this end of its sessions
abbrev pub SessionsWent : Outcome → RunWords → Outcome
SessionsWent Ran run before after status =
    HasUnopenedSession run before after status ⊎ HasRefusedOutput run before after status
    ⊎ Ran before after status

-- a command that came as far as its limit file, or behind it
abbrev pub WordsWent : Outcome → RunWords → Outcome
WordsWent Ran run before after status =
    HasUnreadLimits run.limits before after status ⊎ HasRefusedLimits run.limits before after status
    ⊎ SessionsWent Ran run before after status
