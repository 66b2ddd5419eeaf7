-- What is known of a session by its end, in the texts of its input and its outputs.
use Rattle.std.specs.Prelude.{◌≡◌, ℕ, List, ◌++◌, Some, IfSome}
use Rattle.risk_journal.specs.declared.acts.Act.{Act}
use Rattle.risk_journal.specs.declared.acts.End.{End}
use Rattle.risk_journal.specs.declared.acts.End.TheVariants as ending
use Rattle.gate_files.specs.Words.{RunWords, venue_name, client_name}
use Rattle.gate_files.specs.Ports.{PortsValue, ReadRose, WriteRose, OutputRose, session_name}
use Rattle.session_tasks.specs.Rules.{InputRule, EarlyRule, EndsWith}

-- A session whose end is by its bytes: its acts and both its outputs follow its input, where the
-- folder tells its texts.
abbrev pub FollowsText : InputRule → PortsValue → RunWords → ℕ → List ℕ → List Act → End → Type 0
FollowsText Input after run session bytes acts end =
    IfSome after.texts (λ texts. (venue : List ℕ) × (client : List ℕ)
    × (texts (venue_name run.out session) ≡ Some venue)
    × (texts (client_name run.out session) ≡ Some client)
    × Input bytes acts end venue client)

-- A session that a fault ended: its acts and both its outputs follow what was fetched, the first
-- bytes of its input, and where a sink failed its output's name had a failed write, where the
-- folder tells its texts.
abbrev pub StopsText : EarlyRule → PortsValue → PortsValue → RunWords → ℕ → List ℕ → List Act → End
    → Type 0
StopsText Early before after run session bytes acts end =
    IfSome after.texts (λ texts. (venue : List ℕ) × (client : List ℕ)
    × (texts (venue_name run.out session) ≡ Some venue)
    × (texts (client_name run.out session) ≡ Some client)
    × (fetched : List ℕ) × (rest : List ℕ) × (bytes ≡ fetched ++ rest)
    × Early fetched acts end venue client
    (WriteRose before after (venue_name run.out session))
    (WriteRose before after (client_name run.out session)))

-- what is known of a session of these bytes by its end
abbrev pub EndHolds : InputRule → EarlyRule → PortsValue → PortsValue → RunWords → ℕ → List ℕ
    → List Act → End → Type 0
EndHolds Input Early before after run session bytes acts ending.ReadFault =
    ReadRose before after (session_name run session) × EndsWith acts ending.ReadFault
    × StopsText Early before after run session bytes acts ending.ReadFault
EndHolds Input Early before after run session bytes acts ending.WriteFault =
    OutputRose before after run session × EndsWith acts ending.WriteFault
    × StopsText Early before after run session bytes acts ending.WriteFault
EndHolds Input Early before after run session bytes acts ending.Memory = Unit {0}
EndHolds Input Early before after run session bytes acts ending.Whole =
    FollowsText Input after run session bytes acts ending.Whole
EndHolds Input Early before after run session bytes acts (ending.Cut place) =
    FollowsText Input after run session bytes acts (ending.Cut place)
EndHolds Input Early before after run session bytes acts (ending.Broken place) =
    FollowsText Input after run session bytes acts (ending.Broken place)
EndHolds Input Early before after run session bytes acts (ending.TooLong place) =
    FollowsText Input after run session bytes acts (ending.TooLong place)
