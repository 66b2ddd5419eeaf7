-- What the sessions of a run came to, in the folder's texts.
use Rattle.std.specs.Prelude.{◌≡◌, ℕ, List, length, map, slice_get}
use Rattle.std.specs.Prelude.{Option, Some, IfSome, IsSome, Bool, false}
use Rattle.std.specs.List.{list_any}
use Rattle.gate_ports.specs.Names.{Texts}
use Rattle.risk_board.specs.declared.hand.Line.{Line}
use Rattle.risk_journal.specs.declared.acts.Act.{Act}
use Rattle.risk_journal.specs.declared.acts.End.{End}
use Rattle.gate_files.specs.Words.{RunWords}
use Rattle.gate_files.specs.Ports.{PortsValue}
use Rattle.gate_files.specs.Standing.{is_memory}
use Rattle.gate_files.specs.Stops.{KeepsOthers}
use Rattle.session_tasks.specs.Rules.{InputRule, EarlyRule}
use Rattle.session_tasks.specs.Holding.{EndHolds}
use Rattle.session_tasks.specs.Kept.{HasJournal}

-- the sessions' names have these texts, where the folder tells them
abbrev pub AreInputs : Option Texts → List (List ℕ) → List (List ℕ) → Type 0
AreInputs told names inputs =
    IfSome told (λ texts. map texts names ≡ map (λ bytes. Some bytes) inputs)

-- The sessions were run: each did, over its input, what it is held to by its end, and the journal
-- tells it.
pub record HaveRan (Input : ℕ → InputRule) (Early : ℕ → EarlyRule) (run : RunWords)
    (before after : PortsValue) (inputs : List (List ℕ)) (acts : List (List Act)) (ends : List End)
    (lines : List (List Line)) (refused : Bool) : Type 0 where
  -- a session that wanted memory gives 8, which stands by itself
  pub remembered : list_any is_memory ends ≡ false
  pub inputs_are : AreInputs before.texts run.sessions inputs
  pub input_count : length inputs ≡ length run.sessions
  pub act_count : length acts ≡ length run.sessions
  pub end_count : length ends ≡ length run.sessions
  pub each : (session : ℕ) (bytes : List ℕ) (own : List Act) (end : End)
      → slice_get inputs session ≡ Some bytes → slice_get acts session ≡ Some own
      → slice_get ends session ≡ Some end
      → EndHolds (Input session) (Early session) before after run session bytes own end
  pub journal : HasJournal before after run acts lines refused
  pub others : KeepsOthers before after run
  -- a folder that told its texts before goes on telling them
  pub tells : IsSome before.texts → IsSome after.texts
