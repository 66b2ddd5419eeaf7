-- What the sessions of a run did together, and what is left of it in a folder and on standard
-- output.
use Rattle.std.specs.Prelude.{◌≡◌, ℕ, List, [], length, map, Some, IfSome, slice_get}
use Rattle.std.specs.Prelude.{◌++◌}
use Rattle.std.specs.List.{slice_index_or}
use Rattle.risk_board.specs.declared.hand.Line.{Line}
use Rattle.risk_board.specs.History.{IsLegal, components_of}
use Rattle.risk_journal.specs.declared.acts.Act.{Act}
use Rattle.risk_journal.specs.declared.acts.End.{End}
use Rattle.risk_journal.specs.declared.acts.End.TheVariants as ending
use Rattle.limit_table.specs.declared.limits.Limits.{Limits}
use Rattle.limit_table.specs.Trees.{tree_count, fold_of, limit_of}
use Rattle.risk_journal.specs.ActLists.{events_of}
use Rattle.session_engine.specs.Admitted.{AdmitsOwn, StaysWithin}
use Rattle.gate_files.specs.Words.{RunWords, venue_name, client_name}
use Rattle.screen_kit.specs.Screens.{ScreenValue}
use Rattle.session_engine.specs.Follows.{EndsWith, FollowsInput, StopsEarly}
use Rattle.gate_files.specs.Ports.{PortsValue, ReadRose, WriteRose, OutputRose, session_name}

-- the screens of a session: the set in its place
abbrev pub set_of : List (List ScreenValue) → ℕ → List ScreenValue
set_of sets session = slice_index_or sets session []

-- A session whose end is by its bytes: its acts and both its outputs follow its input, with these
-- screens, armed, where the folder tells its texts.
abbrev pub FollowsText : Limits → List ScreenValue → PortsValue → RunWords → ℕ → List ℕ
    → List Act → End → Type 0
FollowsText limits screens after run session bytes acts end =
    IfSome after.texts (λ texts. (venue : List ℕ) × (client : List ℕ)
    × (texts (venue_name run.out session) ≡ Some venue)
    × (texts (client_name run.out session) ≡ Some client)
    × FollowsInput limits screens bytes acts end venue client)

-- A session that a fault ended: its acts and both its outputs follow what was fetched, the first bytes
-- of its input, and where a sink failed it is the output of the last message, where the folder tells
-- its texts.
abbrev pub StopsText : Limits → List ScreenValue → PortsValue → PortsValue → RunWords → ℕ → List ℕ
    → List Act → End → Type 0
StopsText limits screens before after run session bytes acts end =
    IfSome after.texts (λ texts. (venue : List ℕ) × (client : List ℕ)
    × (texts (venue_name run.out session) ≡ Some venue)
    × (texts (client_name run.out session) ≡ Some client)
    × (fetched : List ℕ) × (rest : List ℕ) × (bytes ≡ fetched ++ rest)
    × StopsEarly limits screens fetched acts end venue client
    (WriteRose before after (venue_name run.out session))
    (WriteRose before after (client_name run.out session)))

-- what is known of a session of these bytes, with these screens, armed, by its end
abbrev pub EndHolds : Limits → List ScreenValue → PortsValue → PortsValue → RunWords → ℕ → List ℕ
    → List Act → End → Type 0
EndHolds limits screens before after run session bytes acts ending.ReadFault =
    ReadRose before after (session_name run session) × EndsWith acts ending.ReadFault
    × StopsText limits screens before after run session bytes acts ending.ReadFault
EndHolds limits screens before after run session bytes acts ending.WriteFault =
    OutputRose before after run session × EndsWith acts ending.WriteFault
    × StopsText limits screens before after run session bytes acts ending.WriteFault
EndHolds limits screens before after run session bytes acts ending.Memory = Unit {0}
EndHolds limits screens before after run session bytes acts ending.Whole =
    FollowsText limits screens after run session bytes acts ending.Whole
EndHolds limits screens before after run session bytes acts (ending.Cut place) =
    FollowsText limits screens after run session bytes acts (ending.Cut place)
EndHolds limits screens before after run session bytes acts (ending.Broken place) =
    FollowsText limits screens after run session bytes acts (ending.Broken place)
EndHolds limits screens before after run session bytes acts (ending.TooLong place) =
    FollowsText limits screens after run session bytes acts (ending.TooLong place)

-- Each tree has one legal history. What is admitted in it stays within its limit, and is what the
-- sessions' own acts admit.
pub record IsHistory (limits : Limits) (acts : List (List Act)) (lines : List (List Line))
    : Type 0 where
  pub trees : length lines ≡ tree_count limits
  pub legal : (tree : ℕ) (own : List Line) → slice_get lines tree ≡ Some own
      → IsLegal (fold_of limits tree) 0 (components_of (length acts)) own
      (map (events_of tree) acts)
  pub within : (tree : ℕ) (own : List Line) → slice_get lines tree ≡ Some own
      → IfSome (limit_of limits tree)
      (λ limit. StaysWithin limit (length acts) own (map (events_of tree) acts))
  pub admits : (tree : ℕ) (own : List Line) → slice_get lines tree ≡ Some own
      → IfSome (limit_of limits tree)
      (λ limit. AdmitsOwn limit own (map (events_of tree) acts))
