-- What the parsed words of a command are.
use Rattle.std.specs.Prelude.{ℕ, ◌≤◌, IsTrue, List, [], ◌∷◌, ◌++◌, map, string_bytes}
use Rattle.std.specs.List.{flat_map, range_with_len}
use Rattle.make_load.specs.declared.session.TheConstants.{ORDERS_MOST}
use Rattle.make_load.specs.declared.summary.Asked.{Asked}
use Rattle.gate_files.specs.declared.words.Command.{Command as Read}
use Rattle.gate_files.specs.declared.words.Command.TheVariants as read
use Rattle.gate_files.specs.declared.names.OutputFiles.{OutputFiles}
use Rattle.gate_files.specs.declared.names.OutputFolder.{OutputFolder}
use Rattle.gate_files.specs.declared.words.Run.{Run}
use Rattle.gate_files.specs.declared.words.Check.{Check}
use Rattle.gate_files.specs.Words.{FolderWords, RunWords, CheckWords, Command, session_mark}
use Rattle.gate_files.specs.Words.{client_ending, journal_file, venue_ending}
use Rattle.gate_files.specs.Words.{is_run, is_check, session_most}
use Rattle.gate_files.specs.Words.Command.{Run as run_command, Make as make_command}
use Rattle.gate_files.specs.Words.Command.{Check as check_command, Cross as cross_command}

-- a folder of outputs
abbrev pub folder_value : OutputFolder → FolderWords
folder_value out = record { name = out.name.now; files = out.files }

-- the words of a run
abbrev pub run_value : Run → RunWords
run_value run = record {
  limits = run.limits.now;
  out = folder_value run.out;
  sessions = map string_bytes run.sessions.now;
}

-- the words of a check
abbrev pub check_value : Check → CheckWords
check_value check = record {
  limits = check.limits.now;
  journal = check.journal.now;
  sessions = map string_bytes check.sessions.now;
}

-- the command that was read
abbrev pub command_value : Read → Command
command_value (read.Run run) = run_command (run_value run)
command_value (read.Make asked) = make_command asked
command_value (read.Check check) = check_command (check_value check)
command_value (read.Cross run) = cross_command (run_value run)

-- a load has one session to the most, and each one order to the most
pub record IsAsked (asked : Asked) : Type 0 where
  pub some : 1 ≤ asked.sessions
  pub most : asked.sessions ≤ session_most
  pub some_orders : 1 ≤ asked.orders
  pub most_orders : asked.orders ≤ ORDERS_MOST

-- the words that were read are those of a form
abbrev pub IsForm : Read → Type 0
IsForm (read.Run run) = IsTrue (is_run (run_value run))
IsForm (read.Make asked) = IsAsked asked
IsForm (read.Check check) = IsTrue (is_check (check_value check))
IsForm (read.Cross run) = IsTrue (is_run (run_value run))

-- how the names of a session's outputs end
abbrev pub endings_of : OutputFiles → List (List ℕ)
endings_of files = venue_ending files ∷ client_ending ∷ []

-- the names of a session's outputs, after the folder of outputs
abbrev pub files_of : OutputFiles → ℕ → List (List ℕ)
files_of files session = map (λ ending. session_mark session ++ ending) (endings_of files)

-- the names that a run of so many sessions writes, after the folder of outputs
abbrev pub file_names : OutputFiles → ℕ → List (List ℕ)
file_names files count =
    flat_map (files_of files) (range_with_len 0 count) ++ journal_file files ∷ []
