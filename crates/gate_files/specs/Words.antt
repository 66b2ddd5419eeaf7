-- The words of the command line, and the names of outputs.
use Rattle.std.specs.Prelude.{◌≡◌, ℕ, ◌<◌, ◌+◌, ◌-◌, ◌^◌, ◌/◌, ◌%◌, ◌==◌, ◌&&◌, List, [], ◌∷◌, ◌++◌, length, codes}
use Rattle.std.specs.Prelude.{Option, Some, None, Bool, true, false, not, nat_le, if◌then◌else◌}
use Rattle.std.specs.List.{list_all, list_any, flat_map, range_with_len}
use Rattle.std.specs.Str.{bytes_eq}
use Rattle.std.specs.Fmt.{decimal}
use Rattle.std.specs.Str.Parse.{digits_value}
use Rattle.fold_law.specs.declared.limits.TheConstants.{SESSIONS}
use Rattle.make_load.specs.declared.session.TheConstants.{ORDERS_MOST}
use Rattle.make_load.specs.declared.summary.Asked.{Asked}
use Rattle.gate_files.specs.declared.names.OutputFiles.{OutputFiles}
use Rattle.gate_files.specs.declared.names.OutputFiles.TheVariants as files

-- a folder of outputs: its name, and which files are written there
pub record FolderWords : Type 0 where
  pub name : List ℕ
  pub files : OutputFiles

-- the words of a run, or of a filter: the limit file, the folder of outputs, and the sessions
pub record RunWords : Type 0 where
  pub limits : List ℕ
  pub out : FolderWords
  pub sessions : List (List ℕ)

-- the words of a check: the limit file, the journal, and the sessions
pub record CheckWords : Type 0 where
  pub limits : List ℕ
  pub journal : List ℕ
  pub sessions : List (List ℕ)

-- what the words ask for
pub data Command : Type 0 where
  Run : RunWords → Command
  Make : Asked → Command
  Check : CheckWords → Command
  Cross : RunWords → Command

-- not empty, and without a leading dash
abbrev pub is_word : List ℕ → Bool
is_word [] = false
is_word (byte ∷ bytes) = not (byte == 45)

-- a number below 100 in two digits
abbrev pub two_digits : ℕ → List ℕ
two_digits n = (48 + n / 10) ∷ (48 + n % 10) ∷ []

-- how the name of a session's output for the venue ends
abbrev pub venue_ending : OutputFiles → List ℕ
venue_ending files.Run = codes ".venue"
venue_ending files.Cross = codes ".pass"

-- and that of the one for its client
abbrev pub client_ending : List ℕ
client_ending = codes ".client"

-- the journal, after the folder of outputs
abbrev pub journal_file : OutputFiles → List ℕ
journal_file files.Run = codes "/journal.csv"
journal_file files.Cross = codes "/cross.csv"

-- a session's number, after the folder of outputs
abbrev pub session_mark : ℕ → List ℕ
session_mark session = codes "/s" ++ two_digits session

-- where the messages for the venue go
abbrev pub venue_name : FolderWords → ℕ → List ℕ
venue_name out session = out.name ++ (session_mark session ++ venue_ending out.files)

-- where the answers for the client go
abbrev pub client_name : FolderWords → ℕ → List ℕ
client_name out session = out.name ++ (session_mark session ++ client_ending)

-- where the journal goes
abbrev pub journal_name : FolderWords → List ℕ
journal_name out = out.name ++ journal_file out.files

-- the two outputs of a session
abbrev pub session_outputs : FolderWords → ℕ → List (List ℕ)
session_outputs out session = venue_name out session ∷ client_name out session ∷ []

-- the names that a run of so many sessions writes
abbrev pub output_names : FolderWords → ℕ → List (List ℕ)
output_names out count =
    flat_map (session_outputs out) (range_with_len 0 count) ++ journal_name out ∷ []

abbrev pub is_among : List ℕ → List (List ℕ) → Bool
is_among name names = list_any (bytes_eq name) names

-- the name is none of the outputs of the first sessions
abbrev pub IsApart : FolderWords → ℕ → List ℕ → Type 0
IsApart out count name =
    (session : ℕ) → session < count
    → (bytes_eq name (venue_name out session) ≡ false)
    × (bytes_eq name (client_name out session) ≡ false)

-- no two are equal
abbrev pub are_distinct : List (List ℕ) → Bool
are_distinct [] = true
are_distinct (name ∷ names) = not (is_among name names) && are_distinct names

-- the most sessions of a run, and of a check
abbrev pub session_most : ℕ
session_most = SESSIONS

-- A run has no empty word and none with a leading dash, one session to the most, no two of them
-- equal, and neither the limit file nor a session is an output.
abbrev pub is_run : RunWords → Bool
is_run run =
    let count = length run.sessions in
    list_all is_word (run.limits ∷ run.out.name ∷ run.sessions)
    && nat_le 1 count && nat_le count session_most
    && are_distinct run.sessions
    && not (list_any (λ name. is_among name (output_names run.out count))
    (run.limits ∷ run.sessions))

-- the words of a run that writes these files
abbrev pub run_words : OutputFiles → List ℕ → List ℕ → List (List ℕ) → RunWords
run_words written limits out sessions = record {
  limits = limits;
  out = record { name = out; files = written };
  sessions = sessions;
}

-- the words after `run` as those of a run, where they are
abbrev pub run_of : List ℕ → List ℕ → List (List ℕ) → Option Command
run_of limits out sessions =
    let run = run_words files.Run limits out sessions in
    if is_run run then Some (Run run) else None

-- the words after `cross` as those of a filter, where they are
abbrev pub cross_of : List ℕ → List ℕ → List (List ℕ) → Option Command
cross_of limits out sessions =
    let run = run_words files.Cross limits out sessions in
    if is_run run then Some (Cross run) else None

-- A check has no empty word and none with a leading dash, and one session to the most, no two of
-- them equal.
abbrev pub is_check : CheckWords → Bool
is_check check =
    let count = length check.sessions in
    list_all is_word (check.limits ∷ check.journal ∷ check.sessions)
    && nat_le 1 count && nat_le count session_most
    && are_distinct check.sessions

-- the words after `check` as those of a check, where they are
abbrev pub check_of : List ℕ → List ℕ → List (List ℕ) → Option Command
check_of limits journal sessions =
    let check : CheckWords =
    record { limits = limits; journal = journal; sessions = sessions } in
    if is_check check then Some (Check check) else None

-- the number that a word spells in digits without a leading zero, where it does and is in this range
abbrev pub number_in : ℕ → ℕ → List ℕ → Option ℕ
number_in least most word =
    let number = digits_value 10 word in
    if bytes_eq (decimal number) word && nat_le least number && nat_le number most then Some number
    else None

-- a load, of numbers that are all there
abbrev pub load_with : Option ℕ → Option ℕ → Option ℕ → Option Command
load_with (Some number) (Some sessions) (Some orders) =
    Some (Make (record { number = number; sessions = sessions; orders = orders }))
load_with (Some number) (Some sessions) None = None
load_with (Some number) None orders = None
load_with None sessions orders = None

-- the words after `make` as those of a load, where they are: its number, how many sessions it has, and
-- how many orders each
abbrev pub load_of : List ℕ → List ℕ → List (List ℕ) → Option Command
load_of number sessions (orders ∷ []) =
    load_with (number_in 0 (2 ^ 32 - 1) number) (number_in 1 session_most sessions)
    (number_in 1 ORDERS_MOST orders)
load_of number sessions [] = None
load_of number sessions (orders ∷ other ∷ others) = None

-- what the words ask for, where they are a form
abbrev pub command_of : List (List ℕ) → Option Command
command_of (command ∷ first ∷ second ∷ others) =
    if bytes_eq command (codes "run") then run_of first second others
    else (if bytes_eq command (codes "make") then load_of first second others
    else (if bytes_eq command (codes "check") then check_of first second others
    else (if bytes_eq command (codes "cross") then cross_of first second others else None)))
command_of [] = None
command_of (command ∷ []) = None
command_of (command ∷ limits ∷ []) = None
