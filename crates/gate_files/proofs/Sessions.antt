-- One session among those of a run, as the program keeps its name, its outputs and its objects.
use Rattle.std.proofs.Common.{◌≡◌, ℕ, ◌<◌, zero, suc, List, [], ◌∷◌, length, map, drop, refl, sym}
use Rattle.std.proofs.Common.{ap, ◌∙◌, arith}
use Rattle.std.proofs.Common.{String, Global, string_bytes, get_or, Bool, true, false, not, ◌&&◌}
use Rattle.std.proofs.Common.{◌||◌}
use Rattle.std.proofs.lemmas.Option.{slice_get_read, slice_get-get_or}
use Rattle.std.specs.Prelude.{Some, slice_get, IsTrue}
use Rattle.std.specs.List.{list_any}
use Rattle.gate_files.specs.declared.names.Outputs.{Outputs}
use Rattle.gate_files.specs.declared.words.Run.{Run}
use Rattle.gate_files.specs.CommandOf.{run_value}
use Rattle.gate_files.specs.Names.{AreNamesOf, AreNames}
use Rattle.gate_files.specs.Words.{FolderWords, RunWords, IsApart, is_run, is_among, output_names}
use Rattle.gate_files.specs.Ports.{PortsValue, session_name}
use Rattle.gate_files.specs.Stages.{Went}
use Rattle.gate_files.specs.declared.open.Opened.{Opened}
use Rattle.gate_files.specs.Objects.{ObjectsValue, AreOwn, EachOwn}
use Rattle.gate_files.proofs.Closings.{named}
use Rattle.gate_files.proofs.Folder.{are_own_later}
use Rattle.gate_files.proofs.Lists.{first_left, map_at}
use Rattle.gate_files.proofs.OutputNames.{apart_from_all}

-- the name of a session that was looked up
pub name_at : (run : Run) (session : ℕ) (name : String Global) (text : List ℕ)
    → session < length run.sessions.now → name ≡ get_or run.sessions.now session name
    → text ≡ string_bytes (get_or run.sessions.now session name)
    → text ≡ session_name (run_value run) session
name_at run session name text below is text_is =
    text_is ∙ ap (λ (s : String Global). string_bytes s) (sym is)
    ∙ named (run_value run) run.sessions.now session name refl
    (slice_get_read run.sessions.now _ session name refl below is)

-- the names of its outputs
pub outputs_at : (out : FolderWords) (count session : ℕ) (names : List Outputs) (own : Outputs)
    → AreNames out count names → session < count → own ≡ get_or names session own
    → AreNamesOf out session own
outputs_at out count session names own are below is =
    are.each session own (slice_get_read names _ session own refl (omega (arith, are.many)) is)

last_fails : (a e : Bool) → IsTrue (a && not e) → e ≡ false
last_fails true false holds = refl
last_fails true true holds = absurd cc
last_fails false e holds = absurd cc

second_any : (a b : Bool) → (a || b) ≡ false → b ≡ false
second_any false b is = is
second_any true b is = absurd cc

none_any : (outputs : List (List ℕ)) (names : List (List ℕ)) (place : ℕ) (name : List ℕ)
    → list_any (λ n. is_among n outputs) names ≡ false → slice_get names place ≡ Some name
    → is_among name outputs ≡ false
none_any outputs [] place name none at = absurd cc
none_any outputs (first ∷ names) zero name none at =
    let same : first ≡ name = cc in
    ap (λ (n : List ℕ). is_among n outputs) (sym same)
    ∙ first_any (is_among first outputs) (list_any (λ n. is_among n outputs) names) none where
      first_any : (a b : Bool) → (a || b) ≡ false → a ≡ false
      first_any false b is = refl
      first_any true b is = absurd cc
none_any outputs (first ∷ names) (suc place) name none at =
    none_any outputs names place name
    (second_any (is_among first outputs) (list_any (λ n. is_among n outputs) names) none) at

-- a session of a run is apart from the outputs of all sessions, and so of those before it
pub session_apart : (run : RunWords) (session : ℕ) → IsTrue (is_run run)
    → session < length run.sessions → IsApart run.out session (session_name run session)
session_apart run session holds below =
    let count = length run.sessions in
    let outputs = output_names run.out count in
    let none : list_any (λ n. is_among n outputs) (run.limits ∷ run.sessions) ≡ false =
    last_fails _ (list_any (λ n. is_among n outputs) (run.limits ∷ run.sessions)) holds in
    let free : is_among (session_name run session) outputs ≡ false =
    none_any outputs run.sessions session (session_name run session)
    (second_any (is_among run.limits outputs) (list_any (λ n. is_among n outputs) run.sessions)
    none)
    (there run.sessions session below) in
    let apart = apart_from_all run.out (session_name run session) count free in
    λ earlier first. apart.0 earlier (omega arith) where
      there : (names : List (List ℕ)) (place : ℕ) → place < length names
          → slice_get names place ≡ Some (get_or names place [])
      there names place inside = slice_get-get_or names place [] inside

-- the objects of the next of those that are left may be given back
pub next_owned : {S K : Type 0} (f : Opened S K → ObjectsValue) (run : RunWords)
    (before now : PortsValue) (opened left rest : List (Opened S K)) (session : ℕ)
    (next : Opened S K) → Went before now → left ≡ drop session opened → session < length opened
    → next ≡ get_or left 0 next → rest ≡ drop 1 left → EachOwn run before.texts (map f opened)
    → AreOwn run now.texts session (f next)
next_owned f run before now opened left rest session next went left_is below first rest_is own =
    let taken = first_left opened left rest session next left_is below first rest_is in
    are_own_later run before now session (f next) went
    (own session (f next) (map_at f opened session next taken.0))
