-- A load as a run: its names, its files and its sets of screens.
use Rattle.std.proofs.Common.{◌≡◌, ℕ, zero, suc, ◌+◌, ◌<◌, ◌≤◌, List, [], ◌∷◌, length, map, refl, sym, ap, subst}
use Rattle.std.proofs.Common.{◌∙◌, arith, replicate, inl, inr}
use Rattle.std.proofs.Common.{Vec, Global, String, string_bytes}
use Rattle.std.proofs.lemmas.List.{length-map}
use Rattle.std.proofs.lemmas.List.FromFn.{length-range_with_len}
use Rattle.std.proofs.lemmas.Option.{slice_get_within}
use Rattle.std.specs.Prelude.{Option, Some, slice_get, ◌⊎◌}
use Rattle.std.specs.List.{AllByRecursion, range_with_len}
use Rattle.gate_ports.specs.Names.{Texts}
use Rattle.limit_table.proofs.OneAnswer.{not_both}
use Rattle.limit_table.specs.Files.{IsLimitFile}
use Rattle.limit_table.specs.declared.limits.Limits.{Limits}
use Rattle.make_load.specs.LoadLimits.{load_limits}
use Rattle.make_load.specs.Loads.{limit_text, session_texts}
use Rattle.make_load.specs.declared.summary.Asked.{Asked}
use Rattle.screen_kit.specs.Screens.{ScreenValue}
use Rattle.gate_files.specs.declared.names.Outputs.{Outputs}
use Rattle.gate_files.specs.declared.status.Status.{Status}
use Rattle.gate_files.specs.declared.status.Status.TheVariants as status
use Rattle.gate_files.specs.CommandOf.{IsAsked}
use Rattle.gate_program.specs.Loads.{HasLoadLimits, LoadWent, counts_of, input_of, load_folder}
use Rattle.gate_program.specs.Loads.{load_run}
use Rattle.gate_files.specs.Names.{AreNames}
use Rattle.gate_program.specs.Finish.{HasEnded}
use Rattle.gate_files.specs.Objects.{ObjectsValue, HasCreated}
use Rattle.gate_program.specs.Telling.{told_of}
use Rattle.gate_program.specs.declared.told.Told.{Told}
use Rattle.gate_program.specs.declared.told.Told.TheVariants as told
use Rattle.gate_program.specs.Run.{set_of}
use Rattle.gate_files.specs.Stages.{GivesNoLimits, HasUnmade}
use Rattle.gate_files.specs.Statuses.{number_of, told_text}
use Rattle.gate_files.specs.Words.{FolderWords, RunWords, session_most, venue_name}
use Rattle.gate_files.proofs.Early.{others_left}
use Rattle.gate_files.proofs.Lists.{map_at, mapped_at}
use Rattle.gate_program.proofs.Histories.{AdmissionLaws}
use Rattle.gate_program.proofs.Made.{FilesLaw, load_went}
use Rattle.gate_program.proofs.Ran.{silent, shown}

-- the names of outputs to venues, from one on
venues_from : (out : FolderWords) (start : ℕ) (outputs : List Outputs)
    → ((place : ℕ) (own : Outputs) → slice_get outputs place ≡ Some own
    → string_bytes own.venue ≡ venue_name out (start + place))
    → map (λ (o : Outputs). string_bytes o.venue) outputs
    ≡ map (venue_name out) (range_with_len start (length outputs))
venues_from out start [] each = refl
venues_from out start (own ∷ outputs) each =
    let first : string_bytes own.venue ≡ venue_name out start =
    each 0 own refl ∙ ap (venue_name out) (omega arith) in
    ap (λ (n : List ℕ). n ∷ map (λ (o : Outputs). string_bytes o.venue) outputs) first
    ∙ ap (λ (l : List (List ℕ)). venue_name out start ∷ l)
    (venues_from out (start + 1) outputs (λ place o is. each (suc place) o is
    ∙ ap (venue_name out) (omega arith)))

-- the names that a load's inputs go by
pub venues_are : (out : FolderWords) (count : ℕ) (outputs : List Outputs) (names : List (String Global))
    → AreNames out count outputs
    → map string_bytes names ≡ map (λ (o : Outputs). string_bytes o.venue) outputs
    → map string_bytes names ≡ map (venue_name out) (range_with_len 0 count)
venues_are out count outputs names are named =
    named
    ∙ venues_from out 0 outputs (λ place own is. (are.each place own is).venue
    ∙ ap (venue_name out) (omega arith))
    ∙ ap (λ (n : ℕ). map (venue_name out) (range_with_len 0 n)) are.many

-- there are as many of them
pub names_many : (out : FolderWords) (count : ℕ) (outputs : List Outputs) (names : List (String Global))
    → AreNames out count outputs
    → map string_bytes names ≡ map (λ (o : Outputs). string_bytes o.venue) outputs
    → length names ≡ count
names_many out count outputs names are named =
    sym (length-map names string_bytes) ∙ ap length named
    ∙ length-map outputs (λ (o : Outputs). string_bytes o.venue) ∙ are.many

-- the same of the names as they are handed on
module _ (out : FolderWords) (count : ℕ) (outputs first : List Outputs)
    (names second : List (String Global)) (are : AreNames out count outputs)
    (first_is : first ≡ outputs) (second_is : second ≡ names)
    (named : map string_bytes names ≡ map (λ (o : Outputs). string_bytes o.venue) first) where
  by_outputs : map string_bytes names ≡ map (λ (o : Outputs). string_bytes o.venue) outputs
  by_outputs = named ∙ ap (map (λ (o : Outputs). string_bytes o.venue)) first_is

  pub second_many : length second ≡ count
  second_many = ap length second_is ∙ names_many out count outputs names are by_outputs

  pub second_are : map string_bytes second ≡ map (venue_name out) (range_with_len 0 count)
  second_are =
      ap (map string_bytes) second_is ∙ venues_are out count outputs names are by_outputs

  pub names_for : (third : List Outputs) → third ≡ outputs → AreNames out (length second) third
  names_for third third_is =
      subst (λ (n : ℕ). AreNames out n third) (sym second_many)
      (subst (λ (all : List Outputs). AreNames out count all) (sym third_is) are)

-- a load has as many sessions as were asked for
pub load_many : (asked : Asked) → length (load_run asked).sessions ≡ asked.sessions
load_many asked =
    length-map (range_with_len 0 asked.sessions) (venue_name (load_run asked).out)
    ∙ length-range_with_len 0 asked.sessions

-- and as many files
pub files_many : (asked : Asked) (files : List (Vec ℕ Global))
    → map (λ own. own.items) files
    ≡ session_texts asked.number asked.sessions asked.orders
    → length files ≡ asked.sessions
files_many asked files are =
    sym (length-map files (λ own. own.items)) ∙ ap length are
    ∙ length-map (range_with_len 0 asked.sessions) _
    ∙ length-range_with_len 0 asked.sessions

text_from : (f : ℕ → List ℕ) (start count place : ℕ) (text : List ℕ)
    → slice_get (map f (range_with_len start count)) place ≡ Some text → text ≡ f (start + place)
text_from f start zero place text is = absurd cc
text_from f start (suc count) zero text is =
    let same : f start ≡ text = cc in sym same ∙ ap f (omega arith)
text_from f start (suc count) (suc place) text is =
    text_from f (start + 1) count place text is ∙ ap f (omega arith)

-- the file of a session is its input
pub file_is : (asked : Asked) (session : ℕ) (text : List ℕ)
    → slice_get (session_texts asked.number asked.sessions asked.orders) session ≡ Some text
    → text ≡ input_of asked session
file_is asked session text is =
    text_from _ 0 asked.sessions session text is ∙ ap (input_of asked) (omega arith)

abbrev empty : List ScreenValue
empty = []

none_at : (count place : ℕ) → place < count → set_of (replicate count empty) place ≡ []
none_at zero place below = absurd (omega arith)
none_at (suc count) zero below = refl
none_at (suc count) (suc place) below = none_at count place (omega arith)

-- there is no screen in any of so many empty sets
pub no_set : (sets : List (List ScreenValue)) (session : ℕ) → sets ≡ replicate session_most []
    → session < session_most → set_of sets session ≡ []
no_set sets session are below =
    ap (λ (all : List (List ScreenValue)). set_of all session) are
    ∙ none_at session_most session below

-- so many empty sets have no screen, by whatever each is
pub no_screens_in : {A : Type 0} (f : A → ScreenValue) (sets : List (Vec A Global)) (count : ℕ)
    → map (λ (set : Vec A Global). set.items) sets ≡ replicate count []
    → map (λ (set : Vec A Global). map f set.items) sets ≡ replicate count []
no_screens_in f [] zero are = refl
no_screens_in f [] (suc count) are = absurd cc
no_screens_in f (set ∷ sets) zero are = absurd cc
no_screens_in {A} f (set ∷ sets) (suc count) are =
    let none : set.items ≡ [] = cc in
    let rest : map (λ (own : Vec A Global). own.items) sets ≡ replicate count [] = cc in
    ap (λ (l : List A). map f l ∷ map (λ (own : Vec A Global). map f own.items) sets) none
    ∙ ap (λ (l : List (List ScreenValue)). [] ∷ l) (no_screens_in f sets count rest)

-- the limit file of a load gives limits, unless memory is wanting
pub gives_no_limits : (asked : Asked) (t0 : Option Texts) (r0 w0 : List ℕ → ℕ) (t1 : Option Texts)
    (r1 w1 : List ℕ → ℕ) (s : Status) → IsLimitFile limit_text load_limits
    → GivesNoLimits limit_text s
    → (number_of s ≡ 8)
    ⊎ LoadWent asked (shown t0 r0 w0 []) (shown t1 r1 w1 (told_text s)) (number_of s)
gives_no_limits asked t0 r0 w0 t1 r1 w1 (status.Limits why) file fault =
    absurd (not_both limit_text load_limits why file fault)
gives_no_limits asked t0 r0 w0 t1 r1 w1 status.Memory file fault = inl refl
gives_no_limits asked t0 r0 w0 t1 r1 w1 status.Done file fault = absurd fault
gives_no_limits asked t0 r0 w0 t1 r1 w1 status.Usage file fault = absurd fault
gives_no_limits asked t0 r0 w0 t1 r1 w1 status.CutShort file fault = absurd fault
gives_no_limits asked t0 r0 w0 t1 r1 w1 status.ReadFault file fault = absurd fault
gives_no_limits asked t0 r0 w0 t1 r1 w1 status.WriteFault file fault = absurd fault
gives_no_limits asked t0 r0 w0 t1 r1 w1 status.Unlawful file fault = absurd fault

-- an output of a load could not be made
unmade : (asked : Asked) (t0 : Option Texts) (r0 w0 : List ℕ → ℕ) (t1 : Option Texts)
    (r1 w1 : List ℕ → ℕ) (s : Status)
    → HasUnmade (load_run asked) (silent t0 r0 w0) (silent t1 r1 w1) s
    → (number_of s ≡ 8)
    ⊎ LoadWent asked (shown t0 r0 w0 []) (shown t1 r1 w1 (told_text s)) (number_of s)
unmade asked t0 r0 w0 t1 r1 w1 status.WriteFault (session, below, rose, left) = inr (inl (record {
  session = session;
  in_range = subst (λ (n : ℕ). session < n) (load_many asked) below;
  rose = rose;
  left = left;
  others = others_left (load_run asked) session t0 t1 below left;
  told = inl (refl, refl);
}))
unmade asked t0 r0 w0 t1 r1 w1 status.Memory fault = inl refl
unmade asked t0 r0 w0 t1 r1 w1 status.Done (session, below, fault, left) = absurd fault
unmade asked t0 r0 w0 t1 r1 w1 status.Usage (session, below, fault, left) = absurd fault
unmade asked t0 r0 w0 t1 r1 w1 (status.Limits why) (session, below, fault, left) = absurd fault
unmade asked t0 r0 w0 t1 r1 w1 status.CutShort (session, below, fault, left) = absurd fault
unmade asked t0 r0 w0 t1 r1 w1 status.ReadFault (session, below, fault, left) = absurd fault
unmade asked t0 r0 w0 t1 r1 w1 status.Unlawful (session, below, fault, left) = absurd fault

-- no file of a load has more bytes than this
pub files_small : FilesLaw → (asked : Asked) → IsAsked asked → (files : List (Vec ℕ Global))
    → map (λ own. own.items) files
    ≡ session_texts asked.number asked.sessions asked.orders
    → AllByRecursion (λ (own : Vec ℕ Global). length own.items ≤ 20000000) files
files_small law asked is files are = small files (λ place own at.
    subst (λ (text : List ℕ). length text ≤ 20000000)
    (sym (file_is asked place own.items (ap (λ l. slice_get l place) (sym are)
    ∙ map_at (λ own. own.items) files place own at)))
    (few place (omega (
      arith,
      slice_get_within files place own at,
      files_many asked files are,
      is.most,
    )))) where
      few : (session : ℕ) → session < 100 → length (input_of asked session) ≤ 20000000
      few session below =
          omega (
            arith,
            law.size asked.number asked.orders session is.most_orders below,
            is.most_orders,
          )

      small : (all : List (Vec ℕ Global))
          → ((place : ℕ) (own : Vec ℕ Global) → slice_get all place ≡ Some own
          → length own.items ≤ 20000000)
          → AllByRecursion (λ (own : Vec ℕ Global). length own.items ≤ 20000000) all
      small [] each = tt
      small (own ∷ all) each =
          (each 0 own refl, small all (λ place o at. each (suc place) o at))

-- a run of no limit file whose sessions go by these names is the load's
pub run_is : (run : RunWords) (asked : Asked) → run.limits ≡ [] → run.out ≡ load_folder
    → run.sessions ≡ map (venue_name load_folder) (range_with_len 0 asked.sessions)
    → run ≡ load_run asked
run_is run asked limits out sessions =
    ap (λ (l : List ℕ). as_run l run.out run.sessions) limits
    ∙ ap (λ (o : FolderWords). as_run [] o run.sessions) out
    ∙ ap (λ (names : List (List ℕ)). as_run [] load_folder names) sessions where
      as_run : List ℕ → FolderWords → List (List ℕ) → RunWords
      as_run l o names = record { limits = l; out = o; sessions = names }

-- what is left of each input is the session's file
pub lefts_are : {X : Type 0} (f : X → ObjectsValue) (left : X → List ℕ)
    → ((x : X) → (f x).left ≡ Some (left x)) → (all : List X) (asked : Asked)
    → map left all ≡ session_texts asked.number asked.sessions asked.orders
    → (session : ℕ) (own : ObjectsValue) → slice_get (map f all) session ≡ Some own
    → own.left ≡ Some (input_of asked session)
lefts_are f left same all asked are session own is =
    let (x, at, one) = mapped_at f all session own is in
    ap (λ (o : ObjectsValue). o.left) (sym one) ∙ same x
    ∙ ap (λ (text : List ℕ). Some text) (file_is asked session (left x)
    (ap (λ (l : List (List ℕ)). slice_get l session) (sym are) ∙ map_at left all session x at))

-- a load whose sessions got their outputs under its names, and ended, went its way
pub run_went : {S : Type 0} (faults : S → ℕ) → ((s : S) → faults s ≡ 0) → (asked : Asked)
    → IsAsked asked → FilesLaw → (limits : Limits) (sets : List (List ScreenValue))
    → sets ≡ replicate session_most [] → (what : Told)
    → what ≡ told.Summary asked (counts_of asked) → (run : RunWords) → run ≡ load_run asked
    → (t0 : Option Texts) (r0 w0 : List ℕ → ℕ) (t1 : Option Texts) (r1 w1 : List ℕ → ℕ)
    (t2 : Option Texts) (r2 w2 : List ℕ → ℕ) (objects : List ObjectsValue) (text : List ℕ)
    (status : ℕ) → HasCreated run (silent t0 r0 w0) (silent t1 r1 w1) objects
    → length objects ≡ asked.sessions
    → ((session : ℕ) (own : ObjectsValue) → slice_get objects session ≡ Some own
    → own.left ≡ Some (input_of asked session))
    → HasLoadLimits asked.sessions limits → AdmissionLaws
    → (status ≡ 8) ⊎ HasEnded faults (told_of what limits) limits sets run (silent t1 r1 w1)
    (silent t2 r2 w2) objects text status
    → (status ≡ 8) ⊎ LoadWent asked (shown t0 r0 w0 []) (shown t2 r2 w2 text) status
run_went faults none asked is law limits sets no_sets what what_is run run_is_load t0 r0 w0 t1 r1 w1
    t2 r2 w2 objects text status created many lefts limits_are laws (inl memory) = inl memory
run_went faults none asked is law limits sets no_sets what what_is run run_is_load t0 r0 w0 t1 r1 w1
    t2 r2 w2 objects text status created many lefts limits_are laws (inr ended) =
    load_went faults none asked is law limits sets
    (λ session below. no_set sets session no_sets (omega (arith, below, is.most)))
    t0 r0 w0 t1 r1 w1 t2 r2 w2 objects text status
    (subst (λ (r : RunWords). HasCreated r (silent t0 r0 w0) (silent t1 r1 w1) objects) run_is_load
    created) many lefts
    (subst (λ (r : RunWords). HasEnded faults (told_of (told.Summary asked (counts_of asked)) limits)
    limits sets r (silent t1 r1 w1) (silent t2 r2 w2) objects text status) run_is_load
    (subst (λ (w : Told). HasEnded faults (told_of w limits) limits sets run (silent t1 r1 w1)
    (silent t2 r2 w2) objects text status) what_is ended))
    limits_are laws (load_many asked)

-- the same of an output that could not be made
pub unmade_run : (asked : Asked) (run : RunWords) → run ≡ load_run asked
    → (t0 : Option Texts) (r0 w0 : List ℕ → ℕ) (t1 : Option Texts)
    (r1 w1 : List ℕ → ℕ) (s : Status) → HasUnmade run (silent t0 r0 w0) (silent t1 r1 w1) s
    → (number_of s ≡ 8)
    ⊎ LoadWent asked (shown t0 r0 w0 []) (shown t1 r1 w1 (told_text s)) (number_of s)
unmade_run asked run same t0 r0 w0 t1 r1 w1 s fault =
    unmade asked t0 r0 w0 t1 r1 w1 s
    (subst (λ (r : RunWords). HasUnmade r (silent t0 r0 w0) (silent t1 r1 w1) s) same fault)
