-- The names of outputs: they are apart, and what comes after the folder tells them.
use Rattle.std.proofs.Common.{◌≡◌, ◌≢◌, ℕ, zero, suc, ◌+◌, ◌/◌, ◌%◌, ◌<◌, ◌≤◌, ◌==◌, ◌&&◌, ◌||◌}
use Rattle.std.proofs.Common.{List, [], ◌∷◌, ◌++◌}
use Rattle.std.proofs.Common.{refl, sym, ap, ◌∙◌, arith, inl, inr, Bool, true, false, codes, map}
use Rattle.std.proofs.Math.Nat.{eq-or-lt_of_le}
use Rattle.std.proofs.lemmas.Bool.Decides.{nat_tests}
use Rattle.std.proofs.lemmas.Slice.Eq.{bytes_eq-Decides}
use Rattle.std.proofs.lemmas.List.{map-append}
use Rattle.std.specs.Str.{bytes_eq}
use Rattle.std.specs.List.{flat_map, range_with_len}
use Rattle.gate_files.specs.declared.names.OutputFiles.{OutputFiles}
use Rattle.gate_files.specs.declared.names.OutputFiles.TheVariants as files
use Rattle.gate_files.specs.Words.{FolderWords, venue_name, client_name, journal_name}
use Rattle.gate_files.specs.Words.{client_ending, journal_file, session_mark, session_outputs}
use Rattle.gate_files.specs.Words.{venue_ending}
use Rattle.gate_files.specs.Words.{IsApart, is_among, output_names}
use Rattle.gate_files.specs.CommandOf.{endings_of, files_of, file_names}
use Rattle.std.proofs.lemmas.Bool.{eqb-true, or_parts}

is_itself : (x : ℕ) → (x == x) ≡ true
is_itself x = grind (arith, nat_tests)

-- two texts with one front are equal where the rests are
pub bytes_eq-cancel : (front a b : List ℕ) → bytes_eq (front ++ a) (front ++ b) ≡ bytes_eq a b
bytes_eq-cancel [] a b = refl
bytes_eq-cancel (x ∷ front) a b = rw (is_itself x) (bytes_eq-cancel front a b)

pub same_name : (name : List ℕ) → bytes_eq name name ≡ true
same_name name = (bytes_eq-Decides name name).1 refl

not_both : (t u : Bool) → (t ≡ true → u ≡ true → ⊥) → (v : Bool) → (t && (u && v)) ≡ false
not_both true true apart v = absurd (apart refl refl)
not_both true false apart v = refl
not_both false u apart v = refl

never : (t u v : Bool) → v ≡ false → (t && (u && v)) ≡ false
never true true v none = none
never true false v none = refl
never false u v none = refl

-- the digits of two numbers aren't the same
digits_differ : (i j : ℕ) → i ≢ j → (48 + i / 10 == 48 + j / 10) ≡ true
    → (48 + i % 10 == 48 + j % 10) ≡ true → ⊥
digits_differ i j apart tens units =
    let same_tens : 48 + i / 10 ≡ 48 + j / 10 = eqb-true _ _ tens in
    let same_units : 48 + i % 10 ≡ 48 + j % 10 = eqb-true _ _ units in
    apart (omega arith)

-- two marks of sessions differ, whatever one ending follows them
marks_apart : (i j : ℕ) (ending : List ℕ) → i ≢ j
    → bytes_eq (session_mark i ++ ending) (session_mark j ++ ending) ≡ false
marks_apart i j ending apart =
    not_both (48 + i / 10 == 48 + j / 10) (48 + i % 10 == 48 + j % 10) (digits_differ i j apart)
    (bytes_eq ending ending)

-- and so do all marks with two endings that differ
endings_apart : (i j : ℕ) (one other : List ℕ) → bytes_eq one other ≡ false
    → bytes_eq (session_mark i ++ one) (session_mark j ++ other) ≡ false
endings_apart i j one other differ =
    never (48 + i / 10 == 48 + j / 10) (48 + i % 10 == 48 + j % 10) (bytes_eq one other) differ

venue_isnt_client_ending : (f : OutputFiles) → bytes_eq (venue_ending f) client_ending ≡ false
venue_isnt_client_ending files.Run = refl
venue_isnt_client_ending files.Cross = refl

client_isnt_venue_ending : (f : OutputFiles) → bytes_eq client_ending (venue_ending f) ≡ false
client_isnt_venue_ending files.Run = refl
client_isnt_venue_ending files.Cross = refl

-- no mark of a session begins a journal's name
mark_isnt_journal : (f : OutputFiles) (i : ℕ) (ending : List ℕ)
    → bytes_eq (session_mark i ++ ending) (journal_file f) ≡ false
mark_isnt_journal files.Run i ending = refl
mark_isnt_journal files.Cross i ending = refl

journal_isnt_mark : (f : OutputFiles) (i : ℕ) (ending : List ℕ)
    → bytes_eq (journal_file f) (session_mark i ++ ending) ≡ false
journal_isnt_mark files.Run i ending = refl
journal_isnt_mark files.Cross i ending = refl

pub venues_apart : (out : FolderWords) (i j : ℕ) → i ≢ j
    → bytes_eq (venue_name out i) (venue_name out j) ≡ false
venues_apart out i j apart =
    bytes_eq-cancel out.name _ _ ∙ marks_apart i j (venue_ending out.files) apart

pub clients_apart : (out : FolderWords) (i j : ℕ) → i ≢ j
    → bytes_eq (client_name out i) (client_name out j) ≡ false
clients_apart out i j apart =
    bytes_eq-cancel out.name _ _ ∙ marks_apart i j client_ending apart

pub venue_isnt_client : (out : FolderWords) (i j : ℕ)
    → bytes_eq (venue_name out i) (client_name out j) ≡ false
venue_isnt_client out i j =
    bytes_eq-cancel out.name _ _
    ∙ endings_apart i j (venue_ending out.files) client_ending (venue_isnt_client_ending out.files)

pub client_isnt_venue : (out : FolderWords) (i j : ℕ)
    → bytes_eq (client_name out i) (venue_name out j) ≡ false
client_isnt_venue out i j =
    bytes_eq-cancel out.name _ _
    ∙ endings_apart i j client_ending (venue_ending out.files) (client_isnt_venue_ending out.files)

pub venue_isnt_journal : (out : FolderWords) (i : ℕ)
    → bytes_eq (venue_name out i) (journal_name out) ≡ false
venue_isnt_journal out i =
    bytes_eq-cancel out.name _ (journal_file out.files)
    ∙ mark_isnt_journal out.files i (venue_ending out.files)

pub client_isnt_journal : (out : FolderWords) (i : ℕ)
    → bytes_eq (client_name out i) (journal_name out) ≡ false
client_isnt_journal out i =
    bytes_eq-cancel out.name _ (journal_file out.files)
    ∙ mark_isnt_journal out.files i client_ending

pub journal_isnt_venue : (out : FolderWords) (i : ℕ)
    → bytes_eq (journal_name out) (venue_name out i) ≡ false
journal_isnt_venue out i =
    bytes_eq-cancel out.name (journal_file out.files) _
    ∙ journal_isnt_mark out.files i (venue_ending out.files)

pub journal_isnt_client : (out : FolderWords) (i : ℕ)
    → bytes_eq (journal_name out) (client_name out i) ≡ false
journal_isnt_client out i =
    bytes_eq-cancel out.name (journal_file out.files) _
    ∙ journal_isnt_mark out.files i client_ending

none_of_three : (b c r : Bool) → (b || (c || r)) ≡ false → (b ≡ false) × (c ≡ false) × (r ≡ false)
none_of_three false false false is = (refl, refl, refl)
none_of_three false false true is = absurd cc
none_of_three false true r is = absurd cc
none_of_three true c r is = absurd cc

first_of : (b : Bool) → (b || false) ≡ false → b ≡ false
first_of false is = refl
first_of true is = absurd cc

-- a name that is none of these outputs is none of each session's, and none of the others
apart_from : (out : FolderWords) (name : List ℕ) (from count : ℕ) (tail : List (List ℕ))
    → is_among name (flat_map (session_outputs out) (range_with_len from count) ++ tail) ≡ false
    → ((session : ℕ) → from ≤ session → session < from + count
    → (bytes_eq name (venue_name out session) ≡ false)
    × (bytes_eq name (client_name out session) ≡ false))
    × (is_among name tail ≡ false)
apart_from out name from zero tail is = (λ session least most. absurd (omega arith), is)
apart_from out name from (suc count) tail is =
    let each = none_of_three (bytes_eq name (venue_name out from))
    (bytes_eq name (client_name out from)) _ is in
    let later = apart_from out name (from + 1) count tail each.2 in (
      λ session least most. elim (eq-or-lt_of_le least) [
        | inl here ↦ here_apart session here each.0 each.1
        | inr behind ↦ later.0 session (omega arith) (omega arith)
      ],
      later.1,
    ) where
      here_apart : (session : ℕ) → from ≡ session
          → bytes_eq name (venue_name out from) ≡ false
          → bytes_eq name (client_name out from) ≡ false
          → (bytes_eq name (venue_name out session) ≡ false)
          × (bytes_eq name (client_name out session) ≡ false)
      here_apart session here venue client = (
        ap (λ (n : ℕ). bytes_eq name (venue_name out n)) (sym here) ∙ venue,
        ap (λ (n : ℕ). bytes_eq name (client_name out n)) (sym here) ∙ client,
      )

-- a name that is no output of a run is apart from its sessions' outputs, and isn't the journal's
pub apart_from_all : (out : FolderWords) (name : List ℕ) (count : ℕ)
    → is_among name (output_names out count) ≡ false
    → IsApart out count name × (bytes_eq name (journal_name out) ≡ false)
apart_from_all out name count is =
    let both = apart_from out name 0 count (journal_name out ∷ []) is in
    (λ session below. both.0 session (omega arith) (omega arith), first_of _ both.1)

-- the names of the outputs are in the folder of outputs
outputs_within : (out : FolderWords) (sessions : List ℕ)
    → flat_map (session_outputs out) sessions ≡ map (λ rest. out.name ++ rest)
    (flat_map (files_of out.files) sessions)
outputs_within out [] = refl
outputs_within out (session ∷ sessions) =
    ap (λ (later : List (List ℕ)). venue_name out session ∷ client_name out session ∷ later)
    (outputs_within out sessions)

names_within : (out : FolderWords) (count : ℕ)
    → output_names out count ≡ map (λ rest. out.name ++ rest) (file_names out.files count)
names_within out count =
    ap (λ (all : List (List ℕ)). all ++ journal_name out ∷ [])
    (outputs_within out (range_with_len 0 count))
    ∙ sym (map-append (λ (rest : List ℕ). out.name ++ rest)
    (flat_map (files_of out.files) (range_with_len 0 count)) (journal_file out.files ∷ []))

among_within : (out rest : List ℕ) (files : List (List ℕ))
    → is_among (out ++ rest) (map (λ file. out ++ file) files) ≡ is_among rest files
among_within out rest [] = refl
among_within out rest (file ∷ files) =
    ap (λ (b : Bool). b || is_among (out ++ rest) (map (λ f. out ++ f) files))
    (bytes_eq-cancel out rest file)
    ∙ ap (λ (b : Bool). bytes_eq rest file || b) (among_within out rest files)

by_test : (name other : List ℕ) (t : Bool) → bytes_eq name other ≡ t → name ≢ other
    → bytes_eq name other ≡ false
by_test name other true test apart = absurd (apart ((bytes_eq-Decides name other).0 test))
by_test name other false test apart = test

among_none : (out name : List ℕ) (files : List (List ℕ)) → ((rest : List ℕ) → name ≢ out ++ rest)
    → is_among name (map (λ file. out ++ file) files) ≡ false
among_none out name [] outside = refl
among_none out name (file ∷ files) outside =
    ap (λ (b : Bool). b || is_among name (map (λ f. out ++ f) files))
    (by_test name (out ++ file) (bytes_eq name (out ++ file)) refl (outside file))
    ∙ among_none out name files outside

-- a name in the folder is an output where the rest is the name of one
pub is_output-within : (out : FolderWords) (name rest : List ℕ) (count : ℕ) → name ≡ out.name ++ rest
    → is_among rest (file_names out.files count) ≡ is_among name (output_names out count)
is_output-within out name rest count is =
    sym (ap (λ (n : List ℕ). is_among n (output_names out count)) is
    ∙ ap (is_among (out.name ++ rest)) (names_within out count)
    ∙ among_within out.name rest (file_names out.files count))

-- a name outside of the folder is no output
pub is_output-outside : (out : FolderWords) (name : List ℕ) (count : ℕ)
    → ((rest : List ℕ) → name ≢ out.name ++ rest)
    → is_among name (output_names out count) ≡ false
is_output-outside out name count outside =
    ap (is_among name) (names_within out count)
    ∙ among_none out.name name (file_names out.files count) outside

-- a name with a session's mark is one of its outputs where the rest is an ending of one
pub is_file-marked : (f : OutputFiles) (session : ℕ) (rest ending : List ℕ)
    → rest ≡ session_mark session ++ ending
    → is_among ending (endings_of f) ≡ is_among rest (files_of f session)
is_file-marked f session rest ending is =
    sym (ap (λ (n : List ℕ). is_among n (files_of f session)) is
    ∙ among_within (session_mark session) ending (endings_of f))

-- a name without it is none
pub is_file-unmarked : (f : OutputFiles) (session : ℕ) (rest : List ℕ)
    → ((ending : List ℕ) → rest ≢ session_mark session ++ ending)
    → is_among rest (files_of f session) ≡ false
is_file-unmarked f session rest unmarked =
    among_none (session_mark session) rest (endings_of f) unmarked

among_append : (rest : List ℕ) (xs ys : List (List ℕ)) → is_among rest xs ≡ false
    → is_among rest (xs ++ ys) ≡ is_among rest ys
among_append rest [] ys none = refl
among_append rest (x ∷ xs) ys none =
    let both = or_parts (bytes_eq rest x) (is_among rest xs) none in
    ap (λ (b : Bool). b || is_among rest (xs ++ ys)) both.0 ∙ among_append rest xs ys both.1

-- a search among the files goes on behind a session's that aren't it
pub files_behind : (f : OutputFiles) (rest : List ℕ) (session left : ℕ) (tail : List (List ℕ))
    → is_among rest (files_of f session) ≡ false
    → is_among rest (flat_map (files_of f) (range_with_len session (suc left)) ++ tail)
    ≡ is_among rest (flat_map (files_of f) (range_with_len (session + 1) left) ++ tail)
files_behind f rest session left tail none =
    among_append rest (files_of f session)
    (flat_map (files_of f) (range_with_len (session + 1) left) ++ tail) none
