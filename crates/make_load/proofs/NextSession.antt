-- One session more of a load.
use Rattle.std.proofs.Common.{◌≡◌, ℕ, ◌+◌, ◌-◌, ◌*◌, ◌<◌, ◌≤◌, zero, suc, List, [], ◌∷◌, ◌++◌, sym}
use Rattle.std.proofs.Common.{ap, ◌∙◌, arith, codes, map, append_assoc, Vec, Global}
use Rattle.std.specs.List.{range_with_len, sum_by}
use Rattle.std.proofs.lemmas.List.{map-append, append-nil}
use Rattle.std.proofs.lemmas.List.Sums.{sum_by-append}
use Rattle.make_load.specs.declared.load.Load.{Load}
use Rattle.make_load.specs.declared.session.SessionFile.{SessionFile}
use Rattle.make_load.specs.Loads.{limit_text, session_text, session_texts}
use Rattle.make_load.specs.Loads.{count_in_session, count_in_load}

-- the numbers from one on are it and those behind it
next_number : (from left rest : ℕ) → left ≡ rest + 1
    → range_with_len from left ≡ from ∷ range_with_len (from + 1) rest
next_number from zero rest is = absurd (omega (arith, is))
next_number from (suc left) rest is =
    let same : left ≡ rest = omega (arith, is) in
    ap (λ n. from ∷ range_with_len (from + 1) n) same

-- the files so far, as lists
abbrev pub files_of : List (Vec ℕ Global) → List (List ℕ)
files_of files = map (λ own. own.items) files

-- After so many sessions: the files and the counts of those that are left are what all of them still
-- lack.
pub record IsLoadSoFar (number sessions orders session : ℕ) (load : Load) : Type 0 where
  pub limits : load.limits.items ≡ limit_text
  pub files : files_of load.sessions.items
      ++ map (session_text number orders) (range_with_len session (sessions - session))
      ≡ session_texts number sessions orders
  pub new : load.new + sum_by (count_in_session (codes "D") number orders)
      (range_with_len session (sessions - session)) ≡ count_in_load (codes "D") number sessions orders
  pub cancel : load.cancel + sum_by (count_in_session (codes "F") number orders)
      (range_with_len session (sessions - session)) ≡ count_in_load (codes "F") number sessions orders
  pub report : load.report + sum_by (count_in_session (codes "8") number orders)
      (range_with_len session (sessions - session)) ≡ count_in_load (codes "8") number sessions orders
  pub new_few : load.new ≤ 10000 * session
  pub cancel_few : load.cancel ≤ 10000 * session
  pub report_few : load.report ≤ 20000 * session

-- what one session's file has
pub record IsFileOf (number orders session : ℕ) (file : SessionFile) : Type 0 where
  pub text : file.bytes.items ≡ session_text number orders session
  pub new : file.new ≡ count_in_session (codes "D") number orders session
  pub cancel : file.cancel ≡ count_in_session (codes "F") number orders session
  pub report : file.report ≡ count_in_session (codes "8") number orders session
  pub new_few : file.new ≤ 10000
  pub cancel_few : file.cancel ≤ 10000
  pub report_few : file.report ≤ 2 * 10000

-- a count of one session more
counted_more : (f : ℕ → ℕ) (session left rest before own : ℕ) → left ≡ rest + 1
    → own ≡ f session
    → (before + own) + sum_by f (range_with_len (session + 1) rest)
    ≡ before + sum_by f (range_with_len session left)
counted_more f session left rest before own is same =
    omega (
      arith,
      same,
      ap (sum_by f) (next_number session left rest is),
      sum_by-append f (session ∷ []) (range_with_len (session + 1) rest),
    )

pub session_more : (number sessions orders session : ℕ) (load now : Load) (file : SessionFile)
    → session < sessions → IsLoadSoFar number sessions orders session load
    → IsFileOf number orders session file
    → now.limits.items ≡ load.limits.items
    → now.sessions.items ≡ load.sessions.items ++ file.bytes ∷ []
    → now.new ≡ load.new + file.new → now.cancel ≡ load.cancel + file.cancel
    → now.report ≡ load.report + file.report
    → IsLoadSoFar number sessions orders (session + 1) now
session_more number sessions orders session load now file below h own limits files new cancel report =
    let left = sessions - session in
    let rest = sessions - (session + 1) in
    let is : left ≡ rest + 1 = omega (arith, below) in
    let texts = session_text number orders in
    let behind = map texts (range_with_len (session + 1) rest) in
    record {
      limits = limits ∙ h.limits;
      files = ap (λ fs. files_of fs ++ behind) files
          ∙ ap (λ t. t ++ behind)
          (map-append (λ own. own.items) load.sessions.items (file.bytes ∷ []))
          ∙ append_assoc (files_of load.sessions.items) (file.bytes.items ∷ []) behind
          ∙ ap (λ t. files_of load.sessions.items ++ t ∷ behind) own.text
          ∙ ap (λ r. files_of load.sessions.items ++ map texts r) (sym (next_number session left rest is))
          ∙ h.files;
      new = omega (
        arith,
        new,
        h.new,
        counted_more (count_in_session (codes "D") number orders) session left rest load.new
            file.new is own.new,
      );
      cancel = omega (
        arith,
        cancel,
        h.cancel,
        counted_more (count_in_session (codes "F") number orders) session left rest load.cancel
            file.cancel is own.cancel,
      );
      report = omega (
        arith,
        report,
        h.report,
        counted_more (count_in_session (codes "8") number orders) session left rest load.report
            file.report is own.report,
      );
      new_few = omega (arith, new, h.new_few, own.new_few);
      cancel_few = omega (arith, cancel, h.cancel_few, own.cancel_few);
      report_few = omega (arith, report, h.report_few, own.report_few);
    }

none_left : (from left : ℕ) → left ≡ 0 → range_with_len from left ≡ []
none_left from left none = ap (range_with_len from) none

-- The whole load.
pub record IsWholeLoad (number sessions orders : ℕ) (load : Load) : Type 0 where
  pub limits : load.limits.items ≡ limit_text
  pub files : files_of load.sessions.items ≡ session_texts number sessions orders
  pub new : load.new ≡ count_in_load (codes "D") number sessions orders
  pub cancel : load.cancel ≡ count_in_load (codes "F") number sessions orders
  pub report : load.report ≡ count_in_load (codes "8") number sessions orders

pub all_sessions : (number sessions orders session : ℕ) (load : Load) → session ≡ sessions
    → IsLoadSoFar number sessions orders session load → IsWholeLoad number sessions orders load
all_sessions number sessions orders session load whole h =
    let none = none_left session (sessions - session) (omega (arith, whole)) in
    record {
      limits = h.limits;
      files = sym (append-nil (files_of load.sessions.items))
          ∙ ap (λ r. files_of load.sessions.items ++ map (session_text number orders) r) (sym none)
          ∙ h.files;
      new = omega (arith, h.new, ap (sum_by (count_in_session (codes "D") number orders)) none);
      cancel = omega (arith, h.cancel, ap (sum_by (count_in_session (codes "F") number orders)) none);
      report = omega (arith, h.report, ap (sum_by (count_in_session (codes "8") number orders)) none);
    }
