-- A state that each post and each read of a legal history changes: what every post keeps of it and of
-- the array, and every read of the whole array, holds at each moment. For any fold of the array.
use Rattle.std.proofs.Common.{◌≡◌, ℕ, zero, suc, ◌+◌, ◌==◌, List, [], ◌∷◌, ◌++◌, length, take, fold}
use Rattle.std.proofs.Common.{refl, ap, sym, ◌∙◌, subst, arith, replicate, Bool, true, false, cond}
use Rattle.std.proofs.Common.{append_assoc, add-zero, zero-add, length-append}
use Rattle.std.specs.Prelude.{Some, slice_get}
use Rattle.std.specs.List.{slice_set, enumerate_from, AllByRecursion}
use Rattle.std.proofs.lemmas.List.Sums.{fold-append}
use Rattle.std.proofs.lemmas.List.{append-nil}
use Rattle.std.proofs.Math.Seq.{take-append_seam}
use Rattle.std.proofs.lemmas.Bool.{eqb-true}
use Rattle.risk_board.specs.declared.hand.Line.{Line}
use Rattle.risk_board.specs.History.{Event, array_after, ReadsFit, IsLegal}
use Rattle.risk_board.specs.History.Event.{Posted, Saw}
use Rattle.admit_core.specs.Admitted.{Moment, reads_at, all_reads_at, moments_from, moments}
use Rattle.admit_core.specs.Admitted.Moment.{Posts, Reads}

-- reads of this value, and no post
abbrev AreReadsOf : ℕ → List Moment → Type 0
AreReadsOf value [] = Unit {0}
AreReadsOf value (Posts session posted ∷ later) = ⊥
AreReadsOf value (Reads session seen ∷ later) = (seen ≡ value) × AreReadsOf value later

AreReadsOf-append : (value : ℕ) (first later : List Moment) → AreReadsOf value first
    → AreReadsOf value later → AreReadsOf value (first ++ later)
AreReadsOf-append value [] later a b = b
AreReadsOf-append value (Posts session posted ∷ first) later a b = absurd a
AreReadsOf-append value (Reads session seen ∷ first) later a b =
    (a.0, AreReadsOf-append value first later a.1 b)

module _ (whole : List ℕ → ℕ) (unit components : ℕ) where
  abbrev array : List Line → List ℕ
  array lines = array_after unit components lines

  -- a read at the place is of the whole array there, and one at another place isn't among these
  read_of_place : (place session at value : ℕ) (lines : List Line) (later : List Moment)
      → value ≡ whole (array (take at lines))
      → AreReadsOf (whole (array (take place lines))) later
      → (here : Bool) → (at == place) ≡ here
      → AreReadsOf (whole (array (take place lines))) (cond here (Reads session value ∷ later) later)
  read_of_place place session at value lines later fits are true is =
      (fits ∙ ap (λ n. whole (array (take n lines))) (eqb-true at place is), are)
  read_of_place place session at value lines later fits are false is = are

  -- the reads of a session at a place are of the whole array there
  reads_of_place : (place session made : ℕ) (lines : List Line) (own : List Event)
      → ReadsFit whole unit components lines session made own
      → AreReadsOf (whole (array (take place lines))) (reads_at session place own)
  reads_of_place place session made lines [] fit = tt
  reads_of_place place session made lines (Posted value ∷ own) fit =
      reads_of_place place session (made + 1) lines own fit
  reads_of_place place session made lines (Saw stamp at value ∷ own) fit =
      read_of_place place session at value lines (reads_at session place own) fit.1
      (reads_of_place place session made lines own fit.3) (at == place) refl

  -- each numbered session's reads fit
  abbrev AllFit : List Line → List (ℕ × List Event) → Type 0
  AllFit lines numbered =
      AllByRecursion
      (λ (own : ℕ × List Event). ReadsFit whole unit components lines own.0 0 own.1) numbered

  all_reads_of_place : (place : ℕ) (lines : List Line) (numbered : List (ℕ × List Event))
      → AllFit lines numbered
      → AreReadsOf (whole (array (take place lines))) (all_reads_at place numbered)
  all_reads_of_place place lines [] fit = tt
  all_reads_of_place place lines (own ∷ numbered) fit =
      AreReadsOf-append _ (reads_at own.0 place own.1) (all_reads_at place numbered)
      (reads_of_place place own.0 0 lines own.1 fit.0)
      (all_reads_of_place place lines numbered fit.1)

  array-line : (before : List Line) (line : Line)
      → array (before ++ line ∷ []) ≡ slice_set (array before) line.session line.value
  array-line before line =
      fold-append (λ values (l : Line). slice_set values l.session l.value)
      (replicate components unit) before (line ∷ [])

  -- the reads at the end of some lines
  reads_after : (before rest : List Line) (numbered : List (ℕ × List Event))
      → AllFit (before ++ rest) numbered
      → AreReadsOf (whole (array before)) (all_reads_at (length before) numbered)
  reads_after before rest numbered fit =
      let P : List Line → Type 0 =
      λ lines. AreReadsOf (whole (array lines)) (all_reads_at (length before) numbered) in
      subst P (take-append_seam before rest)
      (all_reads_of_place (length before) (before ++ rest) numbered fit)

  -- each session's reads fit, numbered from a number on
  fit_from : (number : ℕ) (lines : List Line) (events : List (List Event))
      → ((session : ℕ) (own : List Event) → slice_get events session ≡ Some own
      → ReadsFit whole unit components lines (number + session) 0 own)
      → AllFit lines (enumerate_from number events)
  fit_from number lines [] fit = tt
  fit_from number lines (own ∷ events) fit =
      let P : ℕ → Type 0 = λ n. ReadsFit whole unit components lines n 0 own in (
        subst P (add-zero number) (fit 0 own refl),
        fit_from (number + 1) lines events (λ session other at.
            let Q : ℕ → Type 0 = λ n. ReadsFit whole unit components lines n 0 other in
            let same : number + suc session ≡ number + 1 + session = omega arith in
            subst Q same (fit (suc session) other at)),
      )

  -- a state that each step changes, and what is kept of it and the array
  module _ (S : Type 0) (step : S → Moment → S) (Keeps : S → List ℕ → Type 0) (Good : S → Type 0)
      (good : (state : S) (values : List ℕ) → Keeps state values → Good state)
      (posts : (state : S) (values : List ℕ) (session value : ℕ) → Keeps state values
      → Keeps (step state (Posts session value)) (slice_set values session value))
      (reads : (state : S) (values : List ℕ) (session : ℕ) → Keeps state values
      → Keeps (step state (Reads session (whole values))) values) where
    abbrev Stays : S → List Moment → Type 0
    Stays state [] = Good state
    Stays state (moment ∷ later) = Good state × Stays (step state moment) later

    Stays-take : (later : List Moment) (state : S) (count : ℕ) → Stays state later
        → Good (fold step state (take count later))
    Stays-take [] state zero stays = stays
    Stays-take [] state (suc count) stays = stays
    Stays-take (moment ∷ later) state zero stays = stays.0
    Stays-take (moment ∷ later) state (suc count) stays =
        Stays-take later (step state moment) count stays.1

    -- reads at one place, and then what follows
    over_reads : (values : List ℕ) (passed later : List Moment) → AreReadsOf (whole values) passed
        → ((state : S) → Keeps state values → Stays state later)
        → (state : S) → Keeps state values → Stays state (passed ++ later)
    over_reads values [] later are go state keeps = go state keeps
    over_reads values (Posts session value ∷ passed) later are go state keeps = absurd are
    over_reads values (Reads session value ∷ passed) later are go state keeps =
        let P : ℕ → Type 0 = λ v. Keeps (step state (Reads session v)) values in (
          good state values keeps,
          over_reads values passed later are.1 go (step state (Reads session value))
              (subst P (sym are.0) (reads state values session keeps)),
        )

    -- from each place on, whatever the lines before it made of the array
    stays_from : (before rest : List Line) (numbered : List (ℕ × List Event))
        → AllFit (before ++ rest) numbered → (state : S) → Keeps state (array before)
        → Stays state (moments_from (length before) rest numbered)
    stays_from before [] numbered fit state keeps =
        let Q : List Moment → Type 0 = λ passed. Stays state passed in
        subst Q (append-nil (all_reads_at (length before) numbered))
        (over_reads (array before) (all_reads_at (length before) numbered) []
        (reads_after before [] numbered fit)
        (λ now kept. good now (array before) kept) state keeps)
    stays_from before (line ∷ rest) numbered fit state keeps =
        let seen : List Line = before ++ line ∷ [] in
        let more : AllFit (seen ++ rest) numbered =
        subst (λ (lines : List Line). AllFit lines numbered)
        (sym (append_assoc before (line ∷ []) rest)) fit in
        let next : (now : S) → Keeps now (array before)
        → Stays (step now (Posts line.session line.value))
        (moments_from (length before + 1) rest numbered) = λ now kept.
        subst (λ (n : ℕ). Stays (step now (Posts line.session line.value))
        (moments_from n rest numbered)) (length-append before (line ∷ []))
        (stays_from seen rest numbered more (step now (Posts line.session line.value))
        (subst (λ values. Keeps (step now (Posts line.session line.value)) values)
        (sym (array-line before line))
        (posts now (array before) line.session line.value kept))) in
        over_reads (array before) (all_reads_at (length before) numbered)
        (Posts line.session line.value ∷ moments_from (length before + 1) rest numbered)
        (reads_after before (line ∷ rest) numbered fit)
        (λ now kept. (good now (array before) kept, next now kept)) state keeps

    pub holds_at_each : (lines : List Line) (events : List (List Event)) (start : S)
        → IsLegal whole unit components lines events
        → Keeps start (replicate components unit) → (count : ℕ)
        → Good (fold step start (take count (moments lines events)))
    holds_at_each lines events start legal keeps count =
        let fit : AllFit lines (enumerate_from 0 events) =
        fit_from 0 lines events (λ session own at.
        let P : ℕ → Type 0 = λ n. ReadsFit whole unit components lines n 0 own in
        subst P (sym (zero-add session)) (legal.each session own at).reads) in
        Stays-take (moments lines events) start count
        (stays_from [] lines (enumerate_from 0 events) fit start keeps)
