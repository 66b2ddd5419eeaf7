-- The steps of one session among the reads of all at a place are its own reads there.
use Rattle.std.proofs.Common.{◌≡◌, ◌≢◌, ℕ, zero, suc, ◌+◌, ◌<◌, ◌==◌, List, [], ◌∷◌, ◌++◌}
use Rattle.std.proofs.Common.{ap, ◌∙◌, refl, arith, Bool, true, false, cond, eq-eqb}
use Rattle.std.specs.Prelude.{Some, slice_get}
use Rattle.std.specs.List.{enumerate_from}
use Rattle.std.proofs.lemmas.List.{append-nil}
use Rattle.std.proofs.lemmas.List.Elements.{filter-append}
use Rattle.std.proofs.lemmas.Bool.{ne_eqb}
use Rattle.risk_board.specs.History.{Event}
use Rattle.risk_board.specs.History.Event.{Posted, Saw}
use Rattle.admit_core.specs.Admitted.{Moment, reads_at, all_reads_at, session_of, steps_of}
use Rattle.admit_core.specs.Admitted.Moment.{Reads}

pub steps_of-append : (session : ℕ) (first later : List Moment)
    → steps_of session (first ++ later) ≡ steps_of session first ++ steps_of session later
steps_of-append session first later =
    filter-append (λ moment. session_of moment == session) first later

-- a session's reads are steps of that session, and of no other
reads_of_own : (session place : ℕ) (own : List Event)
    → steps_of session (reads_at session place own) ≡ reads_at session place own
reads_of_own session place [] = refl
reads_of_own session place (Posted value ∷ own) = reads_of_own session place own
reads_of_own session place (Saw stamp at value ∷ own) =
    by_test (at == place) (reads_of_own session place own)
  where
    later : List Moment
    later = reads_at session place own

    by_test : (here : Bool) → steps_of session later ≡ later
        → steps_of session (cond here (Reads session value ∷ later) later)
        ≡ cond here (Reads session value ∷ later) later
    by_test true are =
        ap (λ b. cond b (Reads session value ∷ steps_of session later) (steps_of session later))
        (eq-eqb session session refl)
        ∙ ap (λ s. Reads session value ∷ s) are
    by_test false are = are

reads_of_other : (session other place : ℕ) (own : List Event) → other ≢ session
    → steps_of session (reads_at other place own) ≡ []
reads_of_other session other place [] apart = refl
reads_of_other session other place (Posted value ∷ own) apart =
    reads_of_other session other place own apart
reads_of_other session other place (Saw stamp at value ∷ own) apart =
    by_test (at == place) (reads_of_other session other place own apart)
  where
    later : List Moment
    later = reads_at other place own

    by_test : (here : Bool) → steps_of session later ≡ []
        → steps_of session (cond here (Reads other value ∷ later) later) ≡ []
    by_test true none =
        ap (λ b. cond b (Reads other value ∷ steps_of session later) (steps_of session later))
        (ne_eqb other session apart)
        ∙ none
    by_test false none = none

-- among the reads of sessions with higher numbers none is the session's
reads_of_higher : (session place number : ℕ) (events : List (List Event)) → session < number
    → steps_of session (all_reads_at place (enumerate_from number events)) ≡ []
reads_of_higher session place number [] below = refl
reads_of_higher session place number (own ∷ events) below =
    let apart : number ≢ session = omega arith in
    let later = all_reads_at place (enumerate_from (number + 1) events) in
    steps_of-append session (reads_at number place own) later
    ∙ ap (λ s. s ++ steps_of session later) (reads_of_other session number place own apart)
    ∙ reads_of_higher session place (number + 1) events (omega arith)

-- among the reads of all sessions those of one are its own
pub reads_of_session : (session place number away : ℕ) (events : List (List Event))
    (own : List Event)
    → session ≡ number + away → slice_get events away ≡ Some own
    → steps_of session (all_reads_at place (enumerate_from number events))
    ≡ reads_at session place own
reads_of_session session place number away [] own same is = absurd (cc)
reads_of_session session place number zero (first ∷ events) own same is =
    let later = all_reads_at place (enumerate_from (number + 1) events) in
    let here : number ≡ session = omega arith in
    let first_is : first ≡ own = cc in
    steps_of-append session (reads_at number place first) later
    ∙ ap (λ s. steps_of session (reads_at number place first) ++ s)
    (reads_of_higher session place (number + 1) events (omega arith))
    ∙ append-nil (steps_of session (reads_at number place first))
    ∙ ap (λ n. steps_of session (reads_at n place first)) here
    ∙ ap (λ e. steps_of session (reads_at session place e)) first_is
    ∙ reads_of_own session place own
reads_of_session session place number (suc away) (first ∷ events) own same is =
    let later = all_reads_at place (enumerate_from (number + 1) events) in
    let apart : number ≢ session = omega arith in
    steps_of-append session (reads_at number place first) later
    ∙ ap (λ s. s ++ steps_of session later) (reads_of_other session number place first apart)
    ∙ reads_of_session session place (number + 1) away events own (omega arith) is
