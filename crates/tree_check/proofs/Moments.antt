-- The steps of a history are the same of the sessions' events and of their reads.
use Rattle.std.proofs.Common.{◌≡◌, ℕ, ◌+◌, List, [], ◌∷◌, ◌++◌, map, refl, ap, ◌∙◌, Bool, true, false, cond, eqb, zero, suc, length, arith}
use Rattle.std.specs.Prelude.{filter}
use Rattle.std.specs.List.{flat_map, enumerate_from}
use Rattle.std.proofs.lemmas.List.{map-append}
use Rattle.std.proofs.lemmas.List.Elements.{filter-append}
use Rattle.risk_board.specs.declared.hand.Line.{Line}
use Rattle.risk_board.specs.History.{Event}
use Rattle.risk_board.specs.History.Event.{Posted, Saw}
use Rattle.admit_core.specs.Admitted.{Moment, reads_at, all_reads_at, moments_from, moments}
use Rattle.tree_check.specs.declared.read_at.ReadAt.{ReadAt}
use Rattle.tree_check.specs.Reads.{own_reads, reads_in, moments_at, moments_with, is_at, read_moment}
use Rattle.tree_check.specs.Reads.{line_moment, moments_by}
use Rattle.trail_replay.specs.Reads.{list_below}
use Rattle.tree_check.proofs.Below.{same_below}

kept_or_not : (b : Bool) (read : ReadAt) (reads : List ReadAt) (rest : List Moment)
    → map read_moment reads ≡ rest
    → map read_moment (cond b (read ∷ reads) reads) ≡ cond b (read_moment read ∷ rest) rest
kept_or_not true read reads rest same = ap (λ r. read_moment read ∷ r) same
kept_or_not false read reads rest same = same

-- of one session
own_at : (session place : ℕ) (events : List Event)
    → moments_at place (own_reads session events) ≡ reads_at session place events
own_at session place [] = refl
own_at session place (Posted value ∷ events) = own_at session place events
own_at session place (Saw stamp at value ∷ events) =
    kept_or_not (eqb at place) (record { session = session; place = at; value = value })
    (filter (is_at place) (own_reads session events)) (reads_at session place events)
    (own_at session place events)

-- of all sessions
all_at : (place : ℕ) (numbered : List (ℕ × List Event))
    → moments_at place (flat_map (λ own. own_reads own.0 own.1) numbered)
    ≡ all_reads_at place numbered
all_at place [] = refl
all_at place (own ∷ numbered) =
    let rest = flat_map (λ (o : ℕ × List Event). own_reads o.0 o.1) numbered in
    ap (map read_moment) (filter-append (is_at place) (own_reads own.0 own.1) rest)
    ∙ map-append read_moment (filter (is_at place) (own_reads own.0 own.1))
    (filter (is_at place) rest)
    ∙ ap (λ m. m ++ moments_at place rest) (own_at own.0 place own.1)
    ∙ ap (λ m. reads_at own.0 place own.1 ++ m) (all_at place numbered)

along : (place : ℕ) (lines : List Line) (events : List (List Event))
    → moments_with place lines (reads_in events)
    ≡ moments_from place lines (enumerate_from 0 events)
along place [] events = all_at place (enumerate_from 0 events)
along place (line ∷ lines) events =
    ap (λ m. m ++ line_moment line ∷ moments_with (place + 1) lines (reads_in events))
    (all_at place (enumerate_from 0 events))
    ∙ ap (λ m. all_reads_at place (enumerate_from 0 events) ++ line_moment line ∷ m)
    (along (place + 1) lines events)

pub moments-reads_in : (lines : List Line) (events : List (List Event))
    → moments_with 0 lines (reads_in events) ≡ moments lines events
moments-reads_in lines events = along 0 lines events

-- the first of what is given for each number
below_cons : {A : Type 0} (f : ℕ → A) (n : ℕ)
    → list_below f (suc n) ≡ f 0 ∷ list_below (λ k. f (suc k)) n
below_cons f zero = refl
below_cons f (suc n) = ap (λ xs. xs ++ f (suc n) ∷ []) (below_cons f n)

-- the reads by their places make the steps of the history
by_from : (place : ℕ) (lines : List Line) (reads : List ReadAt)
    → moments_by lines (list_below (λ k. filter (is_at (place + k)) reads) (suc (length lines)))
    ≡ moments_with place lines reads
by_from place [] reads =
    ap (λ n. moments_at n reads) (let same : place + 0 ≡ place = omega arith in same)
by_from place (line ∷ lines) reads =
    ap (moments_by (line ∷ lines))
    (below_cons (λ k. filter (is_at (place + k)) reads) (suc (length lines)))
    ∙ ap (λ n. moments_at n reads ++ line_moment line
    ∷ moments_by lines (list_below (λ k. filter (is_at (place + suc k)) reads) (suc (length lines))))
    (let same : place + 0 ≡ place = omega arith in same)
    ∙ ap (λ m. moments_at place reads ++ line_moment line ∷ m)
    (ap (moments_by lines) (same_below (λ k. filter (is_at (place + suc k)) reads)
    (λ k. filter (is_at (place + 1 + k)) reads) (suc (length lines))
    (λ k below. ap (λ n. filter (is_at n) reads)
    (let same : place + suc k ≡ place + 1 + k = omega arith in same)))
    ∙ by_from (place + 1) lines reads)

pub by_places : (lines : List Line) (reads : List ReadAt)
    → moments_by lines (list_below (λ place. filter (is_at place) reads) (length lines + 1))
    ≡ moments_with 0 lines reads
by_places lines reads =
    ap (moments_by lines)
    (ap (list_below (λ place. filter (is_at place) reads))
    (let one : length lines + 1 ≡ suc (length lines) = omega arith in one)
    ∙ same_below (λ k. filter (is_at k) reads) (λ k. filter (is_at (0 + k)) reads)
    (suc (length lines)) (λ k below. ap (λ n. filter (is_at n) reads)
    (let same : k ≡ 0 + k = omega arith in same)))
    ∙ by_from 0 lines reads
