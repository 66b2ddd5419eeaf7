-- The lines of one session among those of others.
use Rattle.std.proofs.Common.{◌≡◌, ◌≢◌, ℕ, ◌+◌, ◌<◌, ◌≤◌, ◌==◌, List, [], ◌∷◌, ◌++◌, length}
use Rattle.std.proofs.Common.{take, drop, refl, ap, sym, ◌∙◌, arith, cond}
use Rattle.std.proofs.Common.{eq-eqb, length-take}
use Rattle.std.proofs.lemmas.Bool.{ne_eqb}
use Rattle.std.proofs.lemmas.List.{take-append-drop, take-take}
use Rattle.std.proofs.lemmas.List.Elements.{filter-append}
use Rattle.std.specs.Prelude.{slice_index}
use Rattle.std.proofs.lemmas.List.{take_more}
use Rattle.risk_board.specs.declared.hand.Line.{Line}
use Rattle.risk_board.specs.History.{own_lines, lines_of}
use Rattle.trail_replay.specs.Blocks.{lines_between}

-- the line of a value
abbrev pub line : ℕ → ℕ → ℕ → Line
line session index value = record { session = session; index = index; value = value }

pub lines_of-append : (session : ℕ) (xs ys : List Line)
    → lines_of session (xs ++ ys) ≡ lines_of session xs ++ lines_of session ys
lines_of-append session xs ys = filter-append (λ l. l.session == session) xs ys

-- a session's own lines are all its own
pub lines_of-own : (session index : ℕ) (values : List ℕ)
    → lines_of session (own_lines session index values) ≡ own_lines session index values
lines_of-own session index [] = refl
lines_of-own session index (x ∷ values) =
    let later = own_lines session (index + 1) values in
    let own = line session index x in
    ap (λ b. cond b (own ∷ lines_of session later) (lines_of session later))
    (eq-eqb session session refl)
    ∙ ap (λ s. own ∷ s) (lines_of-own session (index + 1) values)

-- and none is another's
pub lines_of-other : (session other index : ℕ) (values : List ℕ) → other ≢ session
    → lines_of session (own_lines other index values) ≡ []
lines_of-other session other index [] apart = refl
lines_of-other session other index (x ∷ values) apart =
    let later = own_lines other (index + 1) values in
    ap (λ b. cond b (line other index x ∷ lines_of session later) (lines_of session later))
    (ne_eqb other session apart)
    ∙ lines_of-other session other (index + 1) values apart

pub own_lines-append : (session index : ℕ) (xs ys : List ℕ)
    → own_lines session index (xs ++ ys)
    ≡ own_lines session index xs ++ own_lines session (index + length xs) ys
own_lines-append session index [] ys = ap (λ n. own_lines session n ys) (omega arith)
own_lines-append session index (x ∷ xs) ys =
    let first = own_lines session (index + 1) xs in
    ap (λ s. line session index x ∷ s)
    (own_lines-append session (index + 1) xs ys
    ∙ ap (λ n. first ++ own_lines session n ys) (omega arith))

-- the first posts, and those after them
pub own_lines-between : (session before upto : ℕ) (values : List ℕ) → before ≤ upto
    → before ≤ length values
    → own_lines session 1 (take before values) ++ lines_between session before upto values
    ≡ own_lines session 1 (take upto values)
own_lines-between session before upto values le within =
    let all : List ℕ = take upto values in
    let first : take before all ≡ take before values = take-take before upto values le in
    let long : length (take before values) ≡ before =
    omega (arith, length-take before values) in
    ap (λ n. own_lines session 1 (take before values) ++ own_lines session n (drop before all))
    (omega arith)
    ∙ (sym (own_lines-append session 1 (take before values) (drop before all))
    ∙ ap (own_lines session 1)
    (ap (λ s. s ++ drop before all) (sym first) ∙ take-append-drop before all))

-- one post more
pub own_lines-more : (session first index i : ℕ) (values : List ℕ) → i < length values
    → index ≡ first + i
    → own_lines session first (take (i + 1) values)
    ≡ own_lines session first (take i values) ++ line session index (slice_index values i) ∷ []
own_lines-more session first index i values less same =
    let long : first + length (take i values) ≡ index =
    omega (arith, length-take i values) in
    ap (own_lines session first) (take_more values i 0 less)
    ∙ (own_lines-append session first (take i values) (slice_index values i ∷ [])
    ∙ ap (λ n. own_lines session first (take i values)
    ++ line session n (slice_index values i) ∷ []) long)
