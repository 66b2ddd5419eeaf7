-- What the plain array has in each component after some lines.
use Rattle.std.proofs.Common.{◌≡◌, ℕ, zero, suc, ◌+◌, ◌<◌, ◌≤◌, ◌==◌, List, [], ◌∷◌, length}
use Rattle.std.proofs.Common.{take, refl, ap, sym, ◌∙◌, arith, Bool, true, false, cond}
use Rattle.std.proofs.Common.{slice_set, length-set}
use Rattle.std.specs.Prelude.{slice_index, replicate, fold}
use Rattle.std.proofs.lemmas.Bool.{eqb-true, eqb-false}
use Rattle.std.proofs.lemmas.List.{get_or-set_same, get_or-set_other, get_or-replicate}
use Rattle.std.proofs.lemmas.List.{length-replicate}
use Rattle.risk_board.specs.declared.hand.Line.{Line}
use Rattle.risk_board.specs.History.{own_lines, lines_of, array_after}

-- the value of the last line, or else this one
abbrev pub last_value : ℕ → List Line → ℕ
last_value value [] = value
last_value value (l ∷ lines) = last_value l.value lines

-- the post with this index, from 1; at 0 the unit
abbrev pub post_at : ℕ → List ℕ → ℕ → ℕ
post_at unit values zero = unit
post_at unit values (suc k) = slice_index values k

abbrev after : List ℕ → List Line → List ℕ
after array lines = fold (λ array line. slice_set array line.session line.value) array lines

length-after : (array : List ℕ) (lines : List Line) → length (after array lines) ≡ length array
length-after array [] = refl
length-after array (l ∷ lines) =
    length-after (slice_set array l.session l.value) lines
    ∙ length-set array l.session l.value

set_by_case : (array : List ℕ) (session : ℕ) (l : Line) (lines : List Line) (b : Bool)
    → (l.session == session) ≡ b → session < length array
    → last_value (slice_index (slice_set array l.session l.value) session) (lines_of session lines)
    ≡ last_value (slice_index array session)
    (cond b (l ∷ lines_of session lines) (lines_of session lines))
set_by_case array session l lines true test within =
    let same : l.session ≡ session = eqb-true l.session session test in
    ap (λ v. last_value v (lines_of session lines))
    (ap (λ n. slice_index (slice_set array n l.value) session) same
    ∙ get_or-set_same array session l.value 0 within)
set_by_case array session l lines false test within =
    let other = eqb-false l.session session test in
    ap (λ v. last_value v (lines_of session lines))
    (get_or-set_other array l.session session l.value 0 (λ same. other (sym same)))

component-after : (array : List ℕ) (lines : List Line) (session : ℕ) → session < length array
    → slice_index (after array lines) session
    ≡ last_value (slice_index array session) (lines_of session lines)
component-after array [] session within = refl
component-after array (l ∷ lines) session within =
    let next = slice_set array l.session l.value in
    component-after next lines session (omega (arith, length-set array l.session l.value))
    ∙ set_by_case array session l lines (l.session == session) refl within

-- a component has the value of the last line of its session
pub component-array_after : (unit components : ℕ) (lines : List Line) (session : ℕ)
    → session < components
    → slice_index (array_after unit components lines) session
    ≡ last_value unit (lines_of session lines)
component-array_after unit components lines session within =
    component-after (replicate components unit) lines session
    (omega (arith, length-replicate components unit))
    ∙ ap (λ v. last_value v (lines_of session lines))
    (get_or-replicate components session unit 0 within)

last-own : (value session index count : ℕ) (values : List ℕ) → count < length values
    → last_value value (own_lines session index (take (suc count) values))
    ≡ slice_index values count
last-own value session index count [] less = absurd (omega arith)
last-own value session index zero (x ∷ values) less = refl
last-own value session index (suc count) (x ∷ values) less =
    last-own x session (index + 1) count values (omega arith)

-- of a session's first lines the last has the post with that index
pub last_value-own : (unit session count : ℕ) (values : List ℕ) → count ≤ length values
    → last_value unit (own_lines session 1 (take count values)) ≡ post_at unit values count
last_value-own unit session zero values le = refl
last_value-own unit session (suc count) values le =
    last-own unit session 1 count values (omega arith)
