-- A post at the end of a legal history, and a read of all of it.
use Rattle.std.proofs.Common.{◌≡◌, ℕ, ◌+◌, ◌≤◌, List, [], ◌∷◌, ◌++◌, length, take, refl, ap, ◌∙◌}
use Rattle.std.proofs.Common.{arith, length-append}
use Rattle.std.proofs.lemmas.List.{take-append-le}
use Rattle.risk_board.specs.declared.hand.Line.{Line}
use Rattle.risk_board.specs.History.{Event, posted, own_lines, lines_of, ReadsFit, array_after}
use Rattle.risk_board.specs.History.Event.{Posted, Saw}

-- the values posted after one more post, and after a read
pub posted-post : (own : List Event) (value : ℕ)
    → posted (own ++ Posted value ∷ []) ≡ posted own ++ value ∷ []
posted-post [] value = refl
posted-post (Posted x ∷ own) value = ap (λ s. x ∷ s) (posted-post own value)
posted-post (Saw stamp place x ∷ own) value = posted-post own value

pub posted-read : (own : List Event) (stamp place value : ℕ)
    → posted (own ++ Saw stamp place value ∷ []) ≡ posted own
posted-read [] stamp place value = refl
posted-read (Posted x ∷ own) stamp place value =
    ap (λ s. x ∷ s) (posted-read own stamp place value)
posted-read (Saw s p x ∷ own) stamp place value = posted-read own stamp place value

-- the line of one more value
abbrev pub line : ℕ → ℕ → ℕ → Line
line session index value = record { session = session; index = index; value = value }

-- the lines of one more value
pub own_lines-post : (session index : ℕ) (values : List ℕ) (value : ℕ)
    → own_lines session index (values ++ value ∷ [])
    ≡ own_lines session index values ++ line session (index + length values) value ∷ []
own_lines-post session index [] value = ap (λ n. line session n value ∷ []) (omega arith)
own_lines-post session index (x ∷ values) value =
    let later = own_lines session (index + 1) values in
    ap (λ s. line session index x ∷ s)
    (own_lines-post session (index + 1) values value
    ∙ ap (λ n. later ++ line session n value ∷ []) (omega arith))

-- reads fit as before after one more line
pub reads_fit_after_line : (whole : List ℕ → ℕ) (unit components : ℕ) (lines : List Line) (last : Line)
    (session made : ℕ) (own : List Event) → ReadsFit whole unit components lines session made own
    → ReadsFit whole unit components (lines ++ last ∷ []) session made own
reads_fit_after_line whole unit components lines last session made [] fit = tt
reads_fit_after_line whole unit components lines last session made (Posted value ∷ own) fit =
    reads_fit_after_line whole unit components lines last session (made + 1) own fit
reads_fit_after_line whole unit components lines last session made
    (Saw stamp place value ∷ own) fit =
    let same : take place (lines ++ last ∷ []) ≡ take place lines =
    take-append-le place lines (last ∷ []) fit.0 in (
      omega (arith, fit.0, length-append lines (last ∷ [])),
      rw same fit.1,
      rw same fit.2,
      reads_fit_after_line whole unit components lines last session made own fit.3,
    )

-- one more post of its own asks nothing
pub reads_fit_with_post : (whole : List ℕ → ℕ) (unit components : ℕ) (lines : List Line)
    (session made : ℕ) (own : List Event) (value : ℕ)
    → ReadsFit whole unit components lines session made own
    → ReadsFit whole unit components lines session made (own ++ Posted value ∷ [])
reads_fit_with_post whole unit components lines session made [] value fit = tt
reads_fit_with_post whole unit components lines session made (Posted x ∷ own) value fit =
    reads_fit_with_post whole unit components lines session (made + 1) own value fit
reads_fit_with_post whole unit components lines session made (Saw stamp place x ∷ own) value fit =
    let later = reads_fit_with_post whole unit components lines session made own value fit.3 in
    (fit.0, fit.1, fit.2, later)

-- one more read fits at a place that has all of its posts
pub reads_fit_with_read : (whole : List ℕ → ℕ) (unit components : ℕ) (lines : List Line)
    (session made : ℕ) (own : List Event) (stamp place value : ℕ)
    → ReadsFit whole unit components lines session made own
    → place ≤ length lines
    → value ≡ whole (array_after unit components (take place lines))
    → length (lines_of session (take place lines)) ≡ made + length (posted own)
    → ReadsFit whole unit components lines session made (own ++ Saw stamp place value ∷ [])
reads_fit_with_read whole unit components lines session made [] stamp place value
    fit within is count = (within, is, count ∙ omega arith, tt)
reads_fit_with_read whole unit components lines session made (Posted x ∷ own) stamp place value
    fit within is count =
    reads_fit_with_read whole unit components lines session (made + 1) own stamp place value
    fit within is (count ∙ omega arith)
reads_fit_with_read whole unit components lines session made (Saw s p x ∷ own) stamp place value
    fit within is count =
    let later = reads_fit_with_read whole unit components lines session made own stamp place value
    fit.3 within is count in
    (fit.0, fit.1, fit.2, later)
