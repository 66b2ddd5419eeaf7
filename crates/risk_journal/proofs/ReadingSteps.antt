-- The steps of a reading: empty trees, a line more, and the next row of a text.
use Rattle.std.proofs.Common.{◌≡◌, ◌≢◌, ℕ, ◌+◌, ◌-◌, ◌<◌, ◌≤◌, List, [], ◌∷◌, ◌++◌}
use Rattle.std.proofs.Common.{length}
use Rattle.std.proofs.Common.{refl, sym, ap, ◌∙◌, arith, map, subst, append_assoc, get_or}
use Rattle.std.proofs.Common.{replicate, take, drop, true, false, eqb, length-drop}
use Rattle.std.specs.Str.{bytes_eq}
use Rattle.std.proofs.lemmas.Bool.{false≢true}
use Rattle.std.proofs.lemmas.Bool.Decides.{nat_tests}
use Rattle.std.proofs.lemmas.List.{map-append, replicate_more, take_all}
use Rattle.std.proofs.lemmas.List.{take_rest}
use Rattle.std.proofs.lemmas.List.{drop-drop, take-append-drop, take_at}
use Rattle.std.proofs.lemmas.List.Elements.{All-weaker}
use Rattle.std.proofs.lemmas.Slice.Eq.{bytes_eq-Decides}
use Rattle.memchr.specs.Find.{Nowhere, NoneBefore, Passes, is_byte}
use Rattle.risk_journal.specs.JournalText.{header_text}
use Rattle.risk_journal.specs.JournalGrammar.{IsRow, IsFirstFault}
use Rattle.risk_journal.specs.Reading.{Taken}
use Rattle.risk_journal.specs.TakenView.{Reached, TakesRow, IsRefused}
use Rattle.risk_journal.proofs.RowCuts.{none_before, cut_there}
use Rattle.risk_journal.proofs.Reached.{reached_next, fault_in_row, fault_in_open_row}

-- an empty list more
pub fill_more : {X Y : Type 0} (f : X → List Y) (old now new : List X) (own : X) (n m : ℕ)
    → map f now ≡ map f old ++ replicate (n - m) [] → m ≤ n → new ≡ now ++ own ∷ [] → f own ≡ []
    → map f new ≡ map f old ++ replicate (n + 1 - m) []
fill_more {X} {Y} f old now new own n m so_far high e empty =
    let none : List Y = [] in
    let count : n - m + 1 ≡ n + 1 - m = omega arith in
    ap (map f) e ∙ map-append f now (own ∷ [])
    ∙ ap (λ last. map f now ++ last ∷ []) empty
    ∙ ap (λ front. front ++ none ∷ []) so_far
    ∙ append_assoc (map f old) (replicate (n - m) []) (none ∷ [])
    ∙ ap (λ later. map f old ++ later) (replicate_more (n - m) none)
    ∙ ap (λ k. map f old ++ replicate k none) count

same_byte : (m n : ℕ) → eqb m n ≡ true → m ≡ n
same_byte m n e = grind (arith, nat_tests)

other_byte : (byte : ℕ) → eqb byte 10 ≡ false → byte ≢ 10
other_byte byte e is = false≢true (sym e ∙ ap (λ own. eqb own 10) is)

front_is_row : (text : List ℕ) (place : ℕ) → place ≤ length text
    → Nowhere (Passes (is_byte 10) text) 0 place → IsRow (take place text)
front_is_row text place within none =
    All-weaker (λ byte. eqb byte 10 ≡ false) (λ byte. byte ≢ 10) other_byte (take place text)
    (none_before 10 text place within none)

-- what is left of a text from a place on
abbrev pub left_from : ℕ → List ℕ → List ℕ
left_from at rest = take (length rest - at) (drop at rest)

-- no LF is left
pub open_fault : (text rest : List ℕ) (at number : ℕ) (taken : Taken)
    → Reached text (drop at rest) number taken → at < length rest
    → Nowhere (Passes (is_byte 10) (left_from at rest)) 0 (length (left_from at rest))
    → IsFirstFault text number
open_fault text rest at number taken reached more none =
    let later = left_from at rest in
    let all : take (length later) later ≡ drop at rest =
    take_all (length later) later (omega arith) ∙ take_rest rest at in
    fault_in_open_row text (drop at rest) number taken reached
    (subst IsRow all (front_is_row later (length later) (omega arith) none))
    (λ e. omega (arith, length-drop at rest, ap length e))

-- the next row with its LF
pub record HasRow (rest : List ℕ) (at end : ℕ) : Type 0 where
  pub is_row : IsRow (take end (left_from at rest))
  pub split : drop at rest ≡ take end (left_from at rest) ++ 10 ∷ drop (at + (end + 1)) rest

pub row_there : (rest : List ℕ) (at end : ℕ)
    → NoneBefore (Passes (is_byte 10) (left_from at rest)) 0 (length (left_from at rest)) end
    → Passes (is_byte 10) (left_from at rest) end → HasRow rest at end
row_there rest at end found passes =
    let later = left_from at rest in
    let is : later ≡ drop at rest = take_rest rest at in
    record {
      is_row = front_is_row later end (omega (arith, found.high)) found.before;
      split = sym is ∙ cut_there later end found.high
          ∙ ap (λ byte. take end later ++ byte ∷ drop (end + 1) later)
          (same_byte (get_or later end 0) 10 passes)
          ∙ ap (λ own. take end later ++ 10 ∷ drop (end + 1) own) is
          ∙ ap (λ own. take end later ++ 10 ∷ own) (drop-drop (end + 1) at rest);
    }

pub row_fault : (text rest : List ℕ) (at end number : ℕ) (taken : Taken)
    → Reached text (drop at rest) number taken
    → NoneBefore (Passes (is_byte 10) (left_from at rest)) 0 (length (left_from at rest)) end
    → Passes (is_byte 10) (left_from at rest) end
    → IsRefused taken (take end (left_from at rest)) → IsFirstFault text number
row_fault text rest at end number taken reached found passes refused =
    let row = row_there rest at end found passes in
    fault_in_row text (drop at rest) number taken (take end (left_from at rest))
    (drop (at + (end + 1)) rest) reached row.split row.is_row refused

pub row_taken : (text rest : List ℕ) (at end number : ℕ) (taken next : Taken)
    → Reached text (drop at rest) number taken
    → NoneBefore (Passes (is_byte 10) (left_from at rest)) 0 (length (left_from at rest)) end
    → Passes (is_byte 10) (left_from at rest) end
    → TakesRow taken (take end (left_from at rest)) next
    → Reached text (drop (at + (end + 1)) rest) (number + 1) next
row_taken text rest at end number taken next reached found passes takes =
    let row = row_there rest at end found passes in
    subst (Reached text (drop (at + (end + 1)) rest) (number + 1)) (sym takes.is)
    (reached_next text (drop at rest) number taken (take end (left_from at rest))
    (drop (at + (end + 1)) rest) takes.row reached row.split row.is_row takes.fits takes.text
    takes.follows)

-- a text with the header's bytes in front
pub header_there : (text rest : List ℕ) → bytes_eq (take 21 text) header_text ≡ true
    → rest ≡ drop 21 text → text ≡ header_text ++ rest
header_there text rest front later =
    sym (take-append-drop 21 text)
    ∙ ap (λ own. own ++ drop 21 text) ((bytes_eq-Decides (take 21 text) header_text).0 front)
    ∙ ap (λ own. header_text ++ own) (sym later)

pub no_header : (text rest : List ℕ) → bytes_eq (take 21 text) header_text ≡ false
    → text ≢ header_text ++ rest
no_header text rest other e =
    let front : take 21 text ≡ header_text = ap (take 21) e ∙ take_at header_text rest 21 refl in
    false≢true (sym other ∙ (bytes_eq-Decides (take 21 text) header_text).1 front)
