-- Reads that are looked up among the roots of all places, and those of a legal history.
use Rattle.std.proofs.Common.{◌≡◌, ℕ, ◌+◌, ◌<◌, ◌≤◌, suc, List, [], ◌∷◌, ◌++◌, length, take, refl, sym, ap}
use Rattle.std.proofs.Common.{◌∙◌, arith, Bool, true, false, ◌&&◌, get_or, eqb, eq-eqb, subst}
use Rattle.std.specs.Prelude.{nat_le, nat_lt, slice_get, Some}
use Rattle.std.specs.List.{list_all, AllByRecursion, flat_map, enumerate_from}
use Rattle.std.proofs.lemmas.Bool.Decides.{nat_tests}
use Rattle.std.proofs.lemmas.List.Folds.{list_all-append}
use Rattle.fold_law.specs.declared.limits.TheConstants.{SESSIONS}
use Rattle.fold_law.specs.Laws.{FoldLaws}
use Rattle.fold_law.specs.Whole.{whole_of}
use Rattle.risk_board.specs.declared.hand.Line.{Line}
use Rattle.risk_board.specs.History.{Event, IsLegal, ReadsFit, array_after}
use Rattle.risk_board.specs.History.Event.{Posted, Saw}
use Rattle.trail_replay.specs.Arrays.{AreLines, whole_at}
use Rattle.trail_replay.specs.Reads.{list_below}
use Rattle.trail_replay.proofs.PreparedTables.{get_or-list_below}
use Rattle.trail_replay.proofs.WalkLaws.{whole-fewer}
use Rattle.tree_check.specs.declared.read_at.ReadAt.{ReadAt}
use Rattle.tree_check.specs.Reads.{own_reads, reads_in}
use Rattle.tree_check.specs.Walked.{is_walked, are_walked, is_among_roots}
use Rattle.tree_check.proofs.Below.{length-below}

-- below a number or not, the same test
both_tests : (place long : ℕ) → nat_lt place (long + 1) ≡ nat_le place long
both_tests place long = grind (arith, nat_tests)

and_if : (a b c : Bool) → (a ≡ true → b ≡ c) → (a && b) ≡ (a && c)
and_if true b c same = same refl
and_if false b c same = refl

lt_true : (a b : ℕ) → nat_lt a b ≡ true → a < b
lt_true a b is = grind (arith, nat_tests)

module _ (join : ℕ → ℕ → ℕ) (unit : ℕ) (lines : List Line) where
  abbrev roots : List ℕ
  roots = list_below (whole_at join unit lines) (length lines + 1)

  one_root : (read : ReadAt) → is_among_roots roots read ≡ is_walked join unit lines read
  one_root read =
      let long = length-below (whole_at join unit lines) (length lines + 1) in
      and_if (nat_lt read.place (length roots)) (eqb read.value (get_or roots read.place 0))
      (eqb read.value (whole_at join unit lines read.place))
      (λ within. ap (eqb read.value)
      (get_or-list_below (whole_at join unit lines) (length lines + 1) read.place 0
      (lt_true read.place (length lines + 1) (ap (nat_lt read.place) (sym long) ∙ within))))
      ∙ ap (λ b. b && eqb read.value (whole_at join unit lines read.place))
      (ap (nat_lt read.place) long ∙ both_tests read.place (length lines))

  pub all_roots : (reads : List ReadAt)
      → list_all (is_among_roots roots) reads ≡ are_walked join unit lines reads
  all_roots [] = refl
  all_roots (read ∷ reads) =
      ap (λ b. b && list_all (is_among_roots roots) reads) (one_root read)
      ∙ ap (λ b. is_walked join unit lines read && b) (all_roots reads)

-- the roots with one more
pub next_root : (join : ℕ → ℕ → ℕ) (unit : ℕ) (lines walked : List Line) (roots : List ℕ)
    (place root : ℕ) → roots ≡ list_below (whole_at join unit lines) place → walked ≡ lines
    → root ≡ whole_at join unit walked place
    → roots ++ root ∷ [] ≡ list_below (whole_at join unit lines) (place + 1)
next_root join unit lines walked roots place root so_far same is =
    ap (λ r. r ++ root ∷ []) so_far
    ∙ ap (λ x. list_below (whole_at join unit lines) place ++ x ∷ [])
    (is ∙ ap (λ ls. whole_at join unit ls place) same)
    ∙ ap (list_below (whole_at join unit lines)) (let s : suc place ≡ place + 1 = omega arith in s)

le_true : (a b : ℕ) → a ≤ b → nat_le a b ≡ true
le_true a b h = grind (arith, nat_tests)

module _ (join : ℕ → ℕ → ℕ) (unit : ℕ) (components : ℕ) (lines : List Line)
    (at_place : (place : ℕ) → place ≤ length lines
    → whole_of join unit (array_after unit components (take place lines))
    ≡ whole_at join unit lines place) where
  -- the reads of one session
  own_walked : (session made : ℕ) (events : List Event)
      → ReadsFit (whole_of join unit) unit components lines session made events
      → are_walked join unit lines (own_reads session events) ≡ true
  own_walked session made [] fit = refl
  own_walked session made (Posted value ∷ events) fit = own_walked session (made + 1) events fit
  own_walked session made (Saw stamp place value ∷ events) (within, is, count, later) =
      rw (
        le_true place (length lines) within,
        eq-eqb value (whole_at join unit lines place) (is ∙ at_place place within),
      )
      (own_walked session made events later)

  -- the reads of all sessions, from one on
  from_walked : (first : ℕ) (events : List (List Event))
      → ((session : ℕ) (own : List Event) → slice_get events session ≡ Some own
      → ReadsFit (whole_of join unit) unit components lines (first + session) 0 own)
      → are_walked join unit lines
      (flat_map (λ own. own_reads own.0 own.1) (enumerate_from first events)) ≡ true
  from_walked first [] each = refl
  from_walked first (own ∷ events) each =
      list_all-append (is_walked join unit lines) (own_reads first own)
      (flat_map (λ o. own_reads o.0 o.1) (enumerate_from (first + 1) events))
      ∙ rw (own_walked first 0 own
      (subst (λ n. ReadsFit (whole_of join unit) unit components lines n 0 own)
      (let same : first + 0 ≡ first = omega arith in same) (each 0 own refl)))
      (from_walked (first + 1) events (λ session others is.
      subst (λ n. ReadsFit (whole_of join unit) unit components lines n 0 others)
      (let same : first + suc session ≡ first + 1 + session = omega arith in same)
      (each (suc session) others is)))

module _ (unit cap : ℕ) (join : ℕ → ℕ → ℕ) (le : ℕ → ℕ → Bool) (under : ℕ → ℕ → Type 0)
    (laws : FoldLaws unit cap join le under) where
  pub legal_walked : (components : ℕ) (lines : List Line) (events : List (List Event))
      → components ≤ SESSIONS → AreLines cap lines
      → IsLegal (whole_of join unit) unit components lines events
      → are_walked join unit lines (reads_in events) ≡ true
  legal_walked components lines events few are legal =
      from_walked join unit components lines
      (λ place within. sym (whole-fewer unit cap join le under laws lines are place components few
      (lines_few lines (length events) components legal.few legal.sessions)))
      0 events
      (λ session own is. subst (λ n. ReadsFit (whole_of join unit) unit components lines n 0 own)
      (let same : session ≡ 0 + session = omega arith in same)
      (legal.each session own is).reads) where
        lines_few : (ls : List Line) (many most : ℕ) → many ≤ most
            → AllByRecursion (λ line. line.session < many) ls
            → AllByRecursion (λ line. line.session < most) ls
        lines_few [] many most no_more each = tt
        lines_few (line ∷ ls) many most no_more each =
            (omega (arith, each.0, no_more), lines_few ls many most no_more each.1)
