-- The first line of a tree above the last, in trees that are kept sparsely.
use Rattle.std.proofs.Common.{◌≡◌, ℕ, zero, suc, ◌+◌, ◌-◌, ◌<◌, ◌≤◌, List, [], ◌∷◌, ◌++◌, length}
use Rattle.std.proofs.Common.{ap, refl, sym, ◌∙◌, arith, subst, append_assoc, get_or, take, replicate}
use Rattle.std.proofs.lemmas.List.{append-nil, length-append, length-replicate, length_push, take_at}
use Rattle.std.proofs.lemmas.List.{get_or_append_left, get_or-append_right, get_or-replicate}
use Rattle.std.proofs.lemmas.List.Sums.{sum_by-append, sum_by_push}
use Rattle.std.proofs.lemmas.Option.{slice_get_within}
use Rattle.std.proofs.Math.Seq.{get_or-append_seam}
use Rattle.risk_board.specs.declared.hand.Line.{Line}
use Rattle.risk_journal.specs.SparseTrees.{expand_from, AreRising}
use Rattle.risk_journal.specs.declared.acts.Act.{Act}
use Rattle.risk_journal.specs.declared.sparse.TreeLines.{TreeLines}
use Rattle.journal_check.specs.FarRows.{IsFarLine}
use Rattle.journal_check.specs.Firsts.{IsFirstRow}
use Rattle.journal_check.specs.RowNumbers.{count_all}
use Rattle.journal_check.specs.Trees.{tree_lines}
use Rattle.journal_check.proofs.Counts.{count-cons}
use Rattle.journal_check.proofs.FarLines.{first_far, none_far}

-- the trees before these were read: none is above the last, and this row is that of the next line
pub record ReadTo (last : ℕ) (acts : List (List Act)) (lines : List (List Line))
    (rest : List TreeLines) (row : ℕ) : Type 0 where
  pub before : List (List Line)
  pub is : lines ≡ before ++ expand_from (length before) rest
  pub rising : AreRising (length before) rest
  pub near : length before ≤ last + 1
  pub row_is : row ≡ 2 + count_all acts + count_all before

pub read_none : (last : ℕ) (acts : List (List Act)) (trees : List TreeLines) (row : ℕ)
    → AreRising 0 trees → row ≡ 2 + count_all acts
    → ReadTo last acts (expand_from 0 trees) trees row
read_none last acts trees row rising e = record {
  before = [];
  is = refl;
  rising = rising;
  near = omega arith;
  row_is = omega (arith, e);
}

-- lists up to a tree's number, the last of them empty
abbrev pub filled : List (List Line) → ℕ → List (List Line)
filled before tree = before ++ replicate (tree - length before) []

length_filled : (before : List (List Line)) (tree : ℕ) → length before ≤ tree
    → length (filled before tree) ≡ tree
length_filled before tree le =
    let none : List Line = [] in
    omega (
      arith,
      le,
      length-append before (replicate (tree - length before) none),
      length-replicate (tree - length before) none,
    )

count_empty : (n : ℕ) → count_all (replicate n (let none : List Line = [] in none)) ≡ 0
count_empty zero = refl
count_empty (suc n) =
    let none : List Line = [] in
    omega (arith, count-cons none (replicate n none), count_empty n)

count_filled : (before : List (List Line)) (tree : ℕ)
    → count_all (filled before tree) ≡ count_all before
count_filled before tree =
    let none : List Line = [] in
    omega (
      arith,
      sum_by-append (λ (own : List Line). length own) before (replicate (tree - length before) none),
      count_empty (tree - length before),
    )

module _ (last : ℕ) (acts : List (List Act)) (lines : List (List Line)) (own : TreeLines)
    (later : List TreeLines) (row : ℕ) (so_far : ReadTo last acts lines (own ∷ later) row) where
  front : List (List Line)
  front = filled so_far.before own.tree

  more : List (List Line)
  more = expand_from (own.tree + 1) later

  split : lines ≡ front ++ own.lines.items ∷ more
  unfolding front more
  split =
      so_far.is
      ∙ sym (append_assoc so_far.before (replicate (own.tree - length so_far.before) [])
      (own.lines.items ∷ expand_from (own.tree + 1) later))

  front_long : length front ≡ own.tree
  unfolding front
  front_long = length_filled so_far.before own.tree so_far.rising.0

  front_count : count_all front ≡ count_all so_far.before
  unfolding front
  front_count = count_filled so_far.before own.tree

  -- a tree's lines stand in rows that can be counted
  pub row_within : row + length own.lines.items ≤ 2 + count_all acts + count_all lines
  row_within =
      omega (
        arith,
        so_far.row_is,
        ap count_all split,
        sum_by-append (λ (l : List Line). length l) front (own.lines.items ∷ more),
        count-cons own.lines.items more,
        front_count,
      )

  -- a near tree more
  pub read_more : (next : ℕ) → own.tree ≤ last → next ≡ row + length own.lines.items
      → ReadTo last acts lines later next
  unfolding more
  read_more next near e =
      let number : own.tree + 1 ≡ length (front ++ own.lines.items ∷ []) =
      omega (arith, front_long, length_push front own.lines.items) in
      record {
        before = front ++ own.lines.items ∷ [];
        is = split
            ∙ sym (append_assoc front (own.lines.items ∷ []) more)
            ∙ ap (λ n. (front ++ own.lines.items ∷ []) ++ expand_from n later) number;
        rising = subst (λ n. AreRising n later) number so_far.rising.2;
        near = omega (arith, number, near);
        row_is = omega (
          arith,
          e,
          so_far.row_is,
          front_count,
          sum_by_push (λ (l : List Line). length l) front own.lines.items,
        );
      }

  none_between : (tree : ℕ) → tree < own.tree → last < tree → get_or lines tree [] ≡ []
  unfolding front
  none_between tree less far =
      let none : List Line = [] in
      let between = own.tree - length so_far.before in
      ap (λ all. get_or all tree none) split
      ∙ get_or_append_left front (own.lines.items ∷ more) none tree (omega (arith, less, front_long))
      ∙ get_or-append_right so_far.before (replicate between none) (length so_far.before) tree none
      refl (omega (arith, far, so_far.near))
      ∙ get_or-replicate between (tree - length so_far.before) none none
      (omega (arith, less, far, so_far.near))

  -- the next tree is the first above the last
  pub far_found : last < own.tree → IsFirstRow (IsFarLine last acts lines) row
  far_found far =
      let own_lines : get_or lines own.tree [] ≡ own.lines.items =
      ap (λ all. get_or all own.tree []) split
      ∙ ap (λ n. get_or (front ++ own.lines.items ∷ more) n []) (sym front_long)
      ∙ get_or-append_seam front own.lines.items more [] in
      let counted : count_all (take own.tree lines) ≡ count_all front =
      ap count_all
      (ap (take own.tree) split ∙ take_at front (own.lines.items ∷ more) own.tree front_long) in
      let some = so_far.rising.1 in
      first_far last acts lines own.tree row
      (λ tree place line less at above. absurd (omega (
        arith,
        slice_get_within (tree_lines tree lines) place line at,
        ap length (none_between tree less above),
      )))
      far (omega (arith, some, ap length own_lines))
      (omega (arith, so_far.row_is, front_count, counted))

-- no tree is left
pub far_none : (last : ℕ) (acts : List (List Act)) (lines : List (List Line)) (rest : List TreeLines)
    (row : ℕ) → ReadTo last acts lines rest row → rest ≡ []
    → (other : ℕ) → ¬ IsFarLine last acts lines other
far_none last acts lines rest row so_far none =
    let whole : lines ≡ so_far.before =
    so_far.is ∙ ap (λ own. so_far.before ++ expand_from (length so_far.before) own) none
    ∙ append-nil so_far.before in
    none_far last acts lines (last + 1) (omega (arith, so_far.near, ap length whole))
    (λ tree place line less at far. absurd (omega (arith, less, far)))
