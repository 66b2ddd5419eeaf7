-- The lists by tree of lines that are kept sparsely, with a line more.
use Rattle.std.proofs.Common.{◌≡◌, ℕ, ◌+◌, ◌-◌, ◌<◌, ◌≤◌, List, [], ◌∷◌, ◌++◌, length}
use Rattle.std.proofs.Common.{refl, sym, ap, ◌∙◌, arith, subst, append_assoc, get_or, set, take}
use Rattle.std.proofs.Common.{replicate, ◌↔◌, ◌==◌, Bool, true, map}
use Rattle.std.proofs.lemmas.Bool.Decides.{nat_tests}
use Rattle.std.proofs.lemmas.List.{append-nil, map-append, length-map}
use Rattle.std.proofs.lemmas.List.{length-append, length-replicate, take_more, take_all, length-take}
use Rattle.std.proofs.lemmas.List.{get_or_push}
use Rattle.risk_board.specs.declared.hand.Line.{Line}
use Rattle.risk_journal.specs.Reading.{put_line}
use Rattle.risk_journal.specs.SparseTrees.{expand_from, AreRising}
use Rattle.risk_journal.specs.declared.sparse.TreeLines.{TreeLines}
use Rattle.risk_journal.proofs.TreeWalks.{put_first, put_line_later}

-- the number behind the last tree
pub end_of : ℕ → List TreeLines → ℕ
end_of next [] = next
end_of next (own ∷ trees) = end_of (own.tree + 1) trees

pub end_push : (next : ℕ) (front : List TreeLines) (own : TreeLines)
    → end_of next (front ++ own ∷ []) ≡ own.tree + 1
unfolding end_of
end_push next [] own = refl
end_push next (x ∷ front) own = end_push (x.tree + 1) front own

pub length_expand : (next : ℕ) (trees : List TreeLines) → AreRising next trees
    → length (expand_from next trees) + next ≡ end_of next trees
unfolding end_of
length_expand next [] rising = omega arith
length_expand next (own ∷ trees) rising =
    let none : List Line = [] in
    omega (
      arith,
      rising.0,
      length_expand (own.tree + 1) trees rising.2,
      length-append (replicate (own.tree - next) none)
          (own.lines.items ∷ expand_from (own.tree + 1) trees),
      length-replicate (own.tree - next) none,
    )

-- one tree more
pub expand_push : (next : ℕ) (front : List TreeLines) (own : TreeLines)
    → expand_from next (front ++ own ∷ [])
    ≡ (expand_from next front ++ replicate (own.tree - end_of next front) [])
    ++ own.lines.items ∷ []
unfolding end_of
expand_push next [] own = refl
expand_push next (x ∷ front) own =
    let none : List Line = [] in
    let empty = replicate (x.tree - next) none in
    let lists = x.lines.items ∷ expand_from (x.tree + 1) front in
    let between = replicate (own.tree - end_of (x.tree + 1) front) none in
    let last = own.lines.items ∷ [] in
    ap (λ later. empty ++ x.lines.items ∷ later) (expand_push (x.tree + 1) front own)
    ∙ sym (append_assoc empty (lists ++ between) last)
    ∙ ap (λ all. all ++ last) (sym (append_assoc empty lists between))

-- rising trees and one more behind them
pub record RisesTo (next : ℕ) (front : List TreeLines) (own : TreeLines) : Type 0 where
  pub rising : AreRising next front
  pub behind : end_of next front ≤ own.tree
  pub some : 0 < length own.lines.items

pub rises_to : (next : ℕ) (front : List TreeLines) (own : TreeLines)
    → AreRising next (front ++ own ∷ []) → RisesTo next front own
unfolding end_of
rises_to next [] own rising = record { rising = tt; behind = rising.0; some = rising.1 }
rises_to next (x ∷ front) own rising =
    let later = rises_to (x.tree + 1) front own rising.2 in
    record {
      rising = (rising.0, rising.1, later.rising);
      behind = later.behind;
      some = later.some;
    }

pub rising_push : (next : ℕ) (front : List TreeLines) (own : TreeLines)
    → RisesTo next front own → AreRising next (front ++ own ∷ [])
unfolding end_of
rising_push next [] own rises = (rises.behind, rises.some, tt)
rising_push next (x ∷ front) own rises =
    let before = rises.rising in (
      before.0,
      before.1,
      rising_push (x.tree + 1) front own
          (record { rising = before.2; behind = rises.behind; some = rises.some }),
    )

-- a first line of a tree behind the last
pub new_line : (trees : List TreeLines) (own : TreeLines) (line : Line) → AreRising 0 trees
    → length (expand_from 0 trees) ≤ own.tree → own.lines.items ≡ line ∷ []
    → expand_from 0 (trees ++ own ∷ []) ≡ put_line (expand_from 0 trees) own.tree line
new_line trees own line rising behind one =
    let end = length_expand 0 trees rising in
    let between = own.tree - end_of 0 trees in
    let number : length (expand_from 0 trees) + between ≡ own.tree = omega (arith, end) in
    expand_push 0 trees own
    ∙ ap (λ lines. (expand_from 0 trees ++ replicate between []) ++ lines ∷ []) one
    ∙ sym (put_first (expand_from 0 trees) between line)
    ∙ ap (λ tree. put_line (expand_from 0 trees) tree line) number

pub new_rises : (trees : List TreeLines) (own : TreeLines) (line : Line) → AreRising 0 trees
    → length (expand_from 0 trees) ≤ own.tree → own.lines.items ≡ line ∷ []
    → AreRising 0 (trees ++ own ∷ [])
new_rises trees own line rising behind one =
    rising_push 0 trees own (record {
      rising = rising;
      behind = omega (arith, length_expand 0 trees rising);
      some = omega (arith, ap length one);
    })

-- the lists before the last
abbrev pub lists_before : List TreeLines → TreeLines → List (List Line)
lists_before front own = expand_from 0 front ++ replicate (own.tree - end_of 0 front) []

pub length_before : (front : List TreeLines) (own : TreeLines) → RisesTo 0 front own
    → length (lists_before front own) ≡ own.tree
length_before front own rises =
    let none : List Line = [] in
    omega (
      arith,
      length_expand 0 front rises.rising,
      rises.behind,
      length-append (expand_from 0 front) (replicate (own.tree - end_of 0 front) none),
      length-replicate (own.tree - end_of 0 front) none,
    )

-- a line more of the last tree
pub later_line : (front : List TreeLines) (own after : TreeLines) (line : Line)
    → AreRising 0 (front ++ own ∷ []) → after.tree ≡ own.tree
    → after.lines.items ≡ own.lines.items ++ line ∷ []
    → expand_from 0 (front ++ after ∷ [])
    ≡ put_line (expand_from 0 (front ++ own ∷ [])) own.tree line
later_line front own after line rising same more =
    let lists = lists_before front own in
    let number : length lists + 0 ≡ own.tree =
    omega (arith, length_before front own (rises_to 0 front own rising)) in
    expand_push 0 front after
    ∙ ap (λ tree. (expand_from 0 front ++ replicate (tree - end_of 0 front) [])
    ++ after.lines.items ∷ []) same
    ∙ ap (λ lines. lists ++ lines ∷ []) more
    ∙ sym (put_line_later lists (own.lines.items ∷ []) 0 line)
    ∙ ap (λ tree. put_line (lists ++ own.lines.items ∷ []) tree line) number
    ∙ ap (λ trees. put_line trees own.tree line) (sym (expand_push 0 front own))

pub later_rises : (front : List TreeLines) (own after : TreeLines) (line : Line)
    → AreRising 0 (front ++ own ∷ []) → after.tree ≡ own.tree
    → after.lines.items ≡ own.lines.items ++ line ∷ []
    → AreRising 0 (front ++ after ∷ [])
later_rises front own after line rising same more =
    let rises = rises_to 0 front own rising in
    rising_push 0 front after (record {
      rising = rises.rising;
      behind = omega (arith, rises.behind, same);
      some = omega (arith, ap length more, length-append own.lines.items (line ∷ []));
    })

-- the last of some trees
pub last_split : (trees : List TreeLines) (n : ℕ) (own d : TreeLines) → length trees ≡ n + 1
    → own ≡ get_or trees n d → trees ≡ take n trees ++ own ∷ []
last_split trees n own d count is =
    sym (take_all (n + 1) trees (omega (arith, count)))
    ∙ take_more trees n d (omega (arith, count))
    ∙ ap (λ last. take n trees ++ last ∷ []) (sym is)

set_behind : (front : List TreeLines) (own after : TreeLines)
    → set (front ++ own ∷ []) (length front) after ≡ front ++ after ∷ []
set_behind [] own after = refl
set_behind (x ∷ front) own after = ap (λ trees. x ∷ trees) (set_behind front own after)

pub last_set : (trees : List TreeLines) (n : ℕ) (own after d : TreeLines) → length trees ≡ n + 1
    → own ≡ get_or trees n d → set trees n after ≡ take n trees ++ after ∷ []
last_set trees n own after d count is =
    let number : length (take n trees) ≡ n = omega (arith, count, length-take n trees) in
    ap (λ all. set all n after) (last_split trees n own d count is)
    ∙ ap (λ at. set (take n trees ++ own ∷ []) at after) (sym number)
    ∙ set_behind (take n trees) own after

-- the number behind the last tree, where there is one
pub last_number : (trees : List TreeLines) (n : ℕ) (own d : TreeLines) → AreRising 0 trees
    → length trees ≡ n + 1 → own ≡ get_or trees n d
    → length (expand_from 0 trees) ≡ own.tree + 1
last_number trees n own d rising count is =
    omega (
      arith,
      length_expand 0 trees rising,
      ap (end_of 0) (last_split trees n own d count is),
      end_push 0 (take n trees) own,
    )

-- the lines of the last tree
pub last_lines : (trees : List TreeLines) (n : ℕ) (own d : TreeLines) → AreRising 0 trees
    → length trees ≡ n + 1 → own ≡ get_or trees n d
    → get_or (expand_from 0 trees) own.tree [] ≡ own.lines.items
last_lines trees n own d rising count is =
    let front = take n trees in
    let split = last_split trees n own d count is in
    let rises = rises_to 0 front own (subst (AreRising 0) split rising) in
    ap (λ all. get_or (expand_from 0 all) own.tree []) split
    ∙ ap (λ lists. get_or lists own.tree []) (expand_push 0 front own)
    ∙ get_or_push (lists_before front own) own.lines.items [] own.tree
    (length_before front own rises)

-- where there are lists, there is a tree
pub some_tree : (trees : List TreeLines) → 0 < length (expand_from 0 trees) → 0 < length trees
some_tree [] some = some
some_tree (own ∷ trees) some = omega arith

is_same : (m n : ℕ) → (m == n) ≡ true → m ≡ n
is_same m n e = grind (arith, nat_tests)

-- a test of no tree is one of no list
pub none_kept : (trees : List TreeLines) (none : Bool) → none ≡ (length trees == 0)
    → (none ≡ true) ↔ (expand_from 0 trees ≡ [])
none_kept [] none e = (λ is. refl, λ empty. e)
none_kept (own ∷ trees) none e =
    let lists = own.lines.items ∷ expand_from (own.tree + 1) trees in
    let before = replicate (own.tree - 0) (let nothing : List Line = [] in nothing) in (
      λ is. absurd (omega (arith, is_same (length (own ∷ trees)) 0 (sym e ∙ is))),
      λ empty. absurd (omega (arith, ap length empty, length-append before lists)),
    )

-- a line more of the last tree, where it stands
pub record TakesLater (trees after : List TreeLines) (line : Line) : Type 0 where
  pub rising : AreRising 0 after
  pub taken : expand_from 0 after
      ≡ put_line (expand_from 0 trees) (length (expand_from 0 trees) - 1) line

pub takes_later : (trees : List TreeLines) (n : ℕ) (own after d : TreeLines) (line : Line)
    → AreRising 0 trees → length trees ≡ n + 1 → own ≡ get_or trees n d
    → after.tree ≡ own.tree → after.lines.items ≡ own.lines.items ++ line ∷ []
    → TakesLater trees (set trees n after) line
takes_later trees n own after d line rising count is same more =
    let front = take n trees in
    let split = last_split trees n own d count is in
    let rises = subst (AreRising 0) split rising in
    let now = last_set trees n own after d count is in
    let number : own.tree ≡ length (expand_from 0 trees) - 1 =
    omega (arith, last_number trees n own d rising count is) in
    record {
      rising = subst (AreRising 0) (sym now) (later_rises front own after line rises same more);
      taken = ap (expand_from 0) now
          ∙ later_line front own after line rises same more
          ∙ ap (λ all. put_line (expand_from 0 all) own.tree line) (sym split)
          ∙ ap (λ tree. put_line (expand_from 0 trees) tree line) number;
    }

-- the lists so far and those of the rest are all
pub record AreBoth {X : Type 0} (f : X → List Line) (lists : List X) (rest whole : List TreeLines)
    : Type 0 where
  pub rising : AreRising (length lists) rest
  pub both : map f lists ++ expand_from (length lists) rest ≡ expand_from 0 whole

pub both_begin : {X : Type 0} (f : X → List Line) (lists : List X) (rest whole : List TreeLines)
    → lists ≡ [] → rest ≡ whole → AreRising 0 whole → AreBoth f lists rest whole
both_begin {X} f lists rest whole empty all rising = record {
  rising = subst (λ n. AreRising n rest) (sym (ap length empty))
      (subst (AreRising 0) (sym all) rising);
  both = ap (λ own. map f own ++ expand_from (length own) rest) empty ∙ ap (expand_from 0) all;
}

pub both_more : {X : Type 0} (f : X → List Line) (lists filled next : List X) (lines : X)
    → (own : TreeLines) (rest whole : List TreeLines) → AreBoth f lists (own ∷ rest) whole
    → map f filled ≡ map f lists ++ replicate (own.tree - length lists) []
    → next ≡ filled ++ lines ∷ [] → f lines ≡ own.lines.items → AreBoth f next rest whole
both_more {X} f lists filled next lines own rest whole so_far fill e is =
    let none : List Line = [] in
    let empty = replicate (own.tree - length lists) none in
    let number : own.tree + 1 ≡ length next =
    omega (
      arith,
      so_far.rising.0,
      ap length fill,
      length-map filled f,
      length-map lists f,
      length-append (map f lists) empty,
      length-replicate (own.tree - length lists) none,
      ap length e,
      length-append filled (lines ∷ []),
    ) in
    let later = expand_from (own.tree + 1) rest in
    record {
      rising = subst (λ at. AreRising at rest) number so_far.rising.2;
      both = ap (λ at. map f next ++ expand_from at rest) (sym number)
          ∙ ap (λ all. all ++ later) (ap (map f) e ∙ map-append f filled (lines ∷ []))
          ∙ ap (λ front. (front ++ f lines ∷ []) ++ later) fill
          ∙ ap (λ last. ((map f lists ++ empty) ++ last ∷ []) ++ later) is
          ∙ append_assoc (map f lists ++ empty) (own.lines.items ∷ []) later
          ∙ append_assoc (map f lists) empty (own.lines.items ∷ later)
          ∙ so_far.both;
    }

pub both_end : {X : Type 0} (f : X → List Line) (lists : List X) (rest whole : List TreeLines)
    → AreBoth f lists rest whole → length rest ≡ 0 → map f lists ≡ expand_from 0 whole
both_end {X} f lists [] whole so_far none = sym (append-nil (map f lists)) ∙ so_far.both
both_end {X} f lists (own ∷ rest) whole so_far none = absurd (omega (arith, none))
