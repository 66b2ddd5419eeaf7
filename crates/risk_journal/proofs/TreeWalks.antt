-- The lines of the trees, taken one after another.
use Rattle.std.proofs.Common.{◌≡◌, ℕ, zero, suc, ◌+◌, ◌≤◌, List, [], ◌∷◌, ◌++◌}
use Rattle.std.proofs.Common.{length, refl, sym, ap, ◌∙◌, arith, map, subst, append_assoc}
use Rattle.std.proofs.Common.{get_or, replicate, add-zero, zero-add}
use Rattle.std.specs.List.{flat_map, enumerate_from}
use Rattle.std.proofs.lemmas.List.{append-nil, length_push, length-append}
use Rattle.std.proofs.lemmas.List.{replicate_more, same_from_push, length-replicate, get_or_past}
use Rattle.risk_board.specs.declared.hand.Line.{Line}
use Rattle.risk_journal.specs.Reading.{Taken, put_line}
use Rattle.risk_journal.specs.Rows.{tree_rows}
use Rattle.risk_journal.specs.JournalGrammar.{HasFullEnd}
use Rattle.risk_journal.specs.declared.acts.Act.{Act}
use Rattle.risk_journal.specs.declared.rows.Row.{Row}
use Rattle.risk_journal.specs.declared.rows.Row.TheVariants.{OfTree}
use Rattle.risk_journal.proofs.Walks.{Leads, leads_on, leads_same}

-- how many trees there are with a line more
pub length-put_line : (trees : List (List Line)) (n : ℕ) (line : Line) → length trees ≤ n + 1
    → length (put_line trees n line) ≡ n + 1
length-put_line [] zero line h = refl
length-put_line [] (suc n) line h = omega (arith, length-put_line [] n line (omega arith))
length-put_line (lines ∷ trees) zero line h = omega arith
length-put_line (lines ∷ trees) (suc n) line h =
    omega (arith, length-put_line trees n line (omega arith))

-- the lines of the tree that has one more
pub get_or-put_line : (trees : List (List Line)) (n : ℕ) (line : Line)
    → get_or (put_line trees n line) n [] ≡ get_or trees n [] ++ line ∷ []
get_or-put_line [] zero line = refl
get_or-put_line [] (suc n) line = get_or-put_line [] n line
get_or-put_line (lines ∷ trees) zero line = refl
get_or-put_line (lines ∷ trees) (suc n) line = get_or-put_line trees n line

-- lines more in a tree
pub put_lines : List (List Line) → ℕ → List Line → List (List Line)
put_lines trees n [] = trees
put_lines trees n (line ∷ lines) = put_lines (put_line trees n line) n lines

-- only lines are taken
abbrev pub in_trees : List (List Act) → List (List Line) → Taken
in_trees ended trees = record { ended = ended; begun = []; trees = trees }

-- the rows of a tree's lines from a place on
abbrev pub rows_from : ℕ → ℕ → List Line → List Row
rows_from n place lines = map (λ placed. OfTree n placed.0 placed.1) (enumerate_from place lines)

pub lines_lead : (ended : List (List Act)) (trees : List (List Line)) (n place : ℕ)
    (lines : List Line) → length trees ≤ n + 1 → place ≡ length (get_or trees n []) + 1
    → Leads (in_trees ended trees) (rows_from n place lines)
    (in_trees ended (put_lines trees n lines))
unfolding put_lines
lines_lead ended trees n place [] few at = record { follow = tt; left = refl }
lines_lead ended trees n place (line ∷ lines) few at =
    let more = put_line trees n line in
    let long : length more ≤ n + 1 = omega (arith, length-put_line trees n line few) in
    let next : place + 1 ≡ length (get_or more n []) + 1 =
    omega (arith, ap length (get_or-put_line trees n line), length_push (get_or trees n []) line) in
    let later = lines_lead ended more n (place + 1) lines long next in
    record { follow = ((refl, few, at), later.follow); left = later.left }

-- a line of the first of further trees
pub put_line_later : (front trees : List (List Line)) (n : ℕ) (line : Line)
    → put_line (front ++ trees) (length front + n) line ≡ front ++ put_line trees n line
put_line_later [] trees n line =
    ap (λ tree. put_line trees tree line) (zero-add n)
put_line_later (lines ∷ front) trees n line =
    let number : length (lines ∷ front) + n ≡ suc (length front + n) = omega arith in
    ap (λ tree. put_line (lines ∷ (front ++ trees)) tree line) number
    ∙ ap (λ own. lines ∷ own) (put_line_later front trees n line)

put_line_new : (k : ℕ) (line : Line)
    → put_line [] k line ≡ replicate k [] ++ (line ∷ []) ∷ []
put_line_new zero line = refl
put_line_new (suc k) line = ap (λ own. [] ∷ own) (put_line_new k line)

-- the first line of a tree behind empty ones
pub put_first : (trees : List (List Line)) (k : ℕ) (line : Line)
    → put_line trees (length trees + k) line ≡ (trees ++ replicate k []) ++ (line ∷ []) ∷ []
put_first trees k line =
    ap (λ own. put_line own (length trees + k) line) (sym (append-nil trees))
    ∙ put_line_later trees [] k line
    ∙ ap (λ own. trees ++ own) (put_line_new k line)
    ∙ sym (append_assoc trees (replicate k []) ((line ∷ []) ∷ []))

-- further lines of the last tree
put_further : (front : List (List Line)) (own lines : List Line)
    → put_lines (front ++ own ∷ []) (length front) lines ≡ front ++ (own ++ lines) ∷ []
unfolding put_lines
put_further front own [] = ap (λ last. front ++ last ∷ []) (sym (append-nil own))
put_further front own (line ∷ lines) =
    let one : put_line (front ++ own ∷ []) (length front) line ≡ front ++ (own ++ line ∷ []) ∷ [] =
    ap (λ n. put_line (front ++ own ∷ []) n line) (sym (add-zero (length front)))
    ∙ put_line_later front (own ∷ []) 0 line in
    ap (λ trees. put_lines trees (length front) lines) one
    ∙ put_further front (own ++ line ∷ []) lines
    ∙ ap (λ last. front ++ last ∷ []) (append_assoc own (line ∷ []) lines)

-- all lines of a tree behind empty ones
put_all : (trees front : List (List Line)) (k n : ℕ) (line : Line) (lines : List Line)
    → front ≡ trees ++ replicate k [] → n ≡ length front
    → put_lines trees n (line ∷ lines) ≡ front ++ (line ∷ lines) ∷ []
unfolding put_lines
put_all trees front k n line lines e at =
    let number : n ≡ length trees + k =
    omega (
      arith,
      ap length e,
      length-append trees (replicate k []),
      length-replicate k (let none : List Line = [] in none),
    ) in
    let first : put_line trees n line ≡ front ++ (line ∷ []) ∷ [] =
    ap (λ own. put_line trees own line) number ∙ put_first trees k line
    ∙ ap (λ own. own ++ (line ∷ []) ∷ []) (sym e) in
    ap (λ own. put_lines own n lines) first
    ∙ ap (λ own. put_lines (front ++ (line ∷ []) ∷ []) own lines) at
    ∙ put_further front (line ∷ []) lines

-- the same trees without the empty ones at the end
pub record Keeps (trees kept : List (List Line)) : Type 0 where
  pub empty : ℕ
  pub is : trees ≡ kept ++ replicate empty []
  pub full : HasFullEnd kept

-- the trees that are taken of these
pub record LeadsTrees (ended : List (List Act)) (from : List (List Line)) (rows : List Row)
    (trees : List (List Line)) : Type 0 where
  pub kept : List (List Line)
  pub keeps : Keeps trees kept
  pub leads : Leads (in_trees ended from) rows (in_trees ended kept)

full_last : (front : List (List Line)) (line : Line) (lines : List Line)
    → HasFullEnd (front ++ (line ∷ lines) ∷ [])
full_last front line lines other e =
    let last = same_from_push front other (line ∷ lines) [] e in
    absurd (cc last.1)

keeps_empty : (trees kept : List (List Line)) → Keeps trees kept → Keeps (trees ++ [] ∷ []) kept
keeps_empty trees kept keeps = record {
  empty = keeps.empty + 1;
  is = ap (λ own. own ++ [] ∷ []) keeps.is
      ∙ append_assoc kept (replicate keeps.empty []) ([] ∷ [])
      ∙ ap (λ own. kept ++ own) (replicate_more keeps.empty []);
  full = keeps.full;
}

keeps_full : (front : List (List Line)) (line : Line) (lines : List Line)
    → Keeps (front ++ (line ∷ lines) ∷ []) (front ++ (line ∷ lines) ∷ [])
keeps_full front line lines = record {
  empty = 0;
  is = sym (append-nil (front ++ (line ∷ lines) ∷ []));
  full = full_last front line lines;
}

few_kept : (trees kept : List (List Line)) → Keeps trees kept → length kept ≤ length trees
few_kept trees kept keeps =
    omega (arith, ap length keeps.is, length-append kept (replicate keeps.empty []))

-- nothing stands in a tree behind those that are kept
past_kept : (trees kept : List (List Line)) (n : ℕ) → n ≡ length trees → Keeps trees kept
    → get_or kept n [] ≡ []
past_kept trees kept n at keeps = get_or_past kept n [] (omega (arith, few_kept trees kept keeps))

pub trees_lead : (ended : List (List Act)) (front kept lines : List (List Line)) (n : ℕ)
    → n ≡ length front → Keeps front kept
    → LeadsTrees ended kept (flat_map tree_rows (enumerate_from n lines)) (front ++ lines)
trees_lead ended front kept [] n at keeps = record {
  kept = kept;
  keeps = subst (λ trees. Keeps trees kept) (sym (append-nil front)) keeps;
  leads = record { follow = tt; left = refl };
}
trees_lead ended front kept ([] ∷ lines) n at keeps =
    let next : n + 1 ≡ length (front ++ [] ∷ []) =
    omega (arith, length_push front (let none : List Line = [] in none)) in
    let later = trees_lead ended (front ++ [] ∷ []) kept lines (n + 1) next
    (keeps_empty front kept keeps) in
    record {
      kept = later.kept;
      keeps = subst (λ trees. Keeps trees later.kept) (append_assoc front ([] ∷ []) lines)
          later.keeps;
      leads = later.leads;
    }
trees_lead ended front kept ((line ∷ own) ∷ lines) n at keeps =
    let trees = front ++ (line ∷ own) ∷ [] in
    let next : n + 1 ≡ length trees = omega (arith, length_push front (line ∷ own)) in
    let later = trees_lead ended trees trees lines (n + 1) next (keeps_full front line own) in
    let place : 1 ≡ length (get_or kept n []) + 1 =
    omega (arith, ap length (past_kept front kept n at keeps)) in
    let few : length kept ≤ n + 1 = omega (arith, few_kept front kept keeps) in
    let one = lines_lead ended kept n 1 (line ∷ own) few place in
    let all = put_all kept front keeps.empty n line own keeps.is at in
    record {
      kept = later.kept;
      keeps = subst (λ own_trees. Keeps own_trees later.kept)
          (append_assoc front ((line ∷ own) ∷ []) lines) later.keeps;
      leads = leads_on (in_trees ended kept) (rows_from n 1 (line ∷ own)) (in_trees ended trees)
          (flat_map tree_rows (enumerate_from (n + 1) lines)) (in_trees ended later.kept)
          (leads_same (in_trees ended kept) (rows_from n 1 (line ∷ own))
          (in_trees ended (put_lines kept n (line ∷ own))) (in_trees ended trees)
          (ap (in_trees ended) all) one) later.leads;
    }
