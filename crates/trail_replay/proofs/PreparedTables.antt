-- Rows made from a record, and lists of posts by tree.
use Rattle.std.proofs.Common.{◌≡◌, ℕ, zero, suc, ◌+◌, ◌-◌, ◌*◌, ◌/◌, ◌%◌, ◌^◌, ◌<◌, ◌≤◌, List}
use Rattle.std.proofs.Common.{[], ◌∷◌, ◌++◌, length, min}
use Rattle.std.proofs.Common.{get_or, map, replicate, fold, refl, ap, sym, ◌∙◌, subst}
use Rattle.std.proofs.Common.{⊎_elim, arith, length-set, length-append, append_assoc, eq-eqb}
use Rattle.std.specs.List.{AllByRecursion}
use Rattle.node_rule.proofs.CallLists.{posted-append}
use Rattle.std.proofs.lemmas.Bool.{ne_eqb}
use Rattle.std.proofs.lemmas.List.{get_or-set_same, get_or-set_other, get_or_append_left}
use Rattle.std.proofs.lemmas.List.{get_or-append-add, get_or-replicate, length-replicate}
use Rattle.std.proofs.lemmas.List.{length-map, get_or-map, append-nil as append_nil}
use Rattle.risk_board.specs.declared.hand.Call.{Call}
use Rattle.risk_board.specs.declared.hand.Call.TheVariants.{Post, Read}
use Rattle.node_rule.specs.Views.{pick}
use Rattle.node_rule.specs.Sums.{posted}
use Rattle.f_array.specs.declared.record.Record.{Record}
use Rattle.f_array.specs.Records.{Did}
use Rattle.trail_replay.specs.declared.reads.ChildStamps.{ChildStamps}
use Rattle.trail_replay.specs.Sums.{read_in_all}
use Rattle.trail_replay.specs.Histories.{posts_of_tree}
use Rattle.trail_replay.specs.Reads.{unread, list_below, empty_nodes, empty_rows, end_stamp, row_of}
use Rattle.trail_replay.specs.Reads.{rows_of}
use Rattle.trail_replay.specs.Reads.{AreSums, AreRows, lists_with, lists_of, ArePosts, IsPrepared}
use Rattle.trail_replay.proofs.Rows.{same_or, sums-same, sums-of, length-of}

module _ {A : Type 0} (f : ℕ → A) where
  length-list_below : (n : ℕ) → length (list_below f n) ≡ n
  length-list_below zero = refl
  length-list_below (suc n) =
      let rest = length-list_below n in
      omega (arith, length-append (list_below f n) (f n ∷ []))

  pub get_or-list_below : (n i : ℕ) (d : A) → i < n → get_or (list_below f n) i d ≡ f i
  get_or-list_below zero i d less = absurd (omega (arith, less))
  get_or-list_below (suc n) i d less = ⊎_elim
      (λ (same : i ≡ n).
      let long = length-list_below n in
      let last : length (list_below f n) + 0 ≡ i = omega (arith, long, same) in
      subst (λ k. get_or (list_below f n ++ f n ∷ []) k d ≡ f i) last
      (get_or-append-add (list_below f n) (f n ∷ []) 0 d ∙ ap f (sym same)))
      (λ (apart : (i ≡ n) → ⊥).
      let long = length-list_below n in
      let below : i < n = before i n less apart in
      get_or_append_left (list_below f n) (f n ∷ []) d i (omega (arith, long, below))
      ∙ get_or-list_below n i d below)
      (same_or i n)
    where
      before : (i n : ℕ) → i < suc n → ((i ≡ n) → ⊥) → i < n
      before i n less apart = ⊎_elim (λ (e : i ≡ n). absurd (apart e))
          (λ (d : (i ≡ n) → ⊥). grind (arith)) (same_or i n)

module _ (stamp : ℕ → ℕ → ℕ) (nodes trees tree node : ℕ) (tree_in : tree < trees)
    (node_in : node < nodes) where
  row-empty : row_of (empty_rows stamp nodes trees) tree node
      ≡ replicate (stamp tree node + 1) unread
  row-empty =
      ap (λ rows. get_or rows node [])
      (get_or-list_below (λ t. empty_nodes (stamp t) nodes) trees tree [] tree_in)
      ∙ get_or-list_below (λ n. replicate (stamp tree n + 1) unread) nodes node [] node_in

  length-empty : length (row_of (empty_rows stamp nodes trees) tree node) ≡ stamp tree node + 1
  length-empty = ap length row-empty ∙ length-replicate (stamp tree node + 1) unread

  at-empty : (s : ℕ) → s < length (row_of (empty_rows stamp nodes trees) tree node)
      → get_or (row_of (empty_rows stamp nodes trees) tree node) s unread ≡ unread
  at-empty s less =
      ap (λ row. get_or row s unread) row-empty
      ∙ get_or-replicate (stamp tree node + 1) s unread unread (omega (arith, less, length-empty))

sums-empty : (stamp : ℕ → ℕ → ℕ) (nodes trees : ℕ)
    → AreSums trees nodes (λ t c s. 0) (empty_rows stamp nodes trees)
sums-empty stamp nodes trees = record {
  left = λ tree node s t_in n_in less. ap (λ (c : ChildStamps). c.left)
      (at-empty stamp nodes trees tree node t_in n_in s less);
  right = λ tree node s t_in n_in less. ap (λ (c : ChildStamps). c.right)
      (at-empty stamp nodes trees tree node t_in n_in s less);
}

-- the rows made from a record are those of it
pub rows_are : (taken : Record) → AreRows taken
    (rows_of (empty_rows (end_stamp taken) (2 ^ taken.shape.levels) taken.shape.trees)
    taken.passes.items)
rows_are taken =
    let nodes : ℕ = 2 ^ taken.shape.levels in
    let trees = taken.shape.trees in
    let stamp = end_stamp taken in
    let passes = taken.passes.items in
    let before = empty_rows stamp nodes trees in
    let all = sums-of trees nodes passes (λ t c s. 0) before (sums-empty stamp nodes trees) in
    record {
      long = λ tree node t_in n_in.
          length-of taken.passes.items (empty_rows stamp nodes trees) tree node
          ∙ length-empty stamp nodes trees tree node t_in n_in;
      sums = sums-same trees nodes (λ t c s. 0 + read_in_all t c s passes)
          (λ t c s. read_in_all t c s passes) (rows_of before passes) (λ t c s. omega arith) all;
    }

-- the posts of one call more
module _ (tree : ℕ) where
  list-with : (call : Call) (lists : List (List ℕ)) → tree < length lists
      → get_or (lists_with lists call) tree [] ≡ get_or lists tree [] ++ posted tree (call ∷ [])
  list-with (Post t value) lists less = ⊎_elim
      (λ (same : t ≡ tree). here t value lists less same)
      (λ (apart : (t ≡ tree) → ⊥).
      get_or-set_other lists t tree (get_or lists t [] ++ value ∷ []) [] (λ e. apart (sym e))
      ∙ (sym (append_nil (get_or lists tree []))
      ∙ ap (λ b. get_or lists tree [] ++ pick b (value ∷ []) []) (sym (ne_eqb t tree apart))))
      (same_or t tree)
    where
      here : (t value : ℕ) (lists : List (List ℕ)) → tree < length lists → t ≡ tree
          → get_or (lists_with lists (Post t value)) tree []
          ≡ get_or lists tree [] ++ posted tree (Post t value ∷ [])
      here t value lists less same =
          subst (λ k. get_or (lists_with lists (Post t value)) k []
          ≡ get_or lists k [] ++ value ∷ []) same
          (get_or-set_same lists t (get_or lists t [] ++ value ∷ []) []
          (subst (λ k. k < length lists) (sym same) less))
          ∙ ap (λ b. get_or lists tree [] ++ pick b (value ∷ []) []) (sym (eq-eqb t tree same))
  list-with (Read t stamp value) lists less = sym (append_nil (get_or lists tree []))

length-lists_with : (lists : List (List ℕ)) (call : Call)
    → length (lists_with lists call) ≡ length lists
length-lists_with lists (Post t value) =
    length-set lists t (get_or lists t [] ++ value ∷ [])
length-lists_with lists (Read t stamp value) = refl

length-lists_after : (calls : List Call) (lists : List (List ℕ))
    → length (fold lists_with lists calls) ≡ length lists
length-lists_after [] lists = refl
length-lists_after (call ∷ calls) lists =
    length-lists_after calls (lists_with lists call) ∙ length-lists_with lists call

list-after : (tree : ℕ) (calls : List Call) (lists : List (List ℕ)) → tree < length lists
    → get_or (fold lists_with lists calls) tree [] ≡ get_or lists tree [] ++ posted tree calls
list-after tree [] lists less = sym (append_nil (get_or lists tree []))
list-after tree (call ∷ calls) lists less =
    list-after tree calls (lists_with lists call)
    (omega (arith, less, length-lists_with lists call))
    ∙ (ap (λ s. s ++ posted tree calls) (list-with tree call lists less)
    ∙ (append_assoc (get_or lists tree []) (posted tree (call ∷ [])) (posted tree calls)
    ∙ ap (λ s. get_or lists tree [] ++ s) (sym (posted-append tree (call ∷ []) calls))))

module _ (trees tree : ℕ) (tree_in : tree < trees) where
  length-lists_of : (calls : List Call) → length (lists_of trees calls) ≡ trees
  length-lists_of calls =
      length-lists_after calls (replicate trees []) ∙ length-replicate {A = List ℕ} trees []

  list-of : (calls : List Call) → get_or (lists_of trees calls) tree [] ≡ posted tree calls
  list-of calls =
      list-after tree calls (replicate trees [])
      (omega (arith, tree_in, length-replicate {A = List ℕ} trees []))
      ∙ ap (λ s. s ++ posted tree calls) (get_or-replicate trees tree [] [] tree_in)

  each-list : (passes : List Did)
      → map (λ lists. get_or lists tree []) (map (λ did. lists_of trees did.calls) passes)
      ≡ posts_of_tree tree passes
  each-list [] = refl
  each-list (did ∷ passes) = λ k. list-of did.calls k ∷ each-list passes k

  each-long : (passes : List Did)
      → AllByRecursion (λ lists. tree < length lists)
      (map (λ did. lists_of trees did.calls) passes)
  each-long [] = tt
  each-long (did ∷ passes) =
      (omega (arith, tree_in, length-lists_of did.calls), each-long passes)

-- the lists made from a record are those of it
pub posts_are : (taken : Record) (tree : ℕ) → tree < taken.shape.trees
    → ArePosts taken tree (map (λ did. lists_of taken.shape.trees did.calls) taken.passes.items)
posts_are taken tree tree_in = record {
  each = each-list taken.shape.trees tree tree_in taken.passes.items;
  long = each-long taken.shape.trees tree tree_in taken.passes.items;
}

-- both together
pub are_prepared : (taken : Record) (rows : List (List (List ChildStamps)))
    (posts : List (List (List ℕ)))
    → rows ≡ rows_of (empty_rows (end_stamp taken) (2 ^ taken.shape.levels) taken.shape.trees)
    taken.passes.items
    → posts ≡ map (λ did. lists_of taken.shape.trees did.calls) taken.passes.items
    → IsPrepared taken rows posts
are_prepared taken rows posts made listed = record {
  read = subst (AreRows taken) (sym made) (rows_are taken);
  posted = λ tree tree_in. subst (ArePosts taken tree) (sym listed) (posts_are taken tree tree_in);
}

-- a stamp that a row has stands within the tables
module _ (rows : List (List (List ChildStamps))) (tree node : ℕ)
    (some : 0 < length (row_of rows tree node)) where
  pub node_inside : node < length (get_or rows tree [])
  node_inside = inside (get_or rows tree []) node some
    where
      inside : (nodes : List (List ChildStamps)) (node : ℕ) → 0 < length (get_or nodes node [])
          → node < length nodes
      inside [] node some = absurd (omega (arith, some))
      inside (row ∷ nodes) zero some = omega arith
      inside (row ∷ nodes) (suc node) some =
          let rest = inside nodes node some in omega (arith, rest)

  pub tree_inside : tree < length rows
  tree_inside = inside rows tree node_inside
    where
      inside : (rows : List (List (List ChildStamps))) (tree : ℕ)
          → node < length (get_or rows tree []) → tree < length rows
      inside [] tree some = absurd (omega (arith, some))
      inside (nodes ∷ rows) zero some = omega arith
      inside (nodes ∷ rows) (suc tree) some =
          let rest = inside rows tree some in omega (arith, rest)

-- a list mapped in two steps
pub map-twice : {A B C : Type 0} (f : A → B) (g : B → C) (xs : List A)
    → map g (map f xs) ≡ map (λ x. g (f x)) xs
map-twice f g [] = refl
map-twice f g (x ∷ xs) = λ k. g (f x) ∷ map-twice f g xs k

pub all-long : {A B C : Type 0} (h : A → List B) (g : B → C) (least : ℕ) (xs : List A)
    → AllByRecursion (λ ys. least < length ys) (map (λ x. map g (h x)) xs)
    → AllByRecursion (λ x. least < length (h x)) xs
all-long h g least [] each = tt
all-long h g least (x ∷ xs) each =
    let first = each.0 in
    (omega (arith, first, length-map (h x) g), all-long h g least xs each.1)

-- an element that is told by its own place, seen in the mapped list
pub value_at : {A B : Type 0} (f : A → B) (xs : List A) (i : ℕ) (x : A) (d : B) → i < length xs
    → x ≡ get_or xs i x → f x ≡ get_or (map f xs) i d
value_at f xs i x d less found = ap f found ∙ sym (get_or-map f xs i x d less)

min-fits : (n m : ℕ) → n < m → min n (m - 1) ≡ n
min-fits n m less = grind (arith)

module _ (taken : Record) (rows : List (List (List ChildStamps))) (are : AreRows taken rows)
    (tree child stamp : ℕ) (tree_in : tree < taken.shape.trees)
    (parent : child / 2 < 2 ^ taken.shape.levels)
    (reached : stamp ≤ end_stamp taken tree (child / 2))
    (fits : read_in_all tree child stamp taken.passes.items < 2 ^ 32) where
  pub row_has : stamp < length (row_of rows tree (child / 2))
  row_has = let long = are.long tree (child / 2) tree_in parent in omega (arith, long, reached)

  pub seen-left : child % 2 ≡ 0
      → (get_or (row_of rows tree (child / 2)) stamp unread).left
      ≡ read_in_all tree child stamp taken.passes.items
  seen-left even =
      let same : 2 * (child / 2) ≡ child = omega (arith, even) in
      are.sums.left tree (child / 2) stamp tree_in parent row_has
      ∙ (ap (λ c. min (read_in_all tree c stamp taken.passes.items) (2 ^ 32 - 1)) same
      ∙ min-fits (read_in_all tree child stamp taken.passes.items) (2 ^ 32) fits)

  pub seen-right : ((child % 2 ≡ 0) → ⊥)
      → (get_or (row_of rows tree (child / 2)) stamp unread).right
      ≡ read_in_all tree child stamp taken.passes.items
  seen-right odd =
      let same : 2 * (child / 2) + 1 ≡ child = omega (arith, odd) in
      are.sums.right tree (child / 2) stamp tree_in parent row_has
      ∙ (ap (λ c. min (read_in_all tree c stamp taken.passes.items) (2 ^ 32 - 1)) same
      ∙ min-fits (read_in_all tree child stamp taken.passes.items) (2 ^ 32) fits)
