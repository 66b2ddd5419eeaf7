-- What rows say after installs.
use Rattle.std.proofs.Common.{◌≡◌, ◌⊎◌, ℕ, zero, suc, ◌+◌, ◌-◌, ◌*◌, ◌/◌, ◌%◌, ◌^◌, ◌<◌, List}
use Rattle.std.proofs.Common.{[], ◌∷◌, length, min, set}
use Rattle.std.proofs.Common.{get_or, map, refl, ap, sym, ◌∙◌, subst, inl, inr, ⊎_elim, arith}
use Rattle.std.proofs.Common.{length-set, eq-eqb}
use Rattle.std.proofs.lemmas.Bool.{ne_eqb}
use Rattle.std.proofs.lemmas.List.{get_or-set_same, get_or-set_other, get_or-map, map-set}
use Rattle.node_rule.specs.declared.view.Install.{Install}
use Rattle.node_rule.specs.Views.{pick, is_left}
use Rattle.node_rule.specs.Sums.{read_by}
use Rattle.node_rule.proofs.Adding.{matched-none, matched-some}
use Rattle.f_array.specs.Records.{Did}
use Rattle.trail_replay.specs.declared.reads.ChildStamps.{ChildStamps}
use Rattle.trail_replay.specs.Sums.{read_in, read_in_all}
use Rattle.trail_replay.specs.Reads.{unread, stamps_with, row_with, nodes_with, rows_with}
use Rattle.trail_replay.specs.Reads.{rows_after, rows_of, row_of, AreSums}

pub same_or : (a b : ℕ) → (a ≡ b) ⊎ ((a ≡ b) → ⊥)
same_or zero zero = inl refl
same_or zero (suc b) = inr (λ e. absurd (omega (arith, e)))
same_or (suc a) zero = inr (λ e. absurd (omega (arith, e)))
same_or (suc a) (suc b) = ⊎_elim (λ (e : a ≡ b). inl (ap suc e))
    (λ (d : (a ≡ b) → ⊥). inr (λ e. d (omega (arith, e)))) (same_or a b)

-- an element that was changed, where nothing stays nothing
changed-same : {A : Type 0} (f : A → A) (xs : List A) (i : ℕ) (d : A) → f d ≡ d
    → get_or (set xs i (f (get_or xs i d))) i d ≡ f (get_or xs i d)
changed-same f [] i d nothing = sym nothing
changed-same f (x ∷ xs) zero d nothing = refl
changed-same f (x ∷ xs) (suc i) d nothing = changed-same f xs i d nothing

-- a changed element of a list, seen in the mapped list
pub map-changed : {A B : Type 0} (f : A → B) (g : B → B) (xs : List A) (i : ℕ) (new old : A) (d : B)
    → i < length xs → old ≡ get_or xs i old → f new ≡ g (f old)
    → map f (set xs i new) ≡ set (map f xs) i (g (get_or (map f xs) i d))
map-changed f g xs i new old d less found changed =
    map-set f xs i new
    ∙ ap (set (map f xs) i) (changed ∙ ap g (ap f found ∙ sym (get_or-map f xs i old d less)))

capped-more : (s a m : ℕ) → min (min s m + a) m ≡ min (s + a) m
capped-more s a m = grind (arith)

module _ (x : Install) where
  left_of : (node : ℕ) → pick (is_left (2 * node)) x.left x.right ≡ x.left
  left_of node =
      let even : (2 * node) % 2 ≡ 0 = omega arith in
      ap (λ b. pick b x.left x.right) (eq-eqb ((2 * node) % 2) 0 even)

  right_of : (node : ℕ) → pick (is_left (2 * node + 1)) x.left x.right ≡ x.right
  right_of node =
      let odd : (2 * node + 1) % 2 ≡ 1 = omega arith in
      ap (λ b. pick b x.left x.right)
      (ne_eqb ((2 * node + 1) % 2) 0 (λ e. absurd (omega (arith, odd, e))))

  read_by-left : (tree node stamp : ℕ) → x.tree ≡ tree → x.node ≡ node → x.stamp ≡ stamp
      → read_by tree (2 * node) stamp x ≡ x.left
  read_by-left tree node stamp t n s =
      let half : (2 * node) / 2 ≡ node = omega arith in
      matched-some x tree ((2 * node) / 2) stamp (pick (is_left (2 * node)) x.left x.right) t
      (n ∙ sym half) s
      ∙ left_of node

  read_by-right : (tree node stamp : ℕ) → x.tree ≡ tree → x.node ≡ node → x.stamp ≡ stamp
      → read_by tree (2 * node + 1) stamp x ≡ x.right
  read_by-right tree node stamp t n s =
      let half : (2 * node + 1) / 2 ≡ node = omega arith in
      matched-some x tree ((2 * node + 1) / 2) stamp
      (pick (is_left (2 * node + 1)) x.left x.right) t (n ∙ sym half) s
      ∙ right_of node

  read_by-none : (tree child node stamp : ℕ) → child / 2 ≡ node
      → (x.tree ≡ tree → x.node ≡ node → x.stamp ≡ stamp → ⊥)
      → read_by tree child stamp x ≡ 0
  read_by-none tree child node stamp half miss =
      matched-none x tree (child / 2) stamp (pick (is_left child) x.left x.right)
      (λ t n s. miss t (n ∙ half) s)

  node_same : (nodes : List (List ChildStamps)) (node : ℕ) → x.node ≡ node
      → get_or (nodes_with x nodes) node [] ≡ row_with x (get_or nodes node [])
  node_same nodes node e =
      subst (λ n. get_or (nodes_with x nodes) n [] ≡ row_with x (get_or nodes n [])) e
      (changed-same (row_with x) nodes x.node [] refl)

  node_other : (nodes : List (List ChildStamps)) (node : ℕ) → ((x.node ≡ node) → ⊥)
      → get_or (nodes_with x nodes) node [] ≡ get_or nodes node []
  node_other nodes node apart =
      get_or-set_other nodes x.node node (row_with x (get_or nodes x.node [])) []
      (λ e. apart (sym e))

  tree_same : (rows : List (List (List ChildStamps))) (tree : ℕ) → x.tree ≡ tree
      → get_or (rows_with rows x) tree [] ≡ nodes_with x (get_or rows tree [])
  tree_same rows tree e =
      subst (λ t. get_or (rows_with rows x) t [] ≡ nodes_with x (get_or rows t [])) e
      (changed-same (nodes_with x) rows x.tree [] refl)

  tree_other : (rows : List (List (List ChildStamps))) (tree : ℕ) → ((x.tree ≡ tree) → ⊥)
      → get_or (rows_with rows x) tree [] ≡ get_or rows tree []
  tree_other rows tree apart =
      get_or-set_other rows x.tree tree (nodes_with x (get_or rows x.tree [])) []
      (λ e. apart (sym e))

  -- the row of a node is another one only where the install is of that node
  row-with : (rows : List (List (List ChildStamps))) (tree node : ℕ)
      → ((x.tree ≡ tree) × (x.node ≡ node)
      × (row_of (rows_with rows x) tree node ≡ row_with x (row_of rows tree node)))
      ⊎ (((x.tree ≡ tree) → (x.node ≡ node) → ⊥)
      × (row_of (rows_with rows x) tree node ≡ row_of rows tree node))
  row-with rows tree node = ⊎_elim
      (λ (t : x.tree ≡ tree). ⊎_elim
      (λ (n : x.node ≡ node). inl (
        t,
        n,
        ap (λ nodes. get_or nodes node []) (tree_same rows tree t)
            ∙ node_same (get_or rows tree []) node n,
      ))
      (λ (apart : (x.node ≡ node) → ⊥). inr (
        λ t n. apart n,
        ap (λ nodes. get_or nodes node []) (tree_same rows tree t)
            ∙ node_other (get_or rows tree []) node apart,
      ))
      (same_or x.node node))
      (λ (apart : (x.tree ≡ tree) → ⊥). inr (
        λ t n. apart t,
        ap (λ nodes. get_or nodes node []) (tree_other rows tree apart),
      ))
      (same_or x.tree tree)

  pub length-with : (rows : List (List (List ChildStamps))) (tree node : ℕ)
      → length (row_of (rows_with rows x) tree node) ≡ length (row_of rows tree node)
  length-with rows tree node = ⊎_elim
      (λ here. ap length here.2
      ∙ length-set (row_of rows tree node) x.stamp
      (stamps_with x (get_or (row_of rows tree node) x.stamp unread)))
      (λ away. ap length away.1) (row-with rows tree node)

  -- what a row says of a stamp is more only where the install is of that node and stamp
  record At (old new : ChildStamps) (tree node stamp : ℕ) : Type 0 where
    pub t : x.tree ≡ tree
    pub n : x.node ≡ node
    pub s : x.stamp ≡ stamp
    pub at : new ≡ stamps_with x old

  record Away (old new : ChildStamps) (tree node stamp : ℕ) : Type 0 where
    pub miss : x.tree ≡ tree → x.node ≡ node → x.stamp ≡ stamp → ⊥
    pub at : new ≡ old

  at-with : (rows : List (List (List ChildStamps))) (tree node stamp : ℕ)
      → stamp < length (row_of rows tree node)
      → At (get_or (row_of rows tree node) stamp unread)
      (get_or (row_of (rows_with rows x) tree node) stamp unread) tree node stamp
      ⊎ Away (get_or (row_of rows tree node) stamp unread)
      (get_or (row_of (rows_with rows x) tree node) stamp unread) tree node stamp
  at-with rows tree node stamp less =
      let row = row_of rows tree node in
      let new = stamps_with x (get_or row x.stamp unread) in
      ⊎_elim
      (λ here. ⊎_elim
      (λ (s : x.stamp ≡ stamp). inl (record {
        t = here.0;
        n = here.1;
        s = s;
        at = ap (λ r. get_or r stamp unread) here.2
            ∙ subst (λ i. get_or (row_with x row) i unread ≡ stamps_with x (get_or row i unread)) s
            (get_or-set_same row x.stamp new unread
            (subst (λ i. i < length row) (sym s) less));
      }))
      (λ (apart : (x.stamp ≡ stamp) → ⊥). inr (record {
        miss = λ t n s. apart s;
        at = ap (λ r. get_or r stamp unread) here.2
            ∙ get_or-set_other row x.stamp stamp new unread (λ e. apart (sym e));
      }))
      (same_or x.stamp stamp))
      (λ away. inr (record {
        miss = λ t n s. away.0 t n;
        at = ap (λ r. get_or r stamp unread) away.1;
      }))
      (row-with rows tree node)

  -- the rows with one install more say one install more
  pub sums-with : (trees nodes : ℕ) (sum : ℕ → ℕ → ℕ → ℕ) (rows : List (List (List ChildStamps)))
      → AreSums trees nodes sum rows
      → AreSums trees nodes (λ t c s. sum t c s + read_by t c s x) (rows_with rows x)
  sums-with trees nodes sum rows was = record {
    left = λ tree node stamp t_in n_in less.
        let inside : stamp < length (row_of rows tree node) =
        omega (arith, less, length-with rows tree node) in
        let old = was.left tree node stamp t_in n_in inside in
        let half : (2 * node) / 2 ≡ node = omega arith in
        ⊎_elim
        (λ hit. ap (λ (c : ChildStamps). c.left) hit.at
        ∙ (ap (λ k. min (k + x.left) (2 ^ 32 - 1)) old
        ∙ (capped-more (sum tree (2 * node) stamp) x.left (2 ^ 32 - 1)
        ∙ ap (λ k. min (sum tree (2 * node) stamp + k) (2 ^ 32 - 1))
        (sym (read_by-left tree node stamp hit.t hit.n hit.s)))))
        (λ away. ap (λ (c : ChildStamps). c.left) away.at
        ∙ (old ∙ ap (λ k. min k (2 ^ 32 - 1))
        (let none = read_by-none tree (2 * node) node stamp half away.miss in omega (arith, none))))
        (at-with rows tree node stamp inside);
    right = λ tree node stamp t_in n_in less.
        let inside : stamp < length (row_of rows tree node) =
        omega (arith, less, length-with rows tree node) in
        let old = was.right tree node stamp t_in n_in inside in
        let half : (2 * node + 1) / 2 ≡ node = omega arith in
        ⊎_elim
        (λ hit. ap (λ (c : ChildStamps). c.right) hit.at
        ∙ (ap (λ k. min (k + x.right) (2 ^ 32 - 1)) old
        ∙ (capped-more (sum tree (2 * node + 1) stamp) x.right (2 ^ 32 - 1)
        ∙ ap (λ k. min (sum tree (2 * node + 1) stamp + k) (2 ^ 32 - 1))
        (sym (read_by-right tree node stamp hit.t hit.n hit.s)))))
        (λ away. ap (λ (c : ChildStamps). c.right) away.at
        ∙ (old ∙ ap (λ k. min k (2 ^ 32 - 1))
        (let none = read_by-none tree (2 * node + 1) node stamp half away.miss in
        omega (arith, none))))
        (at-with rows tree node stamp inside);
  }

module _ (trees nodes : ℕ) where
  pub sums-same : (f g : ℕ → ℕ → ℕ → ℕ) (rows : List (List (List ChildStamps)))
      → ((t c s : ℕ) → f t c s ≡ g t c s) → AreSums trees nodes f rows → AreSums trees nodes g rows
  sums-same f g rows same was = record {
    left = λ tree node stamp t_in n_in less. was.left tree node stamp t_in n_in less
        ∙ ap (λ k. min k (2 ^ 32 - 1)) (same tree (2 * node) stamp);
    right = λ tree node stamp t_in n_in less. was.right tree node stamp t_in n_in less
        ∙ ap (λ k. min k (2 ^ 32 - 1)) (same tree (2 * node + 1) stamp);
  }

  pub sums-after : (trail : List Install) (sum : ℕ → ℕ → ℕ → ℕ)
      (rows : List (List (List ChildStamps))) → AreSums trees nodes sum rows
      → AreSums trees nodes (λ t c s. sum t c s + read_in t c s trail) (rows_after rows trail)
  sums-after [] sum rows was =
      sums-same sum (λ t c s. sum t c s + read_in t c s []) rows (λ t c s. omega arith) was
  sums-after (x ∷ trail) sum rows was =
      sums-same (λ t c s. (sum t c s + read_by t c s x) + read_in t c s trail)
      (λ t c s. sum t c s + read_in t c s (x ∷ trail)) (rows_after rows (x ∷ trail))
      (λ t c s. omega arith)
      (sums-after trail (λ t c s. sum t c s + read_by t c s x) (rows_with rows x)
      (sums-with x trees nodes sum rows was))

  pub sums-of : (passes : List Did) (sum : ℕ → ℕ → ℕ → ℕ)
      (rows : List (List (List ChildStamps))) → AreSums trees nodes sum rows
      → AreSums trees nodes (λ t c s. sum t c s + read_in_all t c s passes) (rows_of rows passes)
  sums-of [] sum rows was =
      sums-same sum (λ t c s. sum t c s + read_in_all t c s []) rows (λ t c s. omega arith) was
  sums-of (did ∷ passes) sum rows was =
      sums-same (λ t c s. (sum t c s + read_in t c s did.trail) + read_in_all t c s passes)
      (λ t c s. sum t c s + read_in_all t c s (did ∷ passes)) (rows_of rows (did ∷ passes))
      (λ t c s. omega arith)
      (sums-of passes (λ t c s. sum t c s + read_in t c s did.trail) (rows_after rows did.trail)
      (sums-after did.trail sum rows was))

pub length-after : (trail : List Install) (rows : List (List (List ChildStamps))) (tree node : ℕ)
    → length (row_of (rows_after rows trail) tree node) ≡ length (row_of rows tree node)
length-after [] rows tree node = refl
length-after (x ∷ trail) rows tree node =
    length-after trail (rows_with rows x) tree node ∙ length-with x rows tree node

pub length-of : (passes : List Did) (rows : List (List (List ChildStamps))) (tree node : ℕ)
    → length (row_of (rows_of rows passes) tree node) ≡ length (row_of rows tree node)
length-of [] rows tree node = refl
length-of (did ∷ passes) rows tree node =
    length-of passes (rows_after rows did.trail) tree node
    ∙ length-after did.trail rows tree node
