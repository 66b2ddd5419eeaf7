-- A won exchange keeps the stamp part.
use Rattle.std.proofs.Common.{◌≡◌, ◌≢◌, ◌⊎◌, ℕ, zero, suc, ◌+◌, ◌*◌, ◌/◌, ◌^◌, ◌<◌, ◌≤◌, Bool, true, false, List, [], ◌∷◌, ◌++◌, set, Option, Some, None, refl, sym, ap, ◌∙◌, subst, ⊎_elim, inl, inr, arith, length-set}
use mathlib.Core.Option.{some}
use lib.ListN.{get_elem?}
use Rattle.std.specs.Prelude.{IfSome, slice_set}
use Rattle.atomic_table.proofs.Lists.{at_set}
use Rattle.stamp_word.specs.Word.{stamp_in}
use Rattle.stamp_word.specs.Places.{place_of, leaf_of}
use Rattle.node_rule.specs.declared.view.View.{View}
use Rattle.node_rule.specs.declared.view.View.TheVariants.{Session}
use Rattle.node_rule.specs.declared.view.Stage.{Stage}
use Rattle.node_rule.specs.declared.view.Track.{Track}
use Rattle.node_rule.specs.declared.view.Try.{Try}
use Rattle.node_rule.specs.declared.view.Install.{Install}
use Rattle.node_rule.specs.declared.view.Ascent.{Ascent}
use Rattle.node_rule.specs.declared.view.Plan.{Plan}
use Rattle.node_rule.specs.Views.{installed, tracks_of, ascent_of, first_of, child_in, pick, is_left, staged, risen}
use Rattle.node_rule.specs.Sums.{Each, when, is_at, installs_in, posts_in}
use Rattle.node_rule.specs.Fronts.{Board, board_of, ancestor, cover}
use Rattle.node_rule.specs.StampPart.{IsAbove, IsGrown, IsLoaded, IsTry, IsAscent, IsPast, IsPresent, IsTrack, IsView, Refreshes, IsStamped}
use Rattle.node_rule.proofs.Tree.{IsLater, ancestor-within, cover_rises, cover_below, cover_stays}
use Rattle.node_rule.proofs.Quiet.{numbers-same, pairs-set}
use Rattle.node_rule.proofs.Stages.{stage_try, view_ascent, there_of}
use Rattle.node_rule.proofs.Children.{IsTrying, left_child, right_child, in_levels, below_levels}
use Rattle.node_rule.proofs.Later.{IsInner, ascent_inner, ReadsNew, call_later, idle_later, view_later}
use Rattle.node_rule.proofs.Arrival.{arrives, fresh_onward, fresh_back, risen_fresh}
use Rattle.node_rule.proofs.Adding.{located-none, located-some, trail-add}
use Rattle.node_rule.proofs.Installed.{IsInstalled, here_or, old_or_new, board-installed, grown_installed, later_installed}

-- nodes further up have smaller numbers
pub ancestor_falls : (levels session low high : ℕ) → session < 2 ^ levels → low < high
    → high ≤ levels → ancestor (leaf_of levels session) high < ancestor (leaf_of levels session) low
ancestor_falls levels session low zero in_range lt le = absurd (omega arith)
ancestor_falls levels session low (suc high) in_range lt le =
    let node = ancestor-within levels high session in_range (omega arith) in
    let from_one = node.low in
    ⊎_elim (λ (same : low ≡ high). subst (λ (n : ℕ). ancestor (leaf_of levels session)
    (suc high) < ancestor (leaf_of levels session) n) (sym same) (omega arith))
    (λ (less : low < high). let more = ancestor_falls levels session low high in_range less
    (omega arith) in omega arith)
    (same_or low high lt)
  where
    same_or : (low high : ℕ) → low < suc high → (low ≡ high) ⊎ (low < high)
    same_or low high lt = ⊎_elim (λ (p : low < high). inr p) (λ (p : high ≤ low). inl (omega arith))
        (Rattle.std.proofs.lemmas.Bool.cases_lt low high)

picked : (P : ℕ → Type 0) (b : Bool) (left right : ℕ) → (b ≡ true → P left) → (b ≡ false → P right)
    → P (pick b left right)
picked P true left right f g = f refl
picked P false left right f g = g refl

-- the word that a full try has loaded of a child
full_child : (P : ℕ → Type 0) (b : Bool) (left right : ℕ)
    → IfSome (pick b (Some left) (Some right)) (λ w. P (stamp_in w))
    → P (pick b (stamp_in left) (stamp_in right))
full_child P true left right h = h
full_child P false left right h = h

pub each-append : {A : Type 0} (P : A → Type 0) (xs : List A) (x : A) → Each P xs → P x
    → Each P (xs ++ x ∷ [])
each-append P [] x h p = (p, tt)
each-append P (y ∷ ys) x h p = (h.0, each-append P ys x h.1 p)

pub each_all : {A : Type 0} (P : A → Type 0) (xs : List A) → ((x : A) → P x) → Each P xs
each_all P [] f = tt
each_all P (x ∷ xs) f = (f x, each_all P xs f)

module _ (plan : Plan) (words : List ℕ) (views : List View) (seat levels : ℕ) (track : Track)
    (x : Ascent) (make : Try → Stage) (parent left right word : ℕ) where
  abbrev pub full : Try
  full = record { parent = parent; left = Some left; right = Some right }

  abbrev pub install : Install
  install = record {
    tree = x.tree;
    node = x.node / 2;
    stamp = suc (stamp_in parent);
    left =
        stamp_in left;
    right = stamp_in right;
  }

  abbrev pub before : View
  before = Session levels track (Some (staged x (make full)))

  abbrev pub after : View
  after = Session levels (installed track install) (risen x (suc (stamp_in parent)))

  abbrev pub b : Board
  b = board_of plan.levels words views

  abbrev pub next_words : List ℕ
  next_words = slice_set words (place_of plan.levels x.tree (x.node / 2)) word

  abbrev pub c : Board
  c = board_of plan.levels next_words (set views seat after)

  module _ (trying : IsTrying plan b make) (h : IsStamped plan words views)
      (at : get_elem? views seat ≡ some before)
      (now : b.stamp x.tree (x.node / 2) ≡ stamp_in parent)
      (word_is : stamp_in word ≡ suc (stamp_in parent)) where
    pub is : IsTrack plan b track (Some (staged x (make full)))
    is = (h.each seat before at).1

    pub mine : IsAscent plan b track.number (staged x (make full))
    mine = is.present.ascends

    pub inner : IsInner plan (staged x (make full))
    inner = ascent_inner plan b track.number (staged x (make full)) h.planned is.past.number mine

    pub try : IsTry plan b x.tree x.node x.held full
    try = subst (λ (o : Option Try). IfSome o (IsTry plan b x.tree x.node x.held))
        (trying.tried full) (stage_try plan b x.tree x.node x.held (make full) mine.stage)

    session_in : track.number < 2 ^ plan.levels
    session_in = in_levels is.past.number h.planned.sessions

    -- what the try loaded of a child
    loaded : (child : ℕ) → child / 2 ≡ x.node / 2 → (P : ℕ → Type 0)
        → ((w : ℕ) → IsLoaded plan b x.tree x.node x.held parent child w → P (stamp_in w))
        → P (pick (is_left child) (stamp_in left) (stamp_in right))
    loaded child halves P f = picked P (is_left child) (stamp_in left) (stamp_in right)
        (λ even. f left (subst (λ (n : ℕ). IsLoaded plan b x.tree x.node x.held parent n left)
        (sym (left_child child even ∙ ap (λ (n : ℕ). 2 * n) halves)) try.left))
        (λ odd. f right (subst (λ (n : ℕ). IsLoaded plan b x.tree x.node x.held parent n right)
        (sym (right_child child odd ∙ ap (λ (n : ℕ). 2 * n + 1) halves)) try.right))

    pub change : IsInstalled plan b c x.tree (x.node / 2) (stamp_in left) (stamp_in right)
    change = let low = inner.low in let high = inner.high in
        board-installed plan words views seat levels track (Some (staged x (make full)))
        (risen x (suc (stamp_in parent))) install word at h.width mine.tree (omega arith)
        (omega arith) (omega arith)
        (h.grown.none_else x.tree (x.node / 2) (suc (stamp_in parent)) mine.tree (omega arith)
        (omega arith) (omega arith))

    newer : (child : ℕ) → child / 2 ≡ x.node / 2
        → b.seen x.tree child (b.stamp x.tree (x.node / 2)) ≤ pick (is_left child) (stamp_in left)
        (stamp_in right)
    newer child halves = subst (λ (s : ℕ). b.seen x.tree child s ≤ pick (is_left child)
        (stamp_in left) (stamp_in right)) (sym now)
        (loaded child halves (λ s. b.seen x.tree child (stamp_in parent) ≤ s) (λ w l. l.newer))

    within : (child : ℕ) → child / 2 ≡ x.node / 2
        → pick (is_left child) (stamp_in left) (stamp_in right) ≤ b.stamp x.tree child
    within child halves = loaded child halves (λ s. s ≤ b.stamp x.tree child) (λ w l. l.reached)

    pub later : IsLater plan b c
    later = let low = inner.low in let high = inner.high in
        later_installed plan b c x.tree (x.node / 2) (stamp_in left)
        (stamp_in right) change h.grown mine.tree (omega arith) (omega arith) newer within

    pub grown : IsGrown plan c
    grown = let low = inner.low in let high = inner.high in
        grown_installed plan b c x.tree (x.node / 2) (stamp_in left)
        (stamp_in right) change h.grown mine.tree (omega arith) (omega arith) newer within

    -- where another ascent asks it of the new install, the try has told that ascent
    reads_new : (u : Ascent) → 2 ≤ u.node → u.node < 2 * 2 ^ plan.levels
        → Refreshes u (staged x (make full)) → ReadsNew plan b c h.planned h.grown later u
    reads_new u low high told = with_first (first_of u.stage)
        (λ same_tree same_parent. subst (λ (o : Option Try). IfSome (first_of u.stage)
        (λ s. IfSome o (λ z. s < stamp_in z.parent
        → IfSome (child_in z u.node) (λ w. u.held ≤ stamp_in w)))) (trying.tried full)
        (told same_tree same_parent))
      where
        with_first : (o : Option ℕ) → (u.tree ≡ x.tree → u.node / 2 ≡ x.node / 2
            → IfSome o (λ s. s < stamp_in parent
            → IfSome (child_in full u.node) (λ w. u.held ≤ stamp_in w)))
            → IfSome o (λ s. (stamp : ℕ) → s + 2 ≤ stamp → b.stamp u.tree (u.node / 2) < stamp
            → stamp ≤ c.stamp u.tree (u.node / 2) → u.held ≤ c.seen u.tree u.node stamp)
        with_first None told = tt
        with_first (Some s) told = λ stamp late above reached. ⊎_elim
            (λ (old : stamp ≤ b.stamp u.tree (u.node / 2)). absurd (omega arith))
            (λ (new : (u.tree ≡ x.tree) × (u.node / 2 ≡ x.node / 2)
            × (stamp ≡ suc (b.stamp x.tree (x.node / 2)))).
            let after_first : s < stamp_in parent = let e = new.2 in omega arith in
            let held : u.held ≤ pick (is_left u.node) (stamp_in left) (stamp_in right) =
            full_child (λ n. u.held ≤ n) (is_left u.node) left right
            (told new.0 new.1 after_first) in
            subst (λ (p : ℕ × ℕ). u.held ≤ c.seen p.0 u.node p.1) (λ i. (sym new.0 i, sym new.2 i))
            (subst (λ (n : ℕ). u.held ≤ n) (sym (change.read u.node new.1)) held))
            (old_or_new plan b c x.tree (x.node / 2) (stamp_in left)
            (stamp_in right) change h.grown mine.tree (let l = inner.low in
            omega arith) (let g = inner.high in omega arith) newer within u.tree
            (u.node / 2) stamp (omega arith) reached)

    -- the caller's own part
    past : IsPast plan c (installed track install)
    past = record {
      number = is.past.number;
      own = λ tree. is.past.own tree ∙ sym (change.posts track.number tree);
      quota = is.past.quota;
      installs = λ tree node. let more = trail-add
          (λ z. when (is_at tree node z) 1) track install in ⊎_elim
          (λ (same : (tree ≡ x.tree) × (node ≡ x.node / 2)).
          let one : when (is_at tree node install) 1 ≡ 1 =
          located-some install tree node (sym same.0) (sym same.1) in
          let few : installs_in x.tree (ancestor (leaf_of plan.levels track.number)
          (suc x.height)) track < posts_in x.tree track =
          is.present.fewer (suc x.height) (omega arith) mine.height in
          let few' : installs_in x.tree (x.node / 2) track < posts_in x.tree track =
          subst (λ (n : ℕ). installs_in x.tree (n / 2) track < posts_in x.tree track)
          (sym mine.node) few in
          let few'' : installs_in tree node track < posts_in tree track =
          subst (λ (p : ℕ × ℕ). installs_in p.0 p.1 track < posts_in p.0 track)
          (λ i. (sym same.0 i, sym same.1 i)) few' in
          omega arith)
          (λ (apart : tree ≡ x.tree → node ≡ x.node / 2 → ⊥).
          let none : when (is_at tree node install) 1 ≡ 0 =
          located-none install tree node (λ p q. apart (sym p) (sym q)) in
          let few = is.past.installs tree node in omega arith)
          (here_or x.tree (x.node / 2) tree node);
      trail = each-append (IsAbove plan track.number) track.trail install is.past.trail
          (record {
            tree = mine.tree;
            above =
                (x.height, mine.height, ap (λ (n : ℕ). n / 2) mine.node);
          });
      calls = λ k call found. call_later plan b c h.planned h.grown later track.number
          is.past.number _ call (is.past.calls k call found);
      in_order = is.past.in_order;
    }

    -- the new stamp covers what the loaded stamp of the ascent's node covers
    covers : cover (c.seen x.tree) (leaf_of plan.levels track.number) (suc x.height)
        (suc (stamp_in parent)) ≡ c.posts track.number x.tree
    covers =
        let read : ℕ = pick (is_left x.node) (stamp_in left) (stamp_in right) in
        let seen : c.seen x.tree x.node (suc (stamp_in parent)) ≡ read =
        subst (λ (s : ℕ). c.seen x.tree x.node (suc s) ≡ read) now (change.read x.node refl) in
        let seen_here : c.seen x.tree (ancestor (leaf_of plan.levels track.number) x.height)
        (suc (stamp_in parent)) ≡ read =
        subst (λ (n : ℕ). c.seen x.tree n (suc (stamp_in parent)) ≡ read) mine.node seen in
        let held : x.held ≤ read = loaded x.node refl (λ s. x.held ≤ s) (λ w l. l.own refl) in
        let reached : read ≤ b.stamp x.tree (ancestor (leaf_of plan.levels track.number) x.height) =
        subst (λ (n : ℕ). read ≤ b.stamp x.tree n) mine.node (within x.node refl) in
        let stays = cover_stays plan b h.grown x.tree track.number mine.tree session_in c later
        x.height read (below_levels mine.height) reached in
        let rises = cover_rises plan b h.grown x.tree track.number mine.tree session_in x.height
        x.held read (below_levels mine.height) held reached in
        let most = cover_below plan b h.grown x.tree track.number mine.tree session_in x.height read
        (below_levels mine.height) reached in
        let all = mine.covers in
        let exact : cover (b.seen x.tree) (leaf_of plan.levels track.number) x.height read
        ≡ b.posts track.number x.tree = omega arith in
        ap (λ (s : ℕ). cover (c.seen x.tree) (leaf_of plan.levels track.number) x.height s)
        seen_here ∙ (stays ∙ (exact ∙ sym (change.posts track.number x.tree)))

    present : IsPresent plan c (installed track install) (risen x (suc (stamp_in parent)))
    present = arrives plan c h.planned grown (installed track install) is.past.number x
        (suc (stamp_in parent)) mine.tree mine.height mine.node
        (let up = change.stamp in omega arith)
        covers
        (λ tree tree_in other. idle_later plan b c h.planned h.grown later track.number
        is.past.number grown tree tree_in (change.posts track.number tree)
        (is.present.idle tree tree_in other))
        (λ height more le.
        let added = trail-add (λ z. when (is_at x.tree
        (ancestor (leaf_of plan.levels track.number) height) z) 1) track install in
        let falls = ancestor_falls plan.levels track.number
        (suc x.height) height session_in more le in
        let node : x.node / 2 ≡ ancestor (leaf_of plan.levels track.number) (suc x.height) =
        ap (λ (n : ℕ). n / 2) mine.node in
        let none : when (is_at x.tree (ancestor (leaf_of plan.levels track.number) height) install)
        1 ≡ 0 = located-none install x.tree (ancestor (leaf_of plan.levels track.number) height)
        (λ _ q. omega arith) in
        let few = is.present.fewer height (omega arith) le in omega arith)

    pub won : IsStamped plan next_words (set views seat after)
    won = record {
      planned = h.planned;
      width = length-set words (place_of plan.levels x.tree (x.node / 2)) word ∙ h.width;
      grown = grown;
      each = each-set';
      pairs = pairs-set views seat after h.pairs
          (λ j u _ _. (
            fresh_onward levels (installed track install)
                (risen x (suc (stamp_in parent))) u (risen_fresh x (suc (stamp_in parent))),
            fresh_back levels (installed track install) (risen x (suc (stamp_in parent))) u
                (risen_fresh x (suc (stamp_in parent))),
          ))
          (fresh_onward levels (installed track install) (risen x (suc (stamp_in parent))) after
          (risen_fresh x (suc (stamp_in parent))));
      numbers = numbers-same plan views seat before after at
          (record {
            stands = λ number. refl;
            tracks = refl;
            keepers = refl;
            given =
                refl;
          }) h.numbers;
    }
      where
        each-set' : (j : ℕ) (u : View) → get_elem? (set views seat after) j ≡ some u
            → IsView plan c u
        each-set' j u e = ⊎_elim
            (λ (a : (j ≡ seat) × (after ≡ u)). subst (IsView plan c) a.1
            ((h.each seat before at).0, record { past = past; present = present }))
            (λ (a : (j ≢ seat) × (get_elem? views j ≡ some u)).
            view_later plan b c h.planned h.grown later grown u
            (each_all (λ (t : Track). (tree : ℕ) → c.posts t.number tree ≡ b.posts t.number tree)
            (tracks_of u) (λ t tree. change.posts t.number tree))
            (view_ascent plan b (ReadsNew plan b c h.planned h.grown later) u (h.each j u a.1)
            (λ number y number_in ascent same. let stands =
            ascent_inner plan b number y h.planned number_in ascent in
            reads_new y stands.low stands.high
            (there_of (λ o. IfSome o (λ z. Refreshes z (staged x (make full))))
            (ascent_of u) y same (h.pairs j seat u before a.1 at))))
            (h.each j u a.1))
            (at_set views seat j after u e)
