-- What an order may do with legs of different trees: post the new values, read, and post the old ones.
use Rattle.std.proofs.Common.{◌≡◌, ◌≢◌, ℕ, suc, ◌+◌, ◌≤◌, ◌<◌, List, [], ◌∷◌, refl, sym, ap, ◌∙◌}
use Rattle.std.proofs.Common.{arith, Bool, true, false, ◌||◌, All, lit<}
use Rattle.std.specs.Prelude.{AllPairs, drop, nat_lt, slice_index_or}
use Rattle.std.proofs.lemmas.Bool.{ne_eqb, eq-eqb, ltb-false}
use Rattle.std.proofs.lemmas.List.Elements.{All-nil, All-cons, All-head, All-tail, All-weaker}
use Rattle.fold_law.specs.declared.limits.TheConstants.{LEAF}
use Rattle.risk_journal.specs.declared.acts.Act.{Act}
use Rattle.risk_journal.specs.ActLists.{SeenAt, posts_in}
use Rattle.admit_core.specs.declared.ask.Ask.{Ask}
use Rattle.admit_core.specs.declared.ask.Verdict.TheVariants.{Firm}
use Rattle.admit_core.specs.Admission.{with_posts, with_reads, with_asked, CanPostAll}
use Rattle.admit_core.specs.Admission.{AreInRange}
use Rattle.admit_core.specs.Asking.{lacks_posts}
use Rattle.admit_core.specs.Hands.{HandsValue}
use Rattle.admit_core.specs.Legs.{Leg, leg_at, legs_asked, trees_of, IsLegOf, AreApart}
use Rattle.admit_core.specs.Tapes.{with_post, with_read, next_read}
use Rattle.admit_core.proofs.Standings.{posts_in-own, posts_in-other, posts_in-read}

-- the first of two tests fails where none of the two holds, and so does the second
neither : (a b : Bool) → a || b ≡ false → (a ≡ false) × (b ≡ false)
neither false b none = (refl, none)
neither true b none = absurd cc

-- two posts are left in each tree
pub enough_left : (quota : ℕ) (acts : List Act) (legs : List Leg)
    → lacks_posts quota acts legs ≡ false → All (λ leg. posts_in leg.tree acts + 2 ≤ quota) legs
enough_left quota acts [] enough = All-nil (λ (leg : Leg). posts_in leg.tree acts + 2 ≤ quota)
enough_left quota acts (leg ∷ legs) enough =
    let both = neither (nat_lt quota (posts_in leg.tree acts + 2)) (lacks_posts quota acts legs) enough
    in
    All-cons (λ (own : Leg). posts_in own.tree acts + 2 ≤ quota) leg legs
    (ltb-false _ _ both.0) (enough_left quota acts legs both.1)

-- the first leg is apart from all others, and they are from each other
first_apart : (leg : Leg) (legs : List Leg) → AllPairs AreApart (leg ∷ legs)
    → All (AreApart leg) legs
first_apart leg legs apart = λ k d inside. apart 0 (suc k) d (omega arith) (omega (arith, inside))

others_apart : (leg : Leg) (legs : List Leg) → AllPairs AreApart (leg ∷ legs)
    → AllPairs AreApart legs
others_apart leg legs apart =
    λ i j d less inside. apart (suc i) (suc j) d (omega (arith, less)) (omega (arith, inside))

-- a tree of none of the legs keeps its posts
posts_elsewhere : (value : Leg → ℕ) (tree : ℕ) (legs : List Leg) (acts : List Act)
    → All (λ leg. leg.tree ≢ tree) legs
    → posts_in tree (with_posts value legs acts) ≡ posts_in tree acts
posts_elsewhere value tree [] acts other = refl
posts_elsewhere value tree (leg ∷ legs) acts other =
    let Other : Leg → Type 0 = λ own. own.tree ≢ tree in
    posts_elsewhere value tree legs (with_post leg.tree (value leg) acts)
    (All-tail Other leg legs other)
    ∙ posts_in-other tree leg.tree (value leg) acts
    (ne_eqb leg.tree tree (All-head Other leg legs other))

-- and each of the legs' has one more
posts_once : (value : Leg → ℕ) (legs : List Leg) (acts : List Act) → AllPairs AreApart legs
    → All (λ leg. posts_in leg.tree (with_posts value legs acts) ≡ posts_in leg.tree acts + 1) legs
posts_once value [] acts apart = All-nil (λ (leg : Leg). posts_in leg.tree acts ≡ posts_in leg.tree acts + 1)
posts_once value (leg ∷ legs) acts apart =
    let next : List Act = with_post leg.tree (value leg) acts in
    let others : All (AreApart leg) legs = first_apart leg legs apart in
    All-cons
    (λ (own : Leg). posts_in own.tree (with_posts value legs next) ≡ posts_in own.tree acts + 1)
    leg legs
    (posts_elsewhere value leg.tree legs next
    (All-weaker (AreApart leg) (λ own. own.tree ≢ leg.tree) (λ own is same. is (sym same)) legs others)
    ∙ posts_in-own leg.tree leg.tree (value leg) acts (eq-eqb leg.tree leg.tree refl))
    (λ k d inside. posts_once value legs next (others_apart leg legs apart) k d inside
    ∙ ap (λ n. n + 1) (posts_in-other (slice_index_or legs k d).tree leg.tree (value leg) acts
    (ne_eqb leg.tree (slice_index_or legs k d).tree (others k d inside))))

-- reads are no posts
posts_in-reads : (tree : ℕ) (trees : List ℕ) (seen : List SeenAt) (acts : List Act)
    → posts_in tree (with_reads trees seen acts) ≡ posts_in tree acts
posts_in-reads tree [] seen acts = refl
posts_in-reads tree (one ∷ trees) seen acts =
    posts_in-reads tree trees (drop 1 seen) (with_read one (next_read seen) acts)
    ∙ posts_in-read tree one (next_read seen) acts

module _ {H M : Type 0} (hands : HandsValue H M) (ask : Ask)
    (are : All (IsLegOf hands.halt_tree hands.acts) (legs_asked ask)) where
  abbrev legs : List Leg
  legs = legs_asked ask

  -- the trees are trees of sums
  pub trees_in_range : AreInRange hands.halt_tree ask.trees
  trees_in_range = record {
    firm = (are 0 (leg_at 0 Firm ask) (lit< tt)).in_range;
    account = (are 1 (leg_at 0 Firm ask) (lit< tt)).in_range;
    symbol = (are 2 (leg_at 0 Firm ask) (lit< tt)).in_range;
  }

  module _ (apart : AllPairs AreApart (legs_asked ask))
      (enough : lacks_posts hands.quota hands.acts (legs_asked ask) ≡ false) where
    left : All (λ leg. posts_in leg.tree hands.acts + 2 ≤ hands.quota) legs
    left = enough_left hands.quota hands.acts legs enough

    can_post : (after : HandsValue H M) (value : Leg → ℕ) → after.halt_tree ≡ hands.halt_tree
        → All (λ leg. posts_in leg.tree after.acts < after.quota) legs
        → All (λ leg. value leg ≤ LEAF) legs → CanPostAll after value ask
    can_post after value same left_after capped =
        let in_range = trees_in_range in
        let firm = leg_at 0 Firm ask in
        record {
          firm = record {
            in_range = omega (arith, same, in_range.firm);
            left = left_after 0 firm (lit< tt);
            capped = capped 0 firm (lit< tt);
          };
          account = record {
            in_range = omega (arith, same, in_range.account);
            left = left_after 1 firm (lit< tt);
            capped = capped 1 firm (lit< tt);
          };
          symbol = record {
            in_range = omega (arith, same, in_range.symbol);
            left = left_after 2 firm (lit< tt);
            capped = capped 2 firm (lit< tt);
          };
          firm_account = apart 0 1 firm (lit< tt) (lit< tt);
          firm_symbol = apart 0 2 firm (lit< tt) (lit< tt);
          account_symbol = apart 1 2 firm (lit< tt) (lit< tt);
        }

    -- the new values can be posted
    pub can_post_new : CanPostAll hands (λ leg. leg.new) ask
    can_post_new =
        can_post hands (λ leg. leg.new) refl (λ k d inside. omega (arith, left k d inside))
        (λ k d inside. (are k d inside).new_capped)

    -- and the old ones after them
    pub can_post_old : (after : HandsValue H M) (seen : List SeenAt)
        → after.halt_tree ≡ hands.halt_tree → after.quota ≡ hands.quota
        → after.acts ≡ with_asked hands.halt_tree (legs_asked ask) seen hands.acts
        → CanPostAll after (λ leg. leg.old) ask
    can_post_old after seen same_trees same_quota acts_are =
        can_post after (λ leg. leg.old) same_trees
        (λ k d inside.
        let tree = (slice_index_or legs k d).tree in
        let posted = with_posts (λ leg. leg.new) legs hands.acts in
        omega (
          arith,
          same_quota,
          left k d inside,
          ap (posts_in tree) acts_are
              ∙ posts_in-reads tree (hands.halt_tree ∷ trees_of legs) seen posted
              ∙ posts_once (λ leg. leg.new) legs hands.acts apart k d inside,
        ))
        (λ k d inside. (are k d inside).old_capped)
