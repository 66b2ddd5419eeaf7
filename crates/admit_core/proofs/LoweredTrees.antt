-- What lower values leave in one tree: the new value, unless no post is left.
use Rattle.std.proofs.Common.{◌≡◌, ℕ, ◌≤◌, ◌<◌, ◌==◌, List, [], ◌∷◌, refl, ap, sym, ◌∙◌}
use Rattle.std.proofs.Common.{arith, Bool, true, false, cond, min, subst, Option, Some, None}
use Rattle.std.proofs.Common.{All, IfSome, length}
use Rattle.std.specs.Prelude.{nat_le}
use Rattle.std.proofs.lemmas.Bool.{eqb-true, eq-eqb, ne_eqb}
use Rattle.std.proofs.lemmas.Bool.Decides.{nat_tests}
use Rattle.risk_journal.specs.declared.acts.Act.{Act}
use Rattle.risk_journal.specs.ActLists.{posts_in, last_post, events_of}
use Rattle.admit_core.specs.declared.rows.OrderRows.{OrderRows}
use Rattle.admit_core.specs.Admitted.{Standing, own_admitted, AdmitsLast}
use Rattle.admit_core.specs.Legs.{Leg, legs_of}
use Rattle.admit_core.specs.Lowering.{Lowered, lowered_in, lowering}
use Rattle.admit_core.specs.Tapes.{with_post}
use Rattle.limit_table.specs.Trees.{LimitsValue, account_tree, symbol_tree, limit_of}
use Rattle.admit_core.proofs.AskedTrees.{leg_in, AreDistinct, none_in_front, none_behind, KeepsTree}
use Rattle.admit_core.proofs.AskedTrees.{keeps_then}
use Rattle.admit_core.proofs.Standings.{standing_of, standing_of-own, standing_of-other}
use Rattle.admit_core.proofs.Standings.{posts_in-other, last_post-own, last_post-other}
use Rattle.admit_core.proofs.Standings.{posted-last_post}
use Rattle.admit_core.proofs.AskedAdmits.{IsLegFor}
use Rattle.std.proofs.lemmas.List.Elements.{All-head, All-tail}

-- The acts after a value was to be lowered: nothing was done, since it is as before or no post is
-- left, or it was posted.
pub data LowersOne (quota : ℕ) (leg : Leg) (acts : List Act) : List Act → Type 0 where
  Same : leg.new ≡ leg.old → LowersOne quota leg acts acts
  Spent : quota ≤ posts_in leg.tree acts → LowersOne quota leg acts acts
  Posts : LowersOne quota leg acts (with_post leg.tree leg.new acts)

spent : (quota posts : ℕ) → nat_le quota posts ≡ true → quota ≤ posts
spent quota posts is = grind (arith, nat_tests)

pub lowers_one : (limits : LimitsValue) (leg : Leg) (acts : List Act)
    → LowersOne limits.quota leg acts (lowered_in limits leg acts).acts
lowers_one limits leg acts =
    by_tests (leg.new == leg.old) refl (nat_le limits.quota (posts_in leg.tree acts)) refl
  where
    by_tests : (same : Bool) → (leg.new == leg.old) ≡ same → (none : Bool)
        → nat_le limits.quota (posts_in leg.tree acts) ≡ none
        → LowersOne limits.quota leg acts
        (cond {A = Lowered} same (record { done = true; acts = acts })
        (cond {A = Lowered} none (record { done = false; acts = acts })
        (record { done = true; acts = with_post leg.tree leg.new acts }))).acts
    by_tests true is none none_is = Same (eqb-true leg.new leg.old is)
    by_tests false is true none_is = Spent (spent limits.quota (posts_in leg.tree acts) none_is)
    by_tests false is false none_is = Posts

-- a leg of another tree
pub one_keeps : (quota tree : ℕ) (leg : Leg) (acts after : List Act) → (leg.tree == tree) ≡ false
    → LowersOne quota leg acts after → KeepsTree tree acts after
one_keeps quota tree leg acts _ other (Same is) = record { posts = refl; last = refl }
one_keeps quota tree leg acts _ other (Spent is) = record { posts = refl; last = refl }
one_keeps quota tree leg acts _ other Posts = record {
  posts = posts_in-other tree leg.tree leg.new acts other;
  last = last_post-other tree leg.tree leg.new acts other;
}

one_stands : (quota limit tree : ℕ) (leg : Leg) (acts after : List Act)
    → (leg.tree == tree) ≡ false → LowersOne quota leg acts after
    → standing_of limit tree after ≡ standing_of limit tree acts
one_stands quota limit tree leg acts _ other (Same is) = refl
one_stands quota limit tree leg acts _ other (Spent is) = refl
one_stands quota limit tree leg acts _ other Posts =
    standing_of-other limit tree leg.tree leg.new acts other

-- In a tree the value is at most what was last posted, and just that while a post is left.
pub record IsPosted (quota tree value : ℕ) (acts : List Act) : Type 0 where
  pub within : value ≤ last_post tree acts
  pub exact : posts_in tree acts < quota → last_post tree acts ≡ value

-- a leg of the tree
one_posted : (quota tree : ℕ) (leg : Leg) (acts after : List Act) → leg.tree ≡ tree
    → leg.old ≡ last_post tree acts → leg.new ≤ leg.old → LowersOne quota leg acts after
    → IsPosted quota tree leg.new after
one_posted quota tree leg acts _ same old less (Same is) =
    record { within = omega (arith, old, less); exact = λ left. sym old ∙ sym is }
one_posted quota tree leg acts _ same old less (Spent none) = record {
  within = omega (arith, old, less);
  exact = λ left. absurd (omega (arith, left, none, ap (λ t. posts_in t acts) same));
}
one_posted quota tree leg acts _ same old less Posts =
    let is : (leg.tree == tree) ≡ true = eq-eqb leg.tree tree same in
    let last = last_post-own tree leg.tree leg.new acts is in
    record { within = omega (arith, last); exact = λ left. last }

module _ (limits : LimitsValue) (tree : ℕ) where
  -- a tree with no leg keeps its posts
  pub lowering_keeps : (legs : List Leg) (acts : List Act) → leg_in tree legs ≡ None
      → KeepsTree tree acts (lowering limits legs acts).acts
  lowering_keeps [] acts none = record { posts = refl; last = refl }
  lowering_keeps (leg ∷ legs) acts none =
      let both = none_in_front tree leg legs none in
      let next : List Act = (lowered_in limits leg acts).acts in
      keeps_then tree acts next (lowering limits legs next).acts
      (one_keeps limits.quota tree leg acts next both.0 (lowers_one limits leg acts))
      (lowering_keeps legs next both.1)

  lowering_stands : (limit : ℕ) (legs : List Leg) (acts : List Act) → leg_in tree legs ≡ None
      → standing_of limit tree (lowering limits legs acts).acts ≡ standing_of limit tree acts
  lowering_stands limit [] acts none = refl
  lowering_stands limit (leg ∷ legs) acts none =
      let both = none_in_front tree leg legs none in
      let next : List Act = (lowered_in limits leg acts).acts in
      lowering_stands limit legs next both.1
      ∙ one_stands limits.quota limit tree leg acts next both.0 (lowers_one limits leg acts)

  posted_after : (value : ℕ) (acts after : List Act) → KeepsTree tree acts after
      → IsPosted limits.quota tree value acts → IsPosted limits.quota tree value after
  posted_after value acts after kept is = record {
    within = omega (arith, kept.last, is.within);
    exact = λ left. kept.last ∙ is.exact (omega (arith, left, kept.posts));
  }

  -- the tree of a leg, by whether the first leg is of it
  lowering_posts_by : (own leg : Leg) (legs : List Leg) (acts next after : List Act)
      → (leg_in tree legs ≡ None → KeepsTree tree next after)
      → LowersOne limits.quota leg acts next
      → leg_in leg.tree legs ≡ None → (here : Bool) → (leg.tree == tree) ≡ here
      → cond here (Some leg) (leg_in tree legs) ≡ Some own
      → own.old ≡ last_post tree acts → own.new ≤ own.old
      → (leg_in tree legs ≡ Some own → own.old ≡ last_post tree next
      → IsPosted limits.quota tree own.new after)
      → IsPosted limits.quota tree own.new after
  lowering_posts_by own leg legs acts next after kept one apart true is same old less later =
      let equal : leg ≡ own = cc in
      let tree_is : leg.tree ≡ tree = eqb-true leg.tree tree is in
      posted_after own.new next after (kept (none_behind tree leg legs is apart))
      (one_posted limits.quota tree own acts next (ap (λ (l : Leg). l.tree) (sym equal) ∙ tree_is)
      old less (subst (λ (l : Leg). LowersOne limits.quota l acts next) equal one))
  lowering_posts_by own leg legs acts next after kept one apart false is same old less later =
      later same (old ∙ sym (one_keeps limits.quota tree leg acts next is one).last)

  -- the tree of a leg
  pub lowering_posts : (own : Leg) (legs : List Leg) (acts : List Act)
      → leg_in tree legs ≡ Some own → AreDistinct legs → own.old ≡ last_post tree acts
      → own.new ≤ own.old → IsPosted limits.quota tree own.new (lowering limits legs acts).acts
  lowering_posts own [] acts found apart old less = absurd cc
  lowering_posts own (leg ∷ legs) acts found apart old less =
      let next : List Act = (lowered_in limits leg acts).acts in
      lowering_posts_by own leg legs acts next (lowering limits legs next).acts
      (lowering_keeps legs next) (lowers_one limits leg acts) apart.0 (leg.tree == tree) refl found
      old less
      (λ same kept. lowering_posts own legs next same apart.1 kept less)

  -- what is admitted in the tree of a leg
  one_even : (limit : ℕ) (leg : Leg) (acts after : List Act) → leg.tree ≡ tree
      → leg.old ≡ last_post tree acts → leg.new ≤ leg.old
      → (standing_of limit tree acts).admitted ≡ (standing_of limit tree acts).posted
      → LowersOne limits.quota leg acts after
      → (standing_of limit tree after).admitted ≡ (standing_of limit tree after).posted
  one_even limit leg acts _ same old less even (Same is) = even
  one_even limit leg acts _ same old less even (Spent is) = even
  one_even limit leg acts _ same old less even Posts =
      let now = standing_of-own limit tree leg.tree leg.new acts (eq-eqb leg.tree tree same) in
      let posted = posted-last_post limit tree acts in
      let low : min (standing_of limit tree acts).admitted leg.new ≡ leg.new =
      omega (arith, old, less, even, posted) in
      ap (λ (s : Standing). s.admitted) now ∙ low ∙ sym (ap (λ (s : Standing). s.posted) now)

  lowering_even_by : (limit : ℕ) (own leg : Leg) (legs : List Leg) (acts next after : List Act)
      → (leg_in tree legs ≡ None → standing_of limit tree after ≡ standing_of limit tree next)
      → LowersOne limits.quota leg acts next
      → leg_in leg.tree legs ≡ None → (here : Bool) → (leg.tree == tree) ≡ here
      → cond here (Some leg) (leg_in tree legs) ≡ Some own
      → own.old ≡ last_post tree acts → own.new ≤ own.old
      → (standing_of limit tree acts).admitted ≡ (standing_of limit tree acts).posted
      → (leg_in tree legs ≡ Some own → own.old ≡ last_post tree next
      → (standing_of limit tree next).admitted ≡ (standing_of limit tree next).posted
      → (standing_of limit tree after).admitted ≡ (standing_of limit tree after).posted)
      → (standing_of limit tree after).admitted ≡ (standing_of limit tree after).posted
  lowering_even_by limit own leg legs acts next after kept one apart true is same old less even
      later =
      let equal : leg ≡ own = cc in
      let tree_is : leg.tree ≡ tree = eqb-true leg.tree tree is in
      let now = one_even limit own acts next (ap (λ (l : Leg). l.tree) (sym equal) ∙ tree_is)
      old less even (subst (λ (l : Leg). LowersOne limits.quota l acts next) equal one) in
      subst (λ (s : Standing). s.admitted ≡ s.posted)
      (sym (kept (none_behind tree leg legs is apart))) now
  lowering_even_by limit own leg legs acts next after kept one apart false is same old less even
      later =
      later same (old ∙ sym (one_keeps limits.quota tree leg acts next is one).last)
      (subst (λ (s : Standing). s.admitted ≡ s.posted)
      (sym (one_stands limits.quota limit tree leg acts next is one)) even)

  lowering_even : (limit : ℕ) (own : Leg) (legs : List Leg) (acts : List Act)
      → leg_in tree legs ≡ Some own → AreDistinct legs → own.old ≡ last_post tree acts
      → own.new ≤ own.old
      → (standing_of limit tree acts).admitted ≡ (standing_of limit tree acts).posted
      → (let after = (lowering limits legs acts).acts in
      (standing_of limit tree after).admitted ≡ (standing_of limit tree after).posted)
  lowering_even limit own [] acts found apart old less even = absurd cc
  lowering_even limit own (leg ∷ legs) acts found apart old less even =
      let next : List Act = (lowered_in limits leg acts).acts in
      lowering_even_by limit own leg legs acts next (lowering limits legs next).acts
      (lowering_stands limit legs next) (lowers_one limits leg acts) apart.0 (leg.tree == tree)
      refl found old less even
      (λ same kept now. lowering_even limit own legs next same apart.1 kept less now)

-- the leg of a tree is one of the list
pub leg_has : (P : Leg → Type 0) (tree : ℕ) (own : Leg) (legs : List Leg)
    → leg_in tree legs ≡ Some own → All P legs → (own.tree ≡ tree) × P own
leg_has P tree own [] found all = absurd cc
leg_has P tree own (leg ∷ legs) found all =
    by_test (leg.tree == tree) refl found
    (λ same. leg_has P tree own legs same (All-tail P leg legs all))
  where
    by_test : (here : Bool) → (leg.tree == tree) ≡ here
        → cond here (Some leg) (leg_in tree legs) ≡ Some own
        → (leg_in tree legs ≡ Some own → (own.tree ≡ tree) × P own)
        → (own.tree ≡ tree) × P own
    by_test true is same later =
        let equal : leg ≡ own = cc in
        subst (λ (l : Leg). (l.tree ≡ tree) × P l) equal
        (eqb-true leg.tree tree is, All-head P leg legs all)
    by_test false is same later = later same

-- The three trees of rows are different ones where the account's is a row of the limits.
pub legs_apart : (limits : LimitsValue) (rows : OrderRows) (acts : List Act) (values : List ℕ)
    → rows.account < length limits.accounts → AreDistinct (legs_of limits rows acts values)
legs_apart limits rows acts values inside =
    let account = account_tree rows.account in
    let symbol = symbol_tree limits rows.symbol in
    let firm_account = ne_eqb account 0 (λ e. absurd (omega (arith, e))) in
    let firm_symbol = ne_eqb symbol 0 (λ e. absurd (omega (arith, e))) in
    let account_symbol = ne_eqb symbol account (λ e. absurd (omega (arith, e, inside))) in
    (rw (firm_account, firm_symbol) refl, (rw account_symbol refl, (refl, tt)))

pub lowered_admits : (limits : LimitsValue) (legs : List Leg) (acts : List Act) → AreDistinct legs
    → All (IsLegFor limits acts) legs → AdmitsLast limits acts
    → All (λ leg. leg.new ≤ leg.old) legs → AdmitsLast limits (lowering limits legs acts).acts
lowered_admits limits legs acts apart are admits less tree =
    by_limit (limit_of limits tree) (admits tree)
  where
    even : (limit : ℕ) (found : Option Leg) → leg_in tree legs ≡ found
        → (standing_of limit tree acts).admitted ≡ (standing_of limit tree acts).posted
        → (standing_of limit tree (lowering limits legs acts).acts).admitted
        ≡ (standing_of limit tree (lowering limits legs acts).acts).posted
    even limit None is now =
        subst (λ (s : Standing). s.admitted ≡ s.posted)
        (sym (lowering_stands limits tree limit legs acts is)) now
    even limit (Some own) is now =
        let has = leg_has (IsLegFor limits acts) tree own legs is are in
        let lower = leg_has (λ leg. leg.new ≤ leg.old) tree own legs is less in
        lowering_even limits tree limit own legs acts is apart
        (has.1.old ∙ ap (λ t. last_post t acts) has.0) lower.1 now

    by_limit : (found : Option ℕ)
        → IfSome found (λ limit. own_admitted limit (events_of tree acts) ≡ last_post tree acts)
        → IfSome found (λ limit. own_admitted limit
        (events_of tree (lowering limits legs acts).acts)
        ≡ last_post tree (lowering limits legs acts).acts)
    by_limit None holds = tt
    by_limit (Some limit) holds =
        even limit (leg_in tree legs) refl (holds ∙ sym (posted-last_post limit tree acts))
        ∙ posted-last_post limit tree (lowering limits legs acts).acts
