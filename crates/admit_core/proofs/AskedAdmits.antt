-- After the trees were asked each last post is admitted, whatever the roots said.
use Rattle.std.proofs.Common.{◌≡◌, ◌≢◌, ℕ, ◌≤◌, ◌==◌, List, [], ◌∷◌, fold, refl, ap, sym, ◌∙◌}
use Rattle.std.proofs.Common.{arith, Bool, true, false, cond, subst, Option, Some, None}
use Rattle.std.proofs.Common.{All, IfSome}
use Rattle.std.specs.Prelude.{drop, map, nat_lt, nat_le, slice_index, slice_index_or}
use Rattle.std.proofs.lemmas.Bool.{eqb-true}
use Rattle.std.proofs.lemmas.Bool.Decides.{nat_tests}
use Rattle.std.proofs.lemmas.List.Elements.{All-head, All-tail, All-weaker}
use Rattle.std.proofs.lemmas.Option.{get_or_from_slice_get}
use Rattle.risk_journal.specs.declared.acts.Act.{Act}
use Rattle.risk_journal.specs.ActLists.{SeenAt, last_post, events_of}
use Rattle.admit_core.specs.declared.ask.Verdict.{Verdict}
use Rattle.admit_core.specs.declared.ask.Verdict.TheVariants as verdict
use Rattle.admit_core.specs.declared.ask.Verdict.TheVariants.{Firm, Account, Symbol}
use Rattle.admit_core.specs.declared.rows.OrderRows.{OrderRows}
use Rattle.admit_core.specs.Admitted.{Standing, after_post, after_read, own_admitted, AdmitsLast}
use Rattle.admit_core.specs.Asking.{post_new, post_old, read_root, roots_of, posted_and_read}
use Rattle.admit_core.specs.Asking.{Asked, settled, is_short, asking, verdict_of, first_above}
use Rattle.admit_core.specs.Legs.{Leg, leg_with, legs_of}
use Rattle.admit_core.specs.Tapes.{Tape, next_read}
use Rattle.limit_table.specs.Trees.{LimitsValue, halt_tree, tree_limits, limit_of}
use Rattle.limit_table.specs.Trees.{account_tree, symbol_tree}
use Rattle.admit_core.proofs.Standings.{standing_of, standing_of-own, standing_of-other}
use Rattle.admit_core.proofs.Standings.{standing_of-read, posted-last_post}
use Rattle.admit_core.proofs.AskedTrees.{all_three, leg_in, post_by, reads-post_by}
use Rattle.admit_core.proofs.AskedTrees.{standing_of-post_by}

-- all that is posted is admitted
abbrev IsEven : Standing → Type 0
IsEven standing = standing.admitted ≡ standing.posted

-- this value and no other is posted, and it is admitted
abbrev IsAt : ℕ → Standing → Type 0
IsAt value standing = (standing.posted ≡ value) × (standing.admitted ≡ value)

-- at least this value is posted, and at least this is admitted
abbrev IsAbove : ℕ → Standing → Type 0
IsAbove value standing = (value ≤ standing.posted) × (value ≤ standing.admitted)

even_after_read : (limit value : ℕ) (standing : Standing) → IsEven standing
    → IsEven (after_read limit value standing)
even_after_read limit value standing even = by_test (nat_le value limit)
  where
    by_test : (within : Bool) → cond within standing.posted standing.admitted ≡ standing.posted
    by_test true = refl
    by_test false = even

above_after_read : (low limit value : ℕ) (standing : Standing) → IsAbove low standing
    → IsAbove low (after_read limit value standing)
above_after_read low limit value standing above = (above.0, by_test (nat_le value limit))
  where
    by_test : (within : Bool) → low ≤ cond within standing.posted standing.admitted
    by_test true = above.0
    by_test false = above.1

above_after_post : (low value : ℕ) (standing : Standing) → low ≤ value → IsAbove low standing
    → IsAbove low (after_post value standing)
above_after_post low value standing more above = (more, omega (arith, more, above.1))

at_after_post : (value : ℕ) (standing : Standing) → IsAbove value standing
    → IsAt value (after_post value standing)
at_after_post value standing above = (refl, omega (arith, above.1))

-- what is above a value from what is at it
above_by_at : (value : ℕ) (standing : Standing) → IsAt value standing → IsAbove value standing
above_by_at value standing at = (omega (arith, at.0), omega (arith, at.1))

within_is : (limit value : ℕ) → nat_lt limit value ≡ false → nat_le value limit ≡ true
within_is limit value within = grind (arith, nat_tests)

-- nobody has halted where an order is sent
not_halted : (legs : List Leg) (reads : List SeenAt) (halted : Bool)
    → cond halted verdict.Halt (first_above legs (drop 1 reads)) ≡ verdict.Sent
    → first_above legs (drop 1 reads) ≡ verdict.Sent
not_halted legs reads true sent = absurd cc
not_halted legs reads false sent = sent

-- A leg of a tree after these acts: the old value is what was last posted there, the limit is the
-- tree's, and its own verdict refuses.
pub record IsLegFor (limits : LimitsValue) (acts : List Act) (leg : Leg) : Type 0 where
  pub old : leg.old ≡ last_post leg.tree acts
  pub limit : leg.limit ≡ slice_index_or (tree_limits limits) leg.tree 0
  pub refuses : leg.above ≢ verdict.Sent

-- one tree with a limit
module _ (limits : LimitsValue) (limit tree : ℕ) (at : limit_of limits tree ≡ Some limit) where
  abbrev standing : Tape → Standing
  standing before = standing_of limit tree before.acts

  -- what every read keeps
  kept_by_reads : (P : Standing → Type 0)
      → ((value : ℕ) (one : Standing) → P one → P (after_read limit value one))
      → (roots : List ℕ) (before : Tape) → P (standing before)
      → P (standing (fold read_root before roots))
  kept_by_reads P each [] before holds = holds
  kept_by_reads P each (root ∷ roots) before holds =
      kept_by_reads P each roots (read_root before root)
      (subst P (sym (standing_of-read limit tree root (next_read before.reads) before.acts))
      (by_test (root == tree)))
    where
      by_test : (here : Bool) → P (cond here
          (after_read limit (next_read before.reads).value (standing before)) (standing before))
      by_test true = each (next_read before.reads).value (standing before) holds
      by_test false = holds

  -- a post in the tree keeps what each post of this value keeps
  kept_by_post : (P : Standing → Type 0) (value : Leg → ℕ) (leg : Leg) (before : Tape)
      → (leg.tree ≡ tree → (one : Standing) → P one → P (after_post (value leg) one))
      → P (standing before) → (here : Bool) → (leg.tree == tree) ≡ here
      → P (standing (post_by value before leg))
  kept_by_post P value leg before each holds true is =
      subst P (sym (standing_of-own limit tree leg.tree (value leg) before.acts is))
      (each (eqb-true leg.tree tree is) (standing before) holds)
  kept_by_post P value leg before each holds false is =
      subst P (sym (standing_of-other limit tree leg.tree (value leg) before.acts is)) holds

  -- what every post of one of these values keeps
  kept_by_posts : (P : Standing → Type 0) (value : Leg → ℕ) (legs : List Leg) (before : Tape)
      → All (λ leg. leg.tree ≡ tree → (one : Standing) → P one → P (after_post (value leg) one))
      legs
      → P (standing before) → P (standing (fold (post_by value) before legs))
  kept_by_posts P value [] before each holds = holds
  kept_by_posts P value (leg ∷ legs) before each holds =
      let Keeps : Leg → Type 0 =
      λ own. own.tree ≡ tree → (one : Standing) → P one → P (after_post (value own) one) in
      kept_by_posts P value legs (post_by value before leg) (All-tail Keeps leg legs each)
      (kept_by_post P value leg before (All-head Keeps leg legs each) holds (leg.tree == tree) refl)

  -- this is the old value of a leg of the tree
  abbrev HasOld : ℕ → Leg → Type 0
  HasOld low leg = leg.tree ≡ tree → leg.old ≡ low

  -- this is at most the new value of a leg of the tree
  abbrev Raises : ℕ → Leg → Type 0
  Raises low leg = leg.tree ≡ tree → low ≤ leg.new

  old_again_by : (low : ℕ) (own leg : Leg) (legs : List Leg) (before last : Tape)
      → last ≡ fold post_old (post_old before leg) legs
      → HasOld low leg → All (HasOld low) legs
      → IsAbove low (standing before) → (here : Bool) → (leg.tree == tree) ≡ here
      → cond here (Some leg) (leg_in tree legs) ≡ Some own
      → (leg_in tree legs ≡ Some own → IsAbove low (standing (post_old before leg))
      → IsAt low (standing last))
      → IsAt low (standing last)
  old_again_by low own leg legs before last last_is old olds above true is same later =
      let now : standing (post_old before leg) ≡ after_post low (standing before) =
      standing_of-own limit tree leg.tree leg.old before.acts is
      ∙ ap (λ n. after_post n (standing before)) (old (eqb-true leg.tree tree is)) in
      subst (λ (t : Tape). IsAt low (standing t)) (sym last_is)
      (kept_by_posts (IsAt low) (λ other. other.old) legs (post_old before leg)
      (All-weaker (HasOld low)
      (λ other. other.tree ≡ tree → (one : Standing) → IsAt low one
      → IsAt low (after_post other.old one))
      (λ other has is one at_low. subst (λ n. IsAt low (after_post n one)) (sym (has is))
      (at_after_post low one (above_by_at low one at_low))) legs olds)
      (subst (IsAt low) (sym now) (at_after_post low (standing before) above)))
  old_again_by low own leg legs before last last_is old olds above false is same later =
      later same (subst (IsAbove low)
      (sym (standing_of-other limit tree leg.tree leg.old before.acts is)) above)

  -- the old value of the tree again
  old_again : (low : ℕ) (own : Leg) (legs : List Leg) (before : Tape)
      → leg_in tree legs ≡ Some own → All (HasOld low) legs → IsAbove low (standing before)
      → IsAt low (standing (fold post_old before legs))
  old_again low own [] before found olds above = absurd cc
  old_again low own (leg ∷ legs) before found olds above =
      let later : All (HasOld low) legs = All-tail (HasOld low) leg legs olds in
      old_again_by low own leg legs before (fold post_old before (leg ∷ legs)) refl
      (All-head (HasOld low) leg legs olds) later above (leg.tree == tree) refl found
      (λ same high. old_again low own legs (post_old before leg) same later high)

  -- the limit of a leg of the tree is the tree's
  limit_is : (acts : List Act) (leg : Leg) → IsLegFor limits acts leg → leg.tree ≡ tree
      → leg.limit ≡ limit
  limit_is acts leg is same =
      is.limit ∙ ap (λ t. slice_index_or (tree_limits limits) t 0) same
      ∙ get_or_from_slice_get (tree_limits limits) tree limit 0 at

  -- a read of the tree within its limit
  even_by_read : (before : Tape) (root : ℕ) → (root == tree) ≡ true
      → nat_lt limit (next_read before.reads).value ≡ false
      → IsEven (standing (read_root before root))
  even_by_read before root is within =
      let seen = next_read before.reads in
      let inside : nat_le seen.value limit ≡ true = within_is limit seen.value within in
      subst IsEven (sym (standing_of-read limit tree root seen before.acts
      ∙ ap (λ b. cond b (after_read limit seen.value (standing before)) (standing before)) is))
      (ap (λ b. cond b (standing before).posted (standing before).admitted) inside)

  sent_by : (acts : List Act) (own leg : Leg) (legs : List Leg) (before : Tape)
      → IsLegFor limits acts leg → (above : Bool)
      → nat_lt leg.limit (next_read before.reads).value ≡ above
      → cond above leg.above (first_above legs (drop 1 before.reads)) ≡ verdict.Sent
      → (here : Bool) → (leg.tree == tree) ≡ here
      → cond here (Some leg) (leg_in tree legs) ≡ Some own
      → (leg_in tree legs ≡ Some own
      → first_above legs (drop 1 before.reads) ≡ verdict.Sent
      → IsEven (standing (fold read_root (read_root before leg.tree)
      (map (λ other. other.tree) legs))))
      → IsEven (standing (fold read_root (read_root before leg.tree)
      (map (λ other. other.tree) legs)))
  sent_by acts own leg legs before is true over sent here here_is found later =
      absurd (is.refuses sent)
  sent_by acts own leg legs before is false within sent true here_is found later =
      let own_limit : nat_lt limit (next_read before.reads).value ≡ false =
      ap (λ n. nat_lt n (next_read before.reads).value)
      (sym (limit_is acts leg is (eqb-true leg.tree tree here_is))) ∙ within in
      kept_by_reads IsEven (even_after_read limit) (map (λ other. other.tree) legs)
      (read_root before leg.tree) (even_by_read before leg.tree here_is own_limit)
  sent_by acts own leg legs before is false within sent false here_is found later =
      later found sent

  -- where no root is above its limit, the read of the tree admits what was posted
  sent_admits : (acts : List Act) (own : Leg) (legs : List Leg) (before : Tape)
      → All (IsLegFor limits acts) legs → leg_in tree legs ≡ Some own
      → first_above legs before.reads ≡ verdict.Sent
      → IsEven (standing (fold read_root before (map (λ leg. leg.tree) legs)))
  sent_admits acts own [] before are found sent = absurd cc
  sent_admits acts own (leg ∷ legs) before are found sent =
      sent_by acts own leg legs before (All-head (IsLegFor limits acts) leg legs are)
      (nat_lt leg.limit (next_read before.reads).value) refl sent (leg.tree == tree) refl found
      (λ same rest. sent_admits acts own legs (read_root before leg.tree)
      (All-tail (IsLegFor limits acts) leg legs are) same rest)

  -- after the posts and the reads of asking, and after the old values again
  module _ (legs : List Leg) (before : Tape) (are : All (IsLegFor limits before.acts) legs)
      (raised : All (λ leg. leg.old ≤ leg.new) legs) (even : IsEven (standing before)) where
    abbrev posted : Tape
    posted = fold post_new before legs

    abbrev asked : Tape
    asked = posted_and_read limits legs before

    abbrev low : ℕ
    low = last_post tree before.acts

    posted_is : (standing before).posted ≡ low
    posted_is = posted-last_post limit tree before.acts

    olds : All (HasOld low) legs
    olds = All-weaker (IsLegFor limits before.acts) (HasOld low)
        (λ leg is same. is.old ∙ ap (λ t. last_post t before.acts) same) legs are

    start_above : IsAbove low (standing before)
    start_above = (omega (arith, posted_is), omega (arith, posted_is, even))

    posted_above : IsAbove low (standing posted)
    posted_above =
        kept_by_posts (IsAbove low) (λ leg. leg.new) legs before
        (All-both legs olds raised) start_above
      where
        All-both : (some : List Leg) → All (HasOld low) some
            → All (λ leg. leg.old ≤ leg.new) some
            → All (λ leg. leg.tree ≡ tree → (one : Standing) → IsAbove low one
            → IsAbove low (after_post leg.new one)) some
        All-both some first second = λ k d inside same one above.
            let old = first k d inside same in
            let less = second k d inside in
            above_after_post low (slice_index_or some k d).new one (omega (arith, old, less)) above

    asked_above : IsAbove low (standing asked)
    asked_above = kept_by_reads (IsAbove low) (above_after_read low limit) (roots_of limits legs)
        posted posted_above

    -- without a leg in the tree
    even_posted : leg_in tree legs ≡ None → IsEven (standing posted)
    even_posted none =
        subst IsEven (sym (standing_of-post_by (λ leg. leg.new) limit tree legs before none)) even

    even_other : leg_in tree legs ≡ None → IsEven (standing asked)
    even_other none = kept_by_reads IsEven (even_after_read limit) (roots_of limits legs)
        posted (even_posted none)

    even_back : (found : Option Leg) → leg_in tree legs ≡ found
        → IsEven (standing (fold post_old asked legs))
    even_back None is =
        subst IsEven (sym (standing_of-post_by (λ leg. leg.old) limit tree legs asked is))
        (even_other is)
    even_back (Some own) is =
        let back = old_again low own legs asked is olds asked_above in back.1 ∙ sym back.0

    even_sent : verdict_of legs before.reads ≡ verdict.Sent → (found : Option Leg)
        → leg_in tree legs ≡ found → IsEven (standing asked)
    even_sent sent None is = even_other is
    even_sent sent (Some own) is =
        let same : posted.reads ≡ before.reads = reads-post_by (λ leg. leg.new) legs before in
        let none : first_above legs (drop 1 before.reads) ≡ verdict.Sent =
        not_halted legs before.reads (nat_lt 0 (next_read before.reads).value) sent in
        sent_admits before.acts own legs (read_root posted (halt_tree limits)) are is
        (ap (λ reads. first_above legs (drop 1 reads)) same ∙ none)

    even_settled : (answer : Verdict) → verdict_of legs before.reads ≡ answer
        → IsEven (standing (settled legs answer asked))
    even_settled verdict.Sent is = even_sent is (leg_in tree legs) refl
    even_settled verdict.Firm is = even_back (leg_in tree legs) refl
    even_settled verdict.Account is = even_back (leg_in tree legs) refl
    even_settled verdict.Symbol is = even_back (leg_in tree legs) refl
    even_settled verdict.Halt is = even_back (leg_in tree legs) refl
    even_settled verdict.Quota is = even_back (leg_in tree legs) refl

  -- after asking, whatever came of it
  pub even_asked : (legs : List Leg) (before : Tape) → All (IsLegFor limits before.acts) legs
      → (is_short limits before.acts legs ≡ false → All (λ leg. leg.old ≤ leg.new) legs)
      → IsEven (standing before) → IsEven (standing (asking limits legs before).tape)
  even_asked legs before are raised even = by_test (is_short limits before.acts legs) refl
    where
      by_test : (short : Bool) → is_short limits before.acts legs ≡ short
          → IsEven (standing (cond {A = Asked} short
          (record { verdict = verdict.Quota; tape = before })
          (record {
            verdict = verdict_of legs before.reads;
            tape = settled legs (verdict_of legs before.reads)
                (posted_and_read limits legs before);
          })).tape)
      by_test true is = even
      by_test false is =
          even_settled legs before are (raised is) even (verdict_of legs before.reads) refl

-- the legs of an order's rows are legs for the acts
pub legs_are : (limits : LimitsValue) (rows : OrderRows) (acts : List Act) (values : List ℕ)
    → All (IsLegFor limits acts) (legs_of limits rows acts values)
legs_are limits rows acts values =
    all_three (IsLegFor limits acts)
    (leg_with limits acts 0 (slice_index values 0) Firm)
    (leg_with limits acts (account_tree rows.account) (slice_index values 1) Account)
    (leg_with limits acts (symbol_tree limits rows.symbol) (slice_index values 2) Symbol)
    (record { old = refl; limit = refl; refuses = λ (e : Firm ≡ verdict.Sent). cc })
    (record { old = refl; limit = refl; refuses = λ (e : Account ≡ verdict.Sent). cc })
    (record { old = refl; limit = refl; refuses = λ (e : Symbol ≡ verdict.Sent). cc })

pub asked_admits : (limits : LimitsValue) (legs : List Leg) (before : Tape)
    → All (IsLegFor limits before.acts) legs → AdmitsLast limits before.acts
    → (is_short limits before.acts legs ≡ false → All (λ leg. leg.old ≤ leg.new) legs)
    → AdmitsLast limits (asking limits legs before).tape.acts
asked_admits limits legs before are admits raised tree =
    by_limit (limit_of limits tree) refl (admits tree)
  where
    by_limit : (found : Option ℕ) → limit_of limits tree ≡ found
        → IfSome found (λ limit. own_admitted limit (events_of tree before.acts)
        ≡ last_post tree before.acts)
        → IfSome found (λ limit. own_admitted limit
        (events_of tree (asking limits legs before).tape.acts)
        ≡ last_post tree (asking limits legs before).tape.acts)
    by_limit None at holds = tt
    by_limit (Some limit) at holds =
        even_asked limits limit tree at legs before are raised
        (holds ∙ sym (posted-last_post limit tree before.acts))
        ∙ posted-last_post limit tree (asking limits legs before).tape.acts
