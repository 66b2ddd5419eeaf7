-- A guard that was asked and told is the one of the definition.
use Rattle.std.proofs.Common.{◌≡◌, ℕ, ◌+◌, ◌==◌, List, [], ◌∷◌, ◌++◌, refl, sym, ap, ◌∙◌, subst, arith}
use Rattle.std.proofs.Common.{Bool, true, false, cond}
use Rattle.std.specs.Prelude.{nat_le, nat_lt, Option, Some, None}
use Rattle.std.proofs.lemmas.Bool.{eq-eqb}
use Rattle.std.proofs.lemmas.List.{append-nil, append_assoc, map-append}
use Rattle.risk_board.specs.declared.hand.Seen.{Seen}
use Rattle.risk_journal.specs.declared.acts.Act.{Act}
use Rattle.risk_journal.specs.declared.acts.Act.TheVariants.{Post, Read}
use Rattle.risk_journal.specs.ActLists.{SeenAt, last_post, placed_by, posts_in, reads_of}
use Rattle.risk_journal.specs.ActLists.{is_post_act_in}
use Rattle.risk_journal.proofs.PlacedActs.{alike, last_post-placed, posts_in-placed}
use Rattle.admit_core.specs.Tapes.{tape, read_act}
use Rattle.admit_core.proofs.ActLemmas.{posts_in-append, reads_of-append, count_by-cons}
use Rattle.limit_table.specs.Trees.{LimitsValue}
use Rattle.cross_guard.specs.declared.guarding.CrossVerdict.TheVariants as verdict
use Rattle.cross_guard.specs.Halves.{cross_join, is_clear}
use Rattle.cross_guard.specs.Session.{Guarded, guarding}
use Rattle.cross_guard.specs.Answering.{settled_by}
use Rattle.cross_guard.specs.Resting.{RestingValue, value_in}
use Rattle.cross_guard.specs.Told.{Asks, AsksUnder, Placing, with_places}

-- what was posted is the same with any places of reads
pub posts_placed : (place : Placing) (tree : ℕ) (acts : List Act)
    → posts_in tree (with_places place acts) ≡ posts_in tree acts
posts_placed place tree acts =
    sym (posts_in-placed (λ stamp. 0) tree (with_places place acts))
    ∙ ap (posts_in tree) (alike place acts) ∙ posts_in-placed (λ stamp. 0) tree acts

pub last_placed : (place : Placing) (tree : ℕ) (acts : List Act)
    → last_post tree (with_places place acts) ≡ last_post tree acts
last_placed place tree acts =
    sym (last_post-placed (λ stamp. 0) tree (with_places place acts))
    ∙ ap (last_post tree) (alike place acts) ∙ last_post-placed (λ stamp. 0) tree acts

-- the post and the read, and the post back
abbrev pub asking : Placing → ℕ → ℕ → ℕ → Seen → List Act
asking place tree index new root =
    Post tree index new ∷ Read tree root.stamp (place tree root.stamp) root.value ∷ []

abbrev pub asking_back : Placing → ℕ → ℕ → ℕ → ℕ → ℕ → Seen → List Act
asking_back place tree index again new old root =
    Post tree index new ∷ Read tree root.stamp (place tree root.stamp) root.value
    ∷ Post tree again old ∷ []

-- a guard over acts with places of reads
module _ (tree value : ℕ) (limits : LimitsValue) (acts : List Act) where
  abbrev new : ℕ
  new = cross_join (last_post tree acts) value

  over_quota : nat_lt limits.quota (posts_in tree acts + 2) ≡ true
      → Asks (guarding limits tree value) acts acts verdict.Quota
  over_quota short = record {
    seen = [];
    reads_are = sym (append-nil (reads_of acts));
    asked = λ more. rw short refl;
  }

  abbrev posting : List Act
  posting = Post tree (posts_in tree acts + 1) new ∷ []

  -- the post is counted
  one_more : (seen : Act) → is_post_act_in tree seen ≡ false
      → posts_in tree ((acts ++ posting) ++ seen ∷ []) + 1 ≡ posts_in tree acts + 2
  one_more seen no_post =
      let here : (tree == tree) ≡ true = eq-eqb tree tree refl in
      let own : posts_in tree posting ≡ 1 =
      count_by-cons (is_post_act_in tree) (Post tree (posts_in tree acts + 1) new) []
      ∙ ap (λ b. cond b 1 0 + 0) here in
      let other : posts_in tree (seen ∷ []) ≡ 0 =
      count_by-cons (is_post_act_in tree) seen [] ∙ ap (λ b. cond b 1 0 + 0) no_post in
      omega (
        arith,
        posts_in-append tree (acts ++ posting) (seen ∷ []),
        posts_in-append tree acts posting,
        own,
        other,
      )

  over_sent : (place : Placing) (root : Seen) → nat_lt limits.quota (posts_in tree acts + 2) ≡ false
      → is_clear root.value ≡ true
      → Asks (guarding limits tree value) acts
      (acts ++ asking place tree (posts_in tree acts + 1) new root) verdict.Sent
  over_sent place root some clear =
      let seen : SeenAt = record {
        stamp = root.stamp;
        place = place tree root.stamp;
        value = root.value;
      } in
      record {
        seen = seen ∷ [];
        reads_are = reads_of-append acts (asking place tree (posts_in tree acts + 1) new root);
        asked = λ more. rw some (rw clear
            (ap (λ (a : List Act). let g : Guarded = record {
              verdict = verdict.Sent;
              tape = tape a more;
            } in g) (append_assoc acts posting (read_act tree seen ∷ []))));
      }

  over_crossed : (place : Placing) (root : Seen)
      → nat_lt limits.quota (posts_in tree acts + 2) ≡ false → is_clear root.value ≡ false
      → Asks (guarding limits tree value) acts
      (acts ++ asking_back place tree (posts_in tree acts + 1) (posts_in tree acts + 2) new
      (last_post tree acts) root) verdict.Cross
  over_crossed place root some crossed =
      let seen : SeenAt = record {
        stamp = root.stamp;
        place = place tree root.stamp;
        value = root.value;
      } in
      let old = last_post tree acts in
      let act = read_act tree seen in
      let again = Post tree (posts_in tree acts + 2) old in
      record {
        seen = seen ∷ [];
        reads_are = reads_of-append acts (asking_back place tree (posts_in tree acts + 1)
            (posts_in tree acts + 2) new old root);
        asked = λ more. rw some (rw crossed
            (ap (λ (a : List Act). let g : Guarded = record {
              verdict = verdict.Cross;
              tape = tape a more;
            } in g)
            (ap (λ n. ((acts ++ posting) ++ act ∷ []) ++ Post tree n old ∷ []) (one_more act refl)
            ∙ append_assoc (acts ++ posting) (act ∷ []) (again ∷ [])
            ∙ append_assoc acts posting (act ∷ again ∷ []))));
      }

-- a guard as it was told, with any places of reads
module _ (quota tree value : ℕ) (acts : List Act) where
  abbrev pub told_new : ℕ
  told_new = cross_join (last_post tree acts) value

  -- the acts that tell it, whose reads have no place
  abbrev pub told_asking : Seen → List Act
  told_asking root =
      acts ++ Post tree (posts_in tree acts + 1) told_new
      ∷ Read tree root.stamp 0 root.value ∷ []

  abbrev pub told_back : Seen → List Act
  told_back root =
      acts ++ Post tree (posts_in tree acts + 1) told_new ∷ Read tree root.stamp 0 root.value
      ∷ Post tree (posts_in tree acts + 2) (last_post tree acts) ∷ []

  pub asks_quota : nat_lt quota (posts_in tree acts + 2) ≡ true
      → AsksUnder quota (λ limits. guarding limits tree value) acts acts verdict.Quota
  asks_quota short = λ place limits is.
      over_quota tree value limits (with_places place acts)
      (rw (is, posts_placed place tree acts) short)

  pub asks_sent : (root : Seen) → nat_lt quota (posts_in tree acts + 2) ≡ false
      → is_clear root.value ≡ true
      → AsksUnder quota (λ limits. guarding limits tree value) acts (told_asking root) verdict.Sent
  asks_sent root some clear = λ place limits is.
      let own = with_places place acts in
      let A : List Act → Type 0 = λ a. Asks (guarding limits tree value) own a verdict.Sent in
      let by = over_sent tree value limits own place root (rw (is, posts_placed place tree acts) some)
      clear in
      subst A (ap (λ n. own ++ asking place tree (n + 1) (cross_join (last_post tree own) value) root)
      (posts_placed place tree acts)
      ∙ ap (λ v. own ++ asking place tree (posts_in tree acts + 1) (cross_join v value) root)
      (last_placed place tree acts)
      ∙ sym (map-append (placed_by place) acts (Post tree (posts_in tree acts + 1) told_new
      ∷ Read tree root.stamp 0 root.value ∷ []))) by

  pub asks_crossed : (root : Seen) → nat_lt quota (posts_in tree acts + 2) ≡ false
      → is_clear root.value ≡ false
      → AsksUnder quota (λ limits. guarding limits tree value) acts (told_back root) verdict.Cross
  asks_crossed root some crossed = λ place limits is.
      let own = with_places place acts in
      let A : List Act → Type 0 = λ a. Asks (guarding limits tree value) own a verdict.Cross in
      let by = over_crossed tree value limits own place root
      (rw (is, posts_placed place tree acts) some) crossed in
      subst A (ap (λ n. own ++ asking_back place tree (n + 1) (n + 2)
      (cross_join (last_post tree own) value) (last_post tree own) root) (posts_placed place tree acts)
      ∙ ap (λ v. own ++ asking_back place tree (posts_in tree acts + 1) (posts_in tree acts + 2)
      (cross_join v value) v root) (last_placed place tree acts)
      ∙ sym (map-append (placed_by place) acts (Post tree (posts_in tree acts + 1) told_new
      ∷ Read tree root.stamp 0 root.value
      ∷ Post tree (posts_in tree acts + 2) (last_post tree acts) ∷ []))) by

-- a value that is posted, or isn't, with any places of reads
settled_cases : (place : Placing) (acts : List Act) (tree index value : ℕ) (same none : Bool)
    → with_places place (cond same acts (cond none acts (acts ++ Post tree index value ∷ [])))
    ≡ cond same (with_places place acts) (cond none (with_places place acts)
    (with_places place acts ++ Post tree index value ∷ []))
settled_cases place acts tree index value true none = refl
settled_cases place acts tree index value false true = refl
settled_cases place acts tree index value false false =
    map-append (placed_by place) acts (Post tree index value ∷ [])

pub settled_placed : (place : Placing) (limits : LimitsValue) (symbol : Option ℕ)
    (orders : List RestingValue) (acts : List Act)
    → with_places place (settled_by limits symbol orders acts)
    ≡ settled_by limits symbol orders (with_places place acts)
settled_placed place limits None orders acts = refl
settled_placed place limits (Some tree) orders acts =
    let value = value_in tree orders in
    let own = with_places place acts in
    settled_cases place acts tree (posts_in tree acts + 1) value (value == last_post tree acts)
    (nat_le limits.quota (posts_in tree acts))
    ∙ ap (λ v. cond (value == v) own (cond (nat_le limits.quota (posts_in tree acts)) own
    (own ++ Post tree (posts_in tree acts + 1) value ∷ []))) (sym (last_placed place tree acts))
    ∙ ap (λ n. cond (value == last_post tree own) own (cond (nat_le limits.quota n) own
    (own ++ Post tree (n + 1) value ∷ []))) (sym (posts_placed place tree acts))
