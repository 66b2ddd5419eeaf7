-- Tapes with the same acts and other reads: what is asked goes alike, or parts at a read.
use Rattle.std.proofs.Common.{◌≡◌, ◌≢◌, ◌⊎◌, inl, inr, ⊎_elim, ℕ, List, [], ◌∷◌, ◌++◌, fold, drop}
use Rattle.std.proofs.Common.{refl, sym, ap, ◌∙◌, subst, append_assoc, Bool, true, false}
use Rattle.std.proofs.lemmas.Bool.{cases_eq}
use Rattle.risk_journal.specs.declared.acts.Act.{Act}
use Rattle.risk_journal.specs.ActLists.{SeenAt}
use Rattle.limit_table.specs.Trees.{LimitsValue}
use Rattle.admit_core.specs.declared.ask.Verdict.{Verdict}
use Rattle.admit_core.specs.declared.ask.Verdict.TheVariants as verdict
use Rattle.admit_core.specs.Tapes.{Tape, tape, next_read, with_post, with_read, read_act}
use Rattle.admit_core.specs.Legs.{Leg, trees_of}
use Rattle.admit_core.specs.Asking.{Asked, is_short, post_new, read_root, roots_of}
use Rattle.admit_core.specs.Asking.{first_above, verdict_of, settled, posted_and_read, asking}
use Rattle.admit_core.proofs.AskedTrees.{post_by}
use Rattle.session_engine.specs.Parting.{PartAtRead}
use Rattle.session_engine.proofs.AddedActs.{Grows}
use Rattle.session_engine.proofs.MovedTapes.{asked_by, reading_roots, settling as settling_moves}

-- acts that part at a read do so with more behind
pub parts_append : (one other more more_other : List Act) → PartAtRead one other
    → PartAtRead (one ++ more) (other ++ more_other)
parts_append one other more more_other parts = record {
  front = parts.front;
  tree = parts.tree;
  seen = parts.seen;
  seen_other = parts.seen_other;
  rest = parts.rest ++ more;
  rest_other = parts.rest_other ++ more_other;
  one_is = ap (λ acts. acts ++ more) parts.one_is
      ∙ append_assoc parts.front (read_act parts.tree parts.seen ∷ parts.rest) more;
  other_is = ap (λ acts. acts ++ more_other) parts.other_is
      ∙ append_assoc parts.front (read_act parts.tree parts.seen_other ∷ parts.rest_other)
      more_other;
  differ = parts.differ;
}

-- acts that part at a read do so whatever comes then
pub parts_later : {one other later later_other : List Act} → PartAtRead one other
    → Grows one later → Grows other later_other → PartAtRead later later_other
parts_later {one} {other} {later} {later_other} parts grows grows_other =
    subst (λ acts. PartAtRead acts later_other) (sym grows.is)
    (subst (PartAtRead (one ++ grows.more)) (sym grows_other.is)
    (parts_append one other grows.more grows_other.more parts))

-- reads are the same, or they aren't
pub same_or_not : (one other : SeenAt) → (one ≡ other) ⊎ (one ≢ other)
same_or_not one other =
    ⊎_elim
    (λ (stamp : one.stamp ≡ other.stamp). ⊎_elim
    (λ (place : one.place ≡ other.place). ⊎_elim
    (λ (value : one.value ≡ other.value). inl (all stamp place value))
    (λ (apart : one.value ≢ other.value). inr (λ same. apart (ap (λ (s : SeenAt). s.value) same)))
    (cases_eq one.value other.value))
    (λ (apart : one.place ≢ other.place). inr (λ same. apart (ap (λ (s : SeenAt). s.place) same)))
    (cases_eq one.place other.place))
    (λ (apart : one.stamp ≢ other.stamp). inr (λ same. apart (ap (λ (s : SeenAt). s.stamp) same)))
    (cases_eq one.stamp other.stamp)
  where
    make : ℕ → ℕ → ℕ → SeenAt
    make stamp place value = record { stamp = stamp; place = place; value = value }

    all : one.stamp ≡ other.stamp → one.place ≡ other.place → one.value ≡ other.value → one ≡ other
    all stamp place value =
        ap (λ s. make s one.place one.value) stamp
        ∙ ap (λ p. make other.stamp p one.value) place
        ∙ ap (λ v. make other.stamp other.place v) value

-- the reads answer so many reads alike
abbrev pub AnswerAlike : {A : Type 0} → List A → List SeenAt → List SeenAt → Type 0
AnswerAlike [] reads others = Unit {0}
AnswerAlike (item ∷ items) reads others =
    (next_read reads ≡ next_read others) × AnswerAlike items (drop 1 reads) (drop 1 others)

-- the tapes are the same but for the reads to come
abbrev pub SameActs : Tape → Tape → Type 0
SameActs one other = (reads : List SeenAt) × (other ≡ record one { reads = reads })

-- posts don't know the reads to come
posting_all : (value : Leg → ℕ) (legs : List Leg) (acts : List Act) (reads others : List SeenAt)
    → fold (post_by value) (tape acts others) legs
    ≡ record (fold (post_by value) (tape acts reads) legs) { reads = others }
posting_all value [] acts reads others = refl
posting_all value (leg ∷ legs) acts reads others =
    posting_all value legs (with_post leg.tree (value leg) acts) reads others

-- roots are read alike, or the acts part
abbrev ReadAlikeOrPart : List ℕ → List Act → List Act → List SeenAt → List SeenAt → Type 0
ReadAlikeOrPart trees acts acts_other reads others =
    (AnswerAlike trees reads others
    × SameActs (fold read_root (tape acts reads) trees)
    (fold read_root (tape acts_other others) trees))
    ⊎ PartAtRead (fold read_root (tape acts reads) trees).acts
    (fold read_root (tape acts_other others) trees).acts

-- the first root is read alike, and then the others
read_alike : (tree : ℕ) (trees : List ℕ) (acts : List Act) (reads others : List SeenAt)
    → next_read reads ≡ next_read others
    → ReadAlikeOrPart trees (with_read tree (next_read reads) acts)
    (with_read tree (next_read reads) acts) (drop 1 reads) (drop 1 others)
    → ReadAlikeOrPart (tree ∷ trees) acts acts reads others
read_alike tree trees acts reads others same rest =
    from (subst (λ (seen : SeenAt). ReadAlikeOrPart trees (with_read tree (next_read reads) acts)
    (with_read tree seen acts) (drop 1 reads) (drop 1 others)) same rest)
  where
    from : ReadAlikeOrPart trees (with_read tree (next_read reads) acts)
        (with_read tree (next_read others) acts) (drop 1 reads) (drop 1 others)
        → ReadAlikeOrPart (tree ∷ trees) acts acts reads others
    from (inl own) = inl ((same, own.0), own.1)
    from (inr parts) = inr parts

-- the first root is read otherwise
read_apart : (tree : ℕ) (trees : List ℕ) (acts : List Act) (reads others : List SeenAt)
    → next_read reads ≢ next_read others → ReadAlikeOrPart (tree ∷ trees) acts acts reads others
read_apart tree trees acts reads others differ =
    let one : Tape = tape (with_read tree (next_read reads) acts) (drop 1 reads) in
    let other : Tape = tape (with_read tree (next_read others) acts) (drop 1 others) in
    let here : PartAtRead one.acts other.acts = record {
      front = acts;
      tree = tree;
      seen = next_read reads;
      seen_other = next_read others;
      rest = [];
      rest_other = [];
      one_is = refl;
      other_is = refl;
      differ = differ;
    } in
    inr (parts_later here (reading_roots trees one).grows (reading_roots trees other).grows)

reading : (trees : List ℕ) (acts : List Act) (reads others : List SeenAt)
    → ReadAlikeOrPart trees acts acts reads others
reading [] acts reads others = inl (tt, (others, refl))
reading (tree ∷ trees) acts reads others =
    ⊎_elim
    (λ (same : next_read reads ≡ next_read others). read_alike tree trees acts reads others same
    (reading trees (with_read tree (next_read reads) acts) (drop 1 reads) (drop 1 others)))
    (λ (differ : next_read reads ≢ next_read others).
    read_apart tree trees acts reads others differ)
    (same_or_not (next_read reads) (next_read others))

-- by the same answers the verdict is the same
first_above_alike : (legs : List Leg) (reads others : List SeenAt)
    → AnswerAlike (trees_of legs) reads others → first_above legs reads ≡ first_above legs others
first_above_alike [] reads others alike = refl
first_above_alike (leg ∷ legs) reads others alike =
    rw (alike.0, first_above_alike legs (drop 1 reads) (drop 1 others) alike.1) refl

verdict_of_alike : (limits : LimitsValue) (legs : List Leg) (reads others : List SeenAt)
    → AnswerAlike (roots_of limits legs) reads others
    → verdict_of legs reads ≡ verdict_of legs others
verdict_of_alike limits legs reads others alike =
    rw (alike.0, first_above_alike legs (drop 1 reads) (drop 1 others) alike.1) refl

settling : (legs : List Leg) (answer : Verdict) (acts : List Act) (reads others : List SeenAt)
    → settled legs answer (tape acts others)
    ≡ record (settled legs answer (tape acts reads)) { reads = others }
settling legs verdict.Sent acts reads others = refl
settling legs _ acts reads others = posting_all (λ leg. leg.old) legs acts reads others

-- what is asked goes alike, or parts at a read
abbrev pub AskAlikeOrPart : Asked → Asked → Type 0
AskAlikeOrPart one other =
    ((reads : List SeenAt) × (other ≡ record one { tape = tape one.tape.acts reads }))
    ⊎ PartAtRead one.tape.acts other.tape.acts

-- the new values are posted and the roots read alike, or the acts part
posting_and_reading : (limits : LimitsValue) (legs : List Leg) (acts : List Act)
    (reads others : List SeenAt)
    → (AnswerAlike (roots_of limits legs) reads others
    × SameActs (posted_and_read limits legs (tape acts reads))
    (posted_and_read limits legs (tape acts others)))
    ⊎ PartAtRead (posted_and_read limits legs (tape acts reads)).acts
    (posted_and_read limits legs (tape acts others)).acts
posting_and_reading limits legs acts reads others =
    let roots = roots_of limits legs in
    let posted = (fold post_new (tape acts reads) legs).acts in
    let Goal : Tape → Tape → Type 0 = λ one two.
    (AnswerAlike roots reads others × SameActs (fold read_root one roots) (fold read_root two roots))
    ⊎ PartAtRead (fold read_root one roots).acts (fold read_root two roots).acts in
    subst (λ one. Goal one (fold post_new (tape acts others) legs))
    (sym (posting_all (λ leg. leg.new) legs acts reads reads))
    (subst (Goal (tape posted reads)) (sym (posting_all (λ leg. leg.new) legs acts reads others))
    (reading roots posted reads others))

asking_by : (limits : LimitsValue) (legs : List Leg) (short : Bool) (acts : List Act)
    (reads others : List SeenAt)
    → AskAlikeOrPart (asked_by limits legs short (verdict_of legs reads) (tape acts reads))
    (asked_by limits legs short (verdict_of legs others) (tape acts others))
asking_by limits legs true acts reads others = inl (others, refl)
asking_by limits legs false acts reads others =
    ⊎_elim alike parted (posting_and_reading limits legs acts reads others)
  where
    one : Tape
    one = posted_and_read limits legs (tape acts reads)

    two : Tape
    two = posted_and_read limits legs (tape acts others)

    answer : Verdict
    answer = verdict_of legs reads

    other_answer : Verdict
    other_answer = verdict_of legs others

    make : Verdict → Tape → Asked
    make own after = record { verdict = own; tape = after }

    alike : AnswerAlike (roots_of limits legs) reads others × SameActs one two
        → AskAlikeOrPart (make answer (settled legs answer one))
        (make other_answer (settled legs other_answer two))
    alike (answers, same) = inl (
      same.0,
      ap (λ own. make own (settled legs own two))
          (sym (verdict_of_alike limits legs reads others answers))
          ∙ ap (λ after. make answer (settled legs answer after)) same.1
          ∙ ap (make answer) (settling legs answer one.acts one.reads same.0),
    )

    parted : PartAtRead one.acts two.acts
        → AskAlikeOrPart (make answer (settled legs answer one))
        (make other_answer (settled legs other_answer two))
    parted parts = inr (parts_later parts (settling_moves legs answer one).grows
        (settling_moves legs other_answer two).grows)

pub asking_parts : (limits : LimitsValue) (legs : List Leg) (acts : List Act)
    (reads others : List SeenAt)
    → AskAlikeOrPart (asking limits legs (tape acts reads)) (asking limits legs (tape acts others))
asking_parts limits legs acts reads others =
    asking_by limits legs (is_short limits acts legs) acts reads others
