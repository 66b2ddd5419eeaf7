-- What an admission ensures says that the trees were asked, by the reads that its acts have.
use Rattle.std.proofs.Common.{◌≡◌, ◌≢◌, ℕ, ◌+◌, List, [], ◌∷◌, ◌++◌, refl, sym, ap, ◌∙◌}
use Rattle.std.proofs.Common.{Bool, true, false}
use Rattle.std.specs.Prelude.{slice_index, IsTrue, ◌↔◌}
use Rattle.std.proofs.lemmas.Bool.{true≢false}
use Rattle.std.proofs.lemmas.List.{append-nil, append_assoc}
use Rattle.limit_table.specs.Trees.{LimitsValue, halt_tree}
use Rattle.risk_journal.specs.declared.acts.Act.{Act}
use Rattle.risk_journal.specs.declared.acts.Act.TheVariants.{Post}
use Rattle.risk_journal.specs.ActLists.{SeenAt, posts_in, reads_of}
use Rattle.admit_core.specs.declared.ask.Ask.{Ask}
use Rattle.admit_core.specs.declared.ask.Outcome.{Outcome}
use Rattle.admit_core.specs.declared.ask.Verdict.{Verdict}
use Rattle.admit_core.specs.declared.ask.Verdict.TheVariants as verdict
use Rattle.admit_core.specs.Admission.{with_posts, with_asked, acts_by, admitted, roots_read}
use Rattle.admit_core.specs.Asking.{Asks, is_short, settled, verdict_of}
use Rattle.admit_core.specs.Legs.{Leg, legs_asked}
use Rattle.admit_core.specs.Tapes.{Tape, tape, with_post, with_read, read_act}
use Rattle.admit_core.proofs.ActLemmas.{reads_of-append}

read_more : (tree : ℕ) (seen : SeenAt) (acts : List Act)
    → reads_of (with_read tree seen acts) ≡ reads_of acts ++ seen ∷ []
read_more tree seen acts = reads_of-append acts (read_act tree seen ∷ [])

posts_read_nothing : (value : Leg → ℕ) (legs : List Leg) (acts : List Act)
    → reads_of (with_posts value legs acts) ≡ reads_of acts
posts_read_nothing value [] acts = refl
posts_read_nothing value (leg ∷ legs) acts =
    posts_read_nothing value legs (with_post leg.tree (value leg) acts)
    ∙ reads_of-append acts (Post leg.tree (posts_in leg.tree acts + 1) (value leg) ∷ [])
    ∙ append-nil (reads_of acts)

module _ (limits : LimitsValue) (ask : Ask) (outcome : Outcome) (acts : List Act) where
  abbrev legs : List Leg
  legs = legs_asked ask

  abbrev seen : List SeenAt
  seen = roots_read outcome.halt outcome.roots

  abbrev was_asked : List Act
  was_asked = with_asked (halt_tree limits) legs seen acts

  reads_read : (halt firm account symbol : SeenAt)
      → reads_of (with_asked (halt_tree limits) legs (halt ∷ firm ∷ account ∷ symbol ∷ []) acts)
      ≡ reads_of acts ++ halt ∷ firm ∷ account ∷ symbol ∷ []
  reads_read halt firm account symbol =
      let posted = with_posts (λ leg. leg.new) legs acts in
      let halted = with_read (halt_tree limits) halt posted in
      let one = with_read (slice_index ask.trees 0) firm halted in
      let two = with_read (slice_index ask.trees 1) account one in
      read_more (slice_index ask.trees 2) symbol two
      ∙ ap (λ rs. rs ++ symbol ∷ []) (read_more (slice_index ask.trees 1) account one
      ∙ ap (λ rs. rs ++ account ∷ []) (read_more (slice_index ask.trees 0) firm halted
      ∙ ap (λ rs. rs ++ firm ∷ []) (read_more (halt_tree limits) halt posted
      ∙ ap (λ rs. rs ++ halt ∷ []) (posts_read_nothing (λ leg. leg.new) legs acts))))
      ∙ simp append_assoc

  reads_after : (answer : Verdict) → answer ≢ verdict.Quota
      → reads_of (acts_by answer (halt_tree limits) legs seen acts) ≡ reads_of was_asked
  reads_after verdict.Sent read = refl
  reads_after verdict.Firm read = posts_read_nothing (λ leg. leg.old) legs was_asked
  reads_after verdict.Account read = posts_read_nothing (λ leg. leg.old) legs was_asked
  reads_after verdict.Symbol read = posts_read_nothing (λ leg. leg.old) legs was_asked
  reads_after verdict.Halt read = posts_read_nothing (λ leg. leg.old) legs was_asked
  reads_after verdict.Quota read = absurd (read refl)

  -- what is posted back, as acts and on the tape
  settles : (answer : Verdict) (left : List SeenAt) → answer ≢ verdict.Quota
      → settled legs answer (tape was_asked left)
      ≡ tape (acts_by answer (halt_tree limits) legs seen acts) left
  settles verdict.Sent left read = refl
  settles verdict.Firm left read = refl
  settles verdict.Account left read = refl
  settles verdict.Symbol left read = refl
  settles verdict.Halt left read = refl
  settles verdict.Quota left read = absurd (read refl)

  pub admitted_asks : ((outcome.verdict ≡ verdict.Quota) ↔ IsTrue (is_short limits acts legs))
      → (outcome.verdict ≢ verdict.Quota → outcome.verdict ≡ verdict_of legs seen)
      → Asks limits legs acts (admitted (halt_tree limits) legs outcome acts) outcome.verdict
  admitted_asks exactly is = by_test (is_short limits acts legs) refl
    where
      by_test : (short : Bool) → is_short limits acts legs ≡ short
          → Asks limits legs acts (admitted (halt_tree limits) legs outcome acts) outcome.verdict
      by_test true short =
          rw (exactly.1 short) (record {
            seen = [];
            reads_are = sym (append-nil (reads_of acts));
            asked = λ more. rw short refl;
          })
      by_test false enough =
          let read : outcome.verdict ≢ verdict.Quota =
          λ quota. true≢false (sym (exactly.0 quota) ∙ enough) in
          record {
            seen = seen;
            reads_are = reads_after outcome.verdict read ∙ reads_read _ _ _ _;
            asked = λ more. rw (enough, sym (is read))
                (ap (λ (after : Tape). record { verdict = outcome.verdict; tape = after })
                (settles outcome.verdict more read));
          }
