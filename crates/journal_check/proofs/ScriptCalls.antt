-- A script's answers after one more call, and the counts that a hand keeps of its calls.
use Rattle.std.proofs.Common.{◌≡◌, ◌≢◌, ℕ, ◌+◌, ◌<◌, ◌≤◌, List, [], ◌∷◌, ◌++◌, length}
use Rattle.std.proofs.Common.{ap, sym, subst, ◌∙◌, arith, drop, slice_set, length-set, cond}
use Rattle.std.proofs.Common.{get_or-set_same, get_or-set_other, ⊎_elim}
use Rattle.std.specs.Prelude.{slice_index_or}
use Rattle.std.proofs.lemmas.Bool.{cases_eq}
use Rattle.std.proofs.lemmas.List.{drop-drop}
use Rattle.std.proofs.lemmas.List.Sums.{sum_by-cons, sum_by_push}
use Rattle.risk_board.specs.declared.hand.Call.{Call}
use Rattle.risk_board.specs.declared.hand.Call.TheVariants.{Post, Read}
use Rattle.risk_board.specs.declared.hand.Seen.{Seen}
use Rattle.risk_board.specs.Calls.{post_count}
use Rattle.risk_board.specs.Hands.{with_call}
use Rattle.risk_board.proofs.Events.{post_count-post, post_count-other_post, post_count-read}
use Rattle.journal_check.specs.Script.{ScriptValue, AnswersByScript, ArePostsCapped, script_answer}
use Rattle.journal_check.specs.Script.{first_answer, is_read_call, read_count}
use Rattle.journal_check.specs.ScriptKept.{IsScripted}

read_count-cons : (call : Call) (calls : List Call)
    → read_count (call ∷ calls) ≡ cond (is_read_call call) 1 0 + read_count calls
read_count-cons call calls = sum_by-cons (λ x. cond (is_read_call x) 1 0) call calls

pub read_count-post : (calls : List Call) (tree value : ℕ)
    → read_count (calls ++ Post tree value ∷ []) ≡ read_count calls
read_count-post calls tree value =
    sum_by_push (λ x. cond (is_read_call x) 1 0) calls (Post tree value) ∙ omega arith

pub read_count-read : (calls : List Call) (tree stamp value : ℕ)
    → read_count (calls ++ Read tree stamp value ∷ []) ≡ read_count calls + 1
read_count-read calls tree stamp value =
    sum_by_push (λ x. cond (is_read_call x) 1 0) calls (Read tree stamp value)

pub answers-post : (script : List Seen) (calls : List Call) (tree value : ℕ)
    → AnswersByScript script calls → AnswersByScript script (calls ++ Post tree value ∷ [])
answers-post script [] tree value answers = tt
answers-post script (Post t v ∷ calls) tree value answers =
    answers-post script calls tree value answers
answers-post script (Read t s v ∷ calls) tree value answers =
    (answers.0, answers.1, answers-post (drop 1 script) calls tree value answers.2)

later_answer : (script : List Seen) (t s v : ℕ) (calls : List Call)
    → script_answer script (Read t s v ∷ calls) ≡ script_answer (drop 1 script) calls
later_answer script t s v calls =
    ap (λ n. first_answer (drop n script)) (read_count-cons (Read t s v) calls)
    ∙ ap first_answer (sym (drop-drop (read_count calls) 1 script))

other_answer : (script : List Seen) (t v : ℕ) (calls : List Call)
    → script_answer script (Post t v ∷ calls) ≡ script_answer script calls
other_answer script t v calls =
    ap (λ n. first_answer (drop n script)) (read_count-cons (Post t v) calls ∙ omega arith)

pub answers-read : (script : List Seen) (calls : List Call) (tree : ℕ) (seen : Seen)
    → seen ≡ script_answer script calls → AnswersByScript script calls
    → AnswersByScript script (calls ++ Read tree seen.stamp seen.value ∷ [])
answers-read script [] tree seen is answers =
    (ap (λ (x : Seen). x.stamp) is, ap (λ (x : Seen). x.value) is, tt)
answers-read script (Post t v ∷ calls) tree seen is answers =
    answers-read script calls tree seen (is ∙ other_answer script t v calls) answers
answers-read script (Read t s v ∷ calls) tree seen is answers = (
  answers.0,
  answers.1,
  answers-read (drop 1 script) calls tree seen (is ∙ later_answer script t s v calls) answers.2,
)

-- the counts of posts after one more
counts_after : (posts : List ℕ) (calls : List Call) (tree value count : ℕ)
    → ((t d : ℕ) → t < length posts → slice_index_or posts t d ≡ post_count t calls)
    → tree < length posts → count ≡ slice_index_or posts tree count
    → (t d : ℕ) → t < length (slice_set posts tree (count + 1))
    → slice_index_or (slice_set posts tree (count + 1)) t d
    ≡ post_count t (calls ++ Post tree value ∷ [])
counts_after posts calls tree value count counts below is t d inside =
    let fits : t < length posts = omega (arith, length-set posts tree (count + 1)) in
    let Same : ℕ → Type 0 = λ t. slice_index_or (slice_set posts tree (count + 1)) t d
    ≡ post_count t (calls ++ Post tree value ∷ []) in
    ⊎_elim
    (λ (same : t ≡ tree). subst Same (sym same)
    (get_or-set_same posts tree (count + 1) d below
    ∙ ap (λ n. n + 1) (is ∙ counts tree count below)
    ∙ sym (post_count-post tree calls value)))
    (λ (apart : t ≢ tree). get_or-set_other posts tree t (count + 1) d apart
    ∙ counts t d fits
    ∙ sym (post_count-other_post t tree calls value (λ same. apart (sym same))))
    (cases_eq t tree)

within_after : (posts : List ℕ) (tree count quota : ℕ) (calls : List Call)
    → ((t d : ℕ) → t < length posts → slice_index_or posts t d ≡ post_count t calls)
    → ((t d : ℕ) → t < length posts → slice_index_or posts t d ≤ quota)
    → tree < length posts → count ≡ slice_index_or posts tree count
    → post_count tree calls < quota
    → (t d : ℕ) → t < length (slice_set posts tree (count + 1))
    → slice_index_or (slice_set posts tree (count + 1)) t d ≤ quota
within_after posts tree count quota calls counts within below is left t d inside =
    let fits : t < length posts = omega (arith, length-set posts tree (count + 1)) in
    let Few : ℕ → Type 0 = λ t. slice_index_or (slice_set posts tree (count + 1)) t d ≤ quota in
    let counted : count ≡ post_count tree calls = is ∙ counts tree count below in
    ⊎_elim
    (λ (same : t ≡ tree). subst Few (sym same)
    (omega (arith, get_or-set_same posts tree (count + 1) d below, counted, left)))
    (λ (apart : t ≢ tree). omega (
      arith,
      get_or-set_other posts tree t (count + 1) d apart,
      within t d fits,
    ))
    (cases_eq t tree)

capped-post : (most : ℕ) (calls : List Call) (tree value : ℕ) → value ≤ most
    → ArePostsCapped most calls → ArePostsCapped most (calls ++ Post tree value ∷ [])
capped-post most [] tree value low capped = (low, tt)
capped-post most (Post t v ∷ calls) tree value low capped =
    (capped.0, capped-post most calls tree value low capped.1)
capped-post most (Read t s v ∷ calls) tree value low capped =
    capped-post most calls tree value low capped

capped-read : (most : ℕ) (calls : List Call) (tree stamp value : ℕ)
    → ArePostsCapped most calls → ArePostsCapped most (calls ++ Read tree stamp value ∷ [])
capped-read most [] tree stamp value capped = tt
capped-read most (Post t v ∷ calls) tree stamp value capped =
    (capped.0, capped-read most calls tree stamp value capped.1)
capped-read most (Read t s v ∷ calls) tree stamp value capped =
    capped-read most calls tree stamp value capped

-- the value after one more call
abbrev pub with_next : Call → ScriptValue → ScriptValue
with_next call value = record value { hand = with_call call value.hand }

-- what is kept after a post
pub scripted-post : (value : ScriptValue) (posts : List ℕ) (next taken most tree price count : ℕ)
    → IsScripted value posts next taken most → tree < length posts
    → count ≡ slice_index_or posts tree count → post_count tree value.hand.calls < value.hand.quota
    → 1 ≤ value.hand.spare → price ≤ value.hand.cap
    → IsScripted (with_next (Post tree price) value) (slice_set posts tree (count + 1)) next
    (taken + 1) most
scripted-post value posts next taken most tree price count kept below is left one low =
    let calls = value.hand.calls in
    record {
      counts = counts_after posts calls tree price count kept.counts below is;
      within = within_after posts tree count value.hand.quota calls kept.counts kept.within below is
          left;
      capped = capped-post value.hand.cap calls tree price low kept.capped;
      reads = kept.reads ∙ sym (read_count-post calls tree price);
      answered = answers-post value.script calls tree price kept.answered;
      room = omega (arith, kept.room, one);
    }

-- what is kept after a read
pub scripted-read : (value : ScriptValue) (posts : List ℕ) (next taken most tree : ℕ) (seen : Seen)
    → IsScripted value posts next taken most → 1 ≤ value.hand.spare
    → seen ≡ script_answer value.script value.hand.calls
    → IsScripted (with_next (Read tree seen.stamp seen.value) value) posts (next + 1) (taken + 1) most
scripted-read value posts next taken most tree seen kept one is =
    let calls = value.hand.calls in
    record {
      counts = λ t d fits. kept.counts t d fits
          ∙ sym (post_count-read t tree calls seen.stamp seen.value);
      within = kept.within;
      capped = capped-read value.hand.cap calls tree seen.stamp seen.value kept.capped;
      reads = ap (λ n. n + 1) kept.reads ∙ sym (read_count-read calls tree seen.stamp seen.value);
      answered = answers-read value.script calls tree seen is kept.answered;
      room = omega (arith, kept.room, one);
    }
