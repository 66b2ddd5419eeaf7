-- Asking the trees about an order: its values are posted, the roots are read, and where one refuses
-- it the old values are posted again.
use Rattle.std.specs.Prelude.{◌≡◌, ℕ, ◌+◌, List, [], ◌∷◌, ◌++◌, drop, fold, Bool}
use Rattle.std.specs.Prelude.{nat_lt, if◌then◌else◌}
use Rattle.std.specs.List.{list_any}
use Rattle.limit_table.specs.Trees.{LimitsValue, halt_tree}
use Rattle.risk_journal.specs.declared.acts.Act.{Act}
use Rattle.risk_journal.specs.ActLists.{SeenAt, posts_in, reads_of}
use Rattle.admit_core.specs.declared.ask.Verdict.{Verdict}
use Rattle.admit_core.specs.declared.ask.Verdict.TheVariants as verdict
use Rattle.admit_core.specs.Legs.{Leg, trees_of}
use Rattle.admit_core.specs.Tapes.{Tape, tape, next_read, after_posting, after_reading}

-- in one of the trees a post and one that takes it back are more than so many leave
abbrev pub lacks_posts : ℕ → List Act → List Leg → Bool
lacks_posts quota acts legs = list_any (λ leg. nat_lt quota (posts_in leg.tree acts + 2)) legs

-- they are more than the quota leaves
abbrev pub is_short : LimitsValue → List Act → List Leg → Bool
is_short limits acts legs = lacks_posts limits.quota acts legs

abbrev pub post_new : Tape → Leg → Tape
post_new before leg = after_posting leg.tree leg.new before

abbrev pub post_old : Tape → Leg → Tape
post_old before leg = after_posting leg.tree leg.old before

abbrev pub read_root : Tape → ℕ → Tape
read_root before tree = after_reading tree before

-- the trees whose roots are read, in order: the halt tree comes first
abbrev pub roots_of : LimitsValue → List Leg → List ℕ
roots_of limits legs = halt_tree limits ∷ trees_of legs

-- the verdict of the first leg whose root is above its limit, and Sent where none is
abbrev pub first_above : List Leg → List SeenAt → Verdict
first_above [] reads = verdict.Sent
first_above (leg ∷ legs) reads =
    if nat_lt leg.limit (next_read reads).value then leg.above
    else first_above legs (drop 1 reads)

-- the verdict by the roots that are read: somebody has halted, or a root is above its limit, or the
-- order is sent
abbrev pub verdict_of : List Leg → List SeenAt → Verdict
verdict_of legs reads =
    if nat_lt 0 (next_read reads).value then verdict.Halt else first_above legs (drop 1 reads)

-- what the trees answered, and the acts by then
pub record Asked : Type 0 where
  pub verdict : Verdict
  pub tape : Tape

-- the new values stand where the order is sent, and else the old ones are posted again
abbrev pub settled : List Leg → Verdict → Tape → Tape
settled legs verdict.Sent before = before
settled legs other before = fold post_old before legs

-- the new values are posted and the roots read
abbrev pub posted_and_read : LimitsValue → List Leg → Tape → Tape
posted_and_read limits legs before =
    fold read_root (fold post_new before legs) (roots_of limits legs)

-- what asking comes to: Quota, with no act, where too few posts are left
abbrev pub asking : LimitsValue → List Leg → Tape → Asked
asking limits legs before =
    if is_short limits before.acts legs then record { verdict = verdict.Quota; tape = before }
    else record {
      verdict = verdict_of legs before.reads;
      tape = settled legs (verdict_of legs before.reads) (posted_and_read limits legs before);
    }

-- The trees were asked, and this was the verdict: by the reads that the acts have, whatever further
-- reads are to come.
pub record Asks (limits : LimitsValue) (legs : List Leg) (acts acts_after : List Act)
    (answer : Verdict) : Type 0 where
  pub seen : List SeenAt
  pub reads_are : reads_of acts_after ≡ reads_of acts ++ seen
  pub asked : (more : List SeenAt) → asking limits legs (tape acts (seen ++ more))
      ≡ record { verdict = answer; tape = tape acts_after more }
