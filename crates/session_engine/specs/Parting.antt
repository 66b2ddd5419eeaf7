-- How a session takes the reads that it is given, and how two sessions over the same frames differ whose
-- reads saw something else.
use Rattle.std.specs.Prelude.{◌≡◌, ◌≢◌, ◌⊎◌, ℕ, zero, suc, List, [], ◌∷◌, ◌++◌, drop}
use Rattle.risk_journal.specs.declared.acts.Act.{Act}
use Rattle.risk_journal.specs.ActLists.{SeenAt}
use Rattle.admit_core.specs.Tapes.{next_read, read_act}
use Rattle.session_engine.specs.Reaches.{with_reads}
use Rattle.session_engine.specs.Session.{SessionValue}

-- so many of these reads, in order, and zeros past the last
abbrev pub first_reads : ℕ → List SeenAt → List SeenAt
first_reads zero reads = []
first_reads (suc count) reads = next_read reads ∷ first_reads count (drop 1 reads)

-- the acts are the same up to a read of one tree, which saw something else
pub record PartAtRead (one other : List Act) : Type 0 where
  pub front : List Act
  pub tree : ℕ
  pub seen : SeenAt
  pub seen_other : SeenAt
  pub rest : List Act
  pub rest_other : List Act
  pub one_is : one ≡ front ++ read_act tree seen ∷ rest
  pub other_is : other ≡ front ++ read_act tree seen_other ∷ rest_other
  pub differ : seen ≢ seen_other

-- the sessions are the same but for the reads to come, or their acts part at a read
abbrev pub AreAlikeOrPart : SessionValue → SessionValue → Type 0
AreAlikeOrPart one other =
    ((reads : List SeenAt) × (other ≡ with_reads reads one)) ⊎ PartAtRead one.acts other.acts
