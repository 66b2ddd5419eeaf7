-- What a record says: what each session did, the fronts of the root's stamps, and that it meets the
-- running rule.
use Rattle.std.specs.Prelude.{ℕ, ◌+◌, List, [], ◌∷◌, length}
use Rattle.stamp_word.specs.Word.{stamp_in}
use Rattle.stamp_word.specs.Places.{leaf_of}
use Rattle.node_rule.specs.declared.view.View.{View}
use Rattle.node_rule.specs.declared.view.View.TheVariants.{Keeper}
use Rattle.node_rule.specs.declared.view.Track.{Track}
use Rattle.node_rule.specs.Sums.{over, seen_in}
use Rattle.node_rule.specs.Fronts.{word_at, cover}
use Rattle.node_rule.specs.Standing.{plan_of}
use Rattle.node_rule.specs.StampPart.{IsStamped}
use Rattle.node_rule.specs.ValuePart.{IsKept}
use Rattle.f_array.specs.declared.record.Record.{Record}
use Rattle.f_array.specs.Records.{Did}

-- what the sessions did, whose numbers are their places from this one on
abbrev pub tracks_from : ℕ → List Did → List Track
tracks_from number [] = []
tracks_from number (did ∷ more) =
    record { number = number; calls = did.calls; trail = did.trail } ∷ tracks_from (number + 1) more

-- the keeper's view of a record, with all sessions back
abbrev pub view_of : ℕ → List Did → View
view_of levels passes = Keeper levels (length passes) (tracks_from 0 passes)

-- how many of a session's posts a stamp of the tree's root covers
abbrev pub front_of : ℕ → List Did → ℕ → ℕ → ℕ → ℕ
front_of levels passes tree stamp session =
    cover (λ child s. over (seen_in tree child s) (view_of levels passes ∷ []))
    (leaf_of levels session) levels stamp

-- the stamp of the tree's root at the end
abbrev pub last_stamp : Record → ℕ → ℕ
last_stamp taken tree = stamp_in (word_at taken.shape.levels taken.words.items tree 1)

-- the record's words and installs meet the part of the rule that speaks of stamps, with some quota
abbrev pub IsStampedRecord : Record → Type 0
IsStampedRecord taken =
    (quota : ℕ)
    × IsStamped (plan_of taken.shape.levels taken.shape.trees (length taken.passes.items) quota)
    taken.words.items (view_of taken.shape.levels taken.passes.items ∷ [])

-- The words and the installs of a record meet the running rule with some quota, all sessions idle.
pub record IsLawful (unit cap : ℕ) (join : ℕ → ℕ → ℕ) (taken : Record) : Type 0 where
  pub quota : ℕ
  pub kept : let sessions = length taken.passes.items in
      IsKept (plan_of taken.shape.levels taken.shape.trees sessions quota) unit cap join
      taken.words.items (view_of taken.shape.levels taken.passes.items ∷ [])
