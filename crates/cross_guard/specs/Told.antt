-- A session's hand on the trees of the symbols, whose calls are told as acts.
use Rattle.std.specs.Prelude.{◌≡◌, ℕ, ◌+◌, ◌≤◌, ◌<◌, List, [], length, map, max, ◌++◌}
use Rattle.std.specs.List.{slice_index_or}
use Rattle.limit_table.specs.Trees.{LimitsValue}
use Rattle.risk_board.specs.Hands.{HandValue}
use Rattle.risk_journal.specs.declared.acts.Act.{Act}
use Rattle.risk_journal.specs.ActLists.{SeenAt, calls_of, last_post, placed_by, reads_of}
use Rattle.admit_core.specs.Tapes.{Tape, tape}
use Rattle.cross_guard.specs.declared.guarding.CrossVerdict.{CrossVerdict}
use Rattle.cross_guard.specs.Halves.{cross_cap}
use Rattle.cross_guard.specs.Session.{Guarded}

-- how many trees there are: one for each symbol, and one where there is none
abbrev pub cross_trees : LimitsValue → ℕ
cross_trees limits = max (length limits.symbols) 1

-- a hand on the trees of the symbols, with the quota of the limits
pub record IsCrossHand (limits : LimitsValue) (hand : HandValue) : Type 0 where
  pub trees : hand.trees ≡ cross_trees limits
  pub quota : hand.quota ≡ limits.quota
  pub cap : hand.cap ≡ cross_cap

-- the hand, the number of its trees, the most posts in a tree, the acts that tell its calls, and for how
-- many more acts there is room
pub record ToldValue (H : Type 0) : Type 0 where
  pub hand : H
  pub trees : ℕ
  pub quota : ℕ
  pub acts : List Act
  pub room : ℕ

-- The hand made the calls that the acts tell, and what is kept of each tree is what the acts last posted
-- there.
pub record InStep (hand : HandValue) (quota : ℕ) (acts : List Act) (lasts : List ℕ) : Type 0 where
  pub trees : hand.trees ≡ length lasts
  pub quota_is : hand.quota ≡ quota
  pub cap : hand.cap ≡ cross_cap
  pub calls : hand.calls ≡ calls_of acts
  pub lasts_are : (tree : ℕ) → tree < length lasts
      → slice_index_or lasts tree 0 ≡ last_post tree acts
  pub capped : (tree : ℕ) → slice_index_or lasts tree 0 ≤ cross_cap

-- it is over the trees of these limits
pub record IsOver {H : Type 0} (limits : LimitsValue) (told : ToldValue H) : Type 0 where
  pub trees_are : told.trees ≡ cross_trees limits
  pub quota_is : told.quota ≡ limits.quota

-- this hand over the trees of these limits, before any act
pub record IsFresh {H : Type 0} (limits : LimitsValue) (hand : H) (told : ToldValue H) : Type 0 where
  pub over : IsOver limits told
  pub hand_is : told.hand ≡ hand
  pub acts_are : told.acts ≡ []

-- the same hand over the same trees, so many acts later at most
pub record IsAfter {H : Type 0} (Same : H → H → Type 0) (before now : ToldValue H) (acts : ℕ)
    : Type 0 where
  pub trees_are : now.trees ≡ before.trees
  pub quota_is : now.quota ≡ before.quota
  pub hand_is : Same before.hand now.hand
  pub room : before.room ≤ now.room + acts
  pub few : length now.acts ≤ length before.acts + acts

-- A guard that was asked came to this verdict, with the reads that its acts have, whatever further reads
-- are to come.
pub record Asks (guard : Tape → Guarded) (before after : List Act) (verdict : CrossVerdict)
    : Type 0 where
  pub seen : List SeenAt
  pub reads_are : reads_of after ≡ reads_of before ++ seen
  pub asked : (more : List SeenAt)
      → guard (tape before (seen ++ more)) ≡ record { verdict = verdict; tape = tape after more }

-- places of reads in their trees' histories, by tree and by stamp
abbrev pub Placing : Type 0
Placing = ℕ → ℕ → ℕ

-- acts with these places of their reads
abbrev pub with_places : Placing → List Act → List Act
with_places place acts = map (placed_by place) acts

-- the same under any limits of this quota, and with any places of reads
abbrev pub AsksUnder : ℕ → (LimitsValue → Tape → Guarded) → List Act → List Act → CrossVerdict
    → Type 0
AsksUnder quota guard before after verdict =
    (place : Placing) (limits : LimitsValue) → limits.quota ≡ quota
    → Asks (guard limits) (with_places place before) (with_places place after) verdict
