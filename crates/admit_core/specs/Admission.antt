-- The acts of an admission in their order, and the values that its verdict is of.
use Rattle.std.specs.Prelude.{◌≡◌, ◌≢◌, ℕ, ◌≤◌, ◌<◌, List, [], ◌∷◌, drop, fold, slice_index}
use Rattle.std.specs.Prelude.{slice_index_or}
use Rattle.fold_law.specs.declared.limits.TheConstants.{LEAF}
use Rattle.risk_board.specs.declared.hand.Seen.{Seen}
use Rattle.risk_journal.specs.declared.acts.Act.{Act}
use Rattle.risk_journal.specs.ActLists.{SeenAt, posts_in}
use Rattle.admit_core.specs.declared.ask.Ask.{Ask}
use Rattle.admit_core.specs.declared.ask.Outcome.{Outcome}
use Rattle.admit_core.specs.declared.ask.Verdict.{Verdict}
use Rattle.admit_core.specs.declared.ask.Verdict.TheVariants.{Sent, Firm, Account, Symbol, Quota}
use Rattle.admit_core.specs.Hands.{HandsValue}
use Rattle.admit_core.specs.Legs.{Leg, leg_at, trees_of}
use Rattle.admit_core.specs.Tapes.{next_read, with_post, with_read, unplaced}

-- a root that was not read
abbrev pub no_root : Seen
no_root = record { stamp = 0; value = 0 }

-- the root at a place
abbrev pub root_at : ℕ → List Seen → Seen
root_at place roots = slice_index_or roots place no_root

-- the roots of the three trees, as they are told
abbrev pub all_unplaced : List Seen → List SeenAt
all_unplaced roots =
    unplaced (root_at 0 roots) ∷ unplaced (root_at 1 roots) ∷ unplaced (root_at 2 roots) ∷ []

-- the roots that are read for an order: the halt root and those of the three trees
abbrev pub roots_read : Seen → List Seen → List SeenAt
roots_read halt roots = unplaced halt ∷ all_unplaced roots

-- a value of each leg is posted, in order
abbrev pub with_posts : (Leg → ℕ) → List Leg → List Act → List Act
with_posts value legs acts = fold (λ before leg. with_post leg.tree (value leg) before) acts legs

-- these trees' roots are read, in order
abbrev pub with_reads : List ℕ → List SeenAt → List Act → List Act
with_reads [] seen acts = acts
with_reads (tree ∷ trees) seen acts =
    with_reads trees (drop 1 seen) (with_read tree (next_read seen) acts)

-- the new values are posted, then the halt root is read, and then the three roots
abbrev pub with_asked : ℕ → List Leg → List SeenAt → List Act → List Act
with_asked halt_tree legs seen acts =
    with_reads (halt_tree ∷ trees_of legs) seen (with_posts (λ leg. leg.new) legs acts)

-- no act after Quota, and after any other refusal the old values are posted back
abbrev pub acts_by : Verdict → ℕ → List Leg → List SeenAt → List Act → List Act
acts_by Quota halt_tree legs seen acts = acts
acts_by Sent halt_tree legs seen acts = with_asked halt_tree legs seen acts
acts_by other halt_tree legs seen acts =
    with_posts (λ leg. leg.old) legs (with_asked halt_tree legs seen acts)

-- the acts after an admission
abbrev pub admitted : ℕ → List Leg → Outcome → List Act → List Act
admitted halt_tree legs outcome acts =
    acts_by outcome.verdict halt_tree legs (roots_read outcome.halt outcome.roots) acts

-- this value of the leg can be posted
pub record CanPost {H M : Type 0} (hands : HandsValue H M) (value : Leg → ℕ) (leg : Leg)
    : Type 0 where
  pub in_range : leg.tree < hands.halt_tree
  pub left : posts_in leg.tree hands.acts < hands.quota
  pub capped : value leg ≤ LEAF

-- so can those of the three legs, which are of different trees
pub record CanPostAll {H M : Type 0} (hands : HandsValue H M) (value : Leg → ℕ) (ask : Ask)
    : Type 0 where
  pub firm : CanPost hands value (leg_at 0 Firm ask)
  pub account : CanPost hands value (leg_at 1 Account ask)
  pub symbol : CanPost hands value (leg_at 2 Symbol ask)
  pub firm_account : slice_index ask.trees 0 ≢ slice_index ask.trees 1
  pub firm_symbol : slice_index ask.trees 0 ≢ slice_index ask.trees 2
  pub account_symbol : slice_index ask.trees 1 ≢ slice_index ask.trees 2

-- the three trees are among so many
pub record AreInRange (count : ℕ) (trees : List ℕ) : Type 0 where
  pub firm : slice_index trees 0 < count
  pub account : slice_index trees 1 < count
  pub symbol : slice_index trees 2 < count

-- what an order gets for which nothing was read
abbrev pub unread : Outcome
unread = record {
  verdict = Quota;
  halt = no_root;
  roots = no_root ∷ no_root ∷ no_root ∷ [];
}

-- nobody has halted, and each of the three roots is within its limit
pub record IsWithin (ask : Ask) (outcome : Outcome) : Type 0 where
  pub halt : outcome.halt.value ≡ 0
  pub firm : (root_at 0 outcome.roots).value ≤ slice_index ask.limits 0
  pub account : (root_at 1 outcome.roots).value ≤ slice_index ask.limits 1
  pub symbol : (root_at 2 outcome.roots).value ≤ slice_index ask.limits 2
