-- The three trees that an order counts in, with what was posted there and what is to be.
use Rattle.std.specs.Prelude.{◌≡◌, ◌≢◌, ℕ, ◌≤◌, ◌<◌, List, [], ◌∷◌, length, map, slice_index}
use Rattle.std.specs.List.{slice_index_or}
use Rattle.fold_law.specs.declared.limits.TheConstants.{LEAF}
use Rattle.limit_table.specs.Trees.{LimitsValue, tree_limits, account_tree, symbol_tree}
use Rattle.risk_journal.specs.declared.acts.Act.{Act}
use Rattle.risk_journal.specs.ActLists.{last_post}
use Rattle.admit_core.specs.declared.ask.Ask.{Ask}
use Rattle.admit_core.specs.declared.ask.Verdict.{Verdict}
use Rattle.admit_core.specs.declared.ask.Verdict.TheVariants.{Firm, Account, Symbol}
use Rattle.admit_core.specs.declared.rows.OrderRows.{OrderRows}

-- a tree that an order counts in: its limit, the value last posted, the new value, and the verdict
-- where the root is above the limit
pub record Leg : Type 0 where
  pub tree : ℕ
  pub limit : ℕ
  pub old : ℕ
  pub new : ℕ
  pub above : Verdict

abbrev pub trees_of : List Leg → List ℕ
trees_of legs = map (λ leg. leg.tree) legs

-- the leg at a place of what is asked
abbrev pub leg_at : ℕ → Verdict → Ask → Leg
leg_at place above ask = record {
  tree = slice_index ask.trees place;
  limit = slice_index ask.limits place;
  old = slice_index ask.old place;
  new = slice_index ask.new place;
  above = above;
}

-- the legs of what is asked: the firm's, the account's and the symbol's
abbrev pub legs_asked : Ask → List Leg
legs_asked ask = leg_at 0 Firm ask ∷ leg_at 1 Account ask ∷ leg_at 2 Symbol ask ∷ []

-- the leg's tree is one of so many trees of sums, its old value is what the acts last posted there,
-- and both values can be posted
pub record IsLegOf (trees : ℕ) (acts : List Act) (leg : Leg) : Type 0 where
  pub in_range : leg.tree < trees
  pub last : leg.old ≡ last_post leg.tree acts
  pub old_capped : leg.old ≤ LEAF
  pub new_capped : leg.new ≤ LEAF

-- two legs are of different trees
abbrev pub AreApart : Leg → Leg → Type 0
AreApart one other = one.tree ≢ other.tree

-- the rows are among those of the limits
pub record AreRowsOf (limits : LimitsValue) (rows : OrderRows) : Type 0 where
  pub account : rows.account < length limits.accounts
  pub symbol : rows.symbol < length limits.symbols

-- the leg of a tree after these acts
abbrev pub leg_with : LimitsValue → List Act → ℕ → ℕ → Verdict → Leg
leg_with limits acts tree new above = record {
  tree = tree;
  limit = slice_index_or (tree_limits limits) tree 0;
  old = last_post tree acts;
  new = new;
  above = above;
}

-- the legs of these rows, with the three values: the firm's, the account's and the symbol's
abbrev pub legs_of : LimitsValue → OrderRows → List Act → List ℕ → List Leg
legs_of limits rows acts values =
    leg_with limits acts 0 (slice_index values 0) Firm
    ∷ leg_with limits acts (account_tree rows.account) (slice_index values 1) Account
    ∷ leg_with limits acts (symbol_tree limits rows.symbol) (slice_index values 2) Symbol ∷ []
