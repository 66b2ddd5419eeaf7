-- Lower values in three trees, one after another: what was last posted in one stays where another falls.
use Rattle.std.proofs.Common.{◌≡◌, ℕ, ◌<◌, ◌&&◌, List, refl, sym, ap, ◌∙◌}
use Rattle.std.proofs.Common.{arith, Bool, true, false}
use Rattle.std.specs.Prelude.{slice_index}
use Rattle.std.proofs.lemmas.Bool.{ne_eqb}
use Rattle.limit_table.specs.Trees.{LimitsValue, account_tree, symbol_tree}
use Rattle.risk_journal.specs.declared.acts.Act.{Act}
use Rattle.risk_journal.specs.ActLists.{last_post}
use Rattle.admit_core.specs.declared.ask.Verdict.TheVariants.{Firm, Account, Symbol}
use Rattle.admit_core.specs.declared.rows.OrderRows.{OrderRows}
use Rattle.admit_core.specs.Legs.{Leg, leg_with, legs_of, AreRowsOf}
use Rattle.admit_core.specs.Lowering.{Lowered, lowered_to, lowered_in, lowering}
use Rattle.admit_core.proofs.LoweredTrees.{lowers_one, one_keeps}

-- what one call does is what the leg says, where nothing was posted in its tree since
lowers_as : (limits : LimitsValue) (leg : Leg) (quota tree : ℕ) (acts now : List Act)
    → quota ≡ limits.quota → tree ≡ leg.tree → now ≡ acts → leg.old ≡ last_post leg.tree acts
    → lowered_to quota tree leg.new now ≡ lowered_in limits leg acts
lowers_as limits leg quota tree acts now quota_is tree_is now_is old_is =
    rw (quota_is, tree_is, now_is, old_is) refl

and_three : (a b c : Bool) → (a && b) && c ≡ a && (b && (c && true))
and_three true true true = refl
and_three true true false = refl
and_three true false c = refl
and_three false b c = refl

module _ (limits : LimitsValue) (rows : OrderRows) (acts : List Act) (values : List ℕ)
    (are : AreRowsOf limits rows) where
  abbrev account : ℕ
  account = account_tree rows.account

  abbrev symbol : ℕ
  symbol = symbol_tree limits rows.symbol

  abbrev firm_leg : Leg
  firm_leg = leg_with limits acts 0 (slice_index values 0) Firm

  abbrev account_leg : Leg
  account_leg = leg_with limits acts account (slice_index values 1) Account

  abbrev symbol_leg : Leg
  symbol_leg = leg_with limits acts symbol (slice_index values 2) Symbol

  abbrev one : Lowered
  one = lowered_in limits firm_leg acts

  abbrev two : Lowered
  two = lowered_in limits account_leg one.acts

  abbrev three : Lowered
  three = lowered_in limits symbol_leg two.acts

  kept : (leg : Leg) (tree : ℕ) (before : List Act) → leg.tree < tree
      → last_post tree (lowered_in limits leg before).acts ≡ last_post tree before
  kept leg tree before below = (one_keeps limits.quota tree leg before
      (lowered_in limits leg before).acts
      (ne_eqb leg.tree tree (λ e. absurd (omega (arith, e, below)))) (lowers_one limits leg before)).last

  account_kept : last_post account one.acts ≡ last_post account acts
  account_kept = kept firm_leg account acts (omega arith)

  symbol_kept : last_post symbol two.acts ≡ last_post symbol acts
  symbol_kept = kept account_leg symbol one.acts (omega (arith, are.account))
      ∙ kept firm_leg symbol acts (omega arith)

  module _ (quota : ℕ) (quota_is : quota ≡ limits.quota) (first : Lowered)
      (firm : first ≡ lowered_to quota 0 (slice_index values 0) acts) where
    firm_is : first ≡ one
    firm_is = firm ∙ lowers_as limits firm_leg quota 0 acts acts quota_is refl refl refl

    pub account_last : last_post account first.acts ≡ last_post account acts
    account_last = ap (λ (l : Lowered). last_post account l.acts) firm_is ∙ account_kept

    module _ (next_quota number : ℕ) (next_quota_is : next_quota ≡ limits.quota)
        (number_is : number ≡ account) (second : Lowered)
        (then : second ≡ lowered_to next_quota number (slice_index values 1) first.acts) where
      account_is : second ≡ two
      account_is = then ∙ lowers_as limits account_leg next_quota number one.acts first.acts
          next_quota_is number_is (ap (λ (l : Lowered). l.acts) firm_is) (sym account_kept)

      pub symbol_last : last_post symbol second.acts ≡ last_post symbol acts
      symbol_last = ap (λ (l : Lowered). last_post symbol l.acts) account_is ∙ symbol_kept

      module _ (last_quota last_number : ℕ) (last_quota_is : last_quota ≡ limits.quota)
          (last_number_is : last_number ≡ symbol) (third : Lowered)
          (last : third ≡ lowered_to last_quota last_number (slice_index values 2) second.acts)
        where
          symbol_is : third ≡ three
          symbol_is = last ∙ lowers_as limits symbol_leg last_quota last_number two.acts second.acts
              last_quota_is last_number_is (ap (λ (l : Lowered). l.acts) account_is) (sym symbol_kept)

          pub all_acts : third.acts ≡ (lowering limits (legs_of limits rows acts values) acts).acts
          all_acts = ap (λ (l : Lowered). l.acts) symbol_is

          pub all_done : (first.done && second.done) && third.done
              ≡ (lowering limits (legs_of limits rows acts values) acts).done
          all_done =
              and_three first.done second.done third.done
              ∙ ap (λ (l : Lowered). l.done && (second.done && (third.done && true))) firm_is
              ∙ ap (λ (l : Lowered). one.done && (l.done && (third.done && true))) account_is
              ∙ ap (λ (l : Lowered). one.done && (two.done && (l.done && true))) symbol_is
