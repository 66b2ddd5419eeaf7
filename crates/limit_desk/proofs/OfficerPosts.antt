-- The posts of the rows so far.
use Rattle.std.proofs.Common.{◌≡◌, ℕ, ◌+◌, ◌<◌, List, [], ◌∷◌, length, sym, ap, ◌∙◌}
use Rattle.std.proofs.Common.{arith, take, get_or, fold, length-append}
use Rattle.std.proofs.lemmas.List.{length-take}
use Rattle.std.proofs.lemmas.List.Sums.{fold_more}
use Rattle.limit_table.specs.Trees.{LimitsValue, halt_tree}
use Rattle.risk_journal.specs.declared.acts.Act.{Act}
use Rattle.risk_journal.specs.declared.acts.Act.TheVariants.{Post}
use Rattle.risk_journal.specs.ActLists.{posts_in}
use Rattle.limit_desk.specs.declared.officer.OfficerRow.{OfficerRow}
use Rattle.limit_desk.specs.Hands.{IsAfter, OfficerValue}
use Rattle.limit_desk.specs.Posting.{posts_of, tree_number, with_row}

-- as many acts as rows
posts_length : (halt_tree : ℕ) (acts : List Act) (rows : List OfficerRow)
    → length (fold (with_row halt_tree) acts rows) ≡ length acts + length rows
posts_length halt_tree acts [] = omega arith
posts_length halt_tree acts (row ∷ rows) =
    let number = tree_number halt_tree row.tree in
    let next = with_row halt_tree acts row in
    posts_length halt_tree next rows
    ∙ omega (arith, length-append acts (Post number (posts_in number acts + 1) row.value ∷ []))

-- so many first rows are posted, on these hands
pub record IsPosted {M D : Type 0} (SameHalt : M → M → Type 0) (SameDesk : D → D → Type 0)
    (limits : LimitsValue) (rows : List OfficerRow) (count : ℕ) (halt : M) (desk : D)
    (told : OfficerValue M D) : Type 0 where
  pub halt_tree_is : told.halt_tree ≡ halt_tree limits
  pub halt_is : SameHalt halt told.halt
  pub desk_is : SameDesk desk told.desk
  pub acts_are : told.acts ≡ posts_of (halt_tree limits) (take count rows)

module _ {M D : Type 0} (SameHalt : M → M → Type 0) (SameDesk : D → D → Type 0)
    (limits : LimitsValue) (rows : List OfficerRow) (count : ℕ) (halt : M) (desk : D)
    (told : OfficerValue M D)
    (posted : IsPosted SameHalt SameDesk limits rows count halt desk told) (more : count < length rows)
  where
    -- one act for each row so far
    pub few_acts : length told.acts ≡ count
    few_acts = omega (
      arith,
      ap length posted.acts_are,
      posts_length (halt_tree limits) [] (take count rows),
      length-take count rows,
      more,
    )

    -- a row more is posted
    pub posted_next : ((a b c : M) → SameHalt a b → SameHalt b c → SameHalt a c)
        → ((a b c : D) → SameDesk a b → SameDesk b c → SameDesk a c) → (ready now : OfficerValue M D)
        → (d : OfficerRow) → IsAfter SameHalt SameDesk told ready → ready.acts ≡ told.acts
        → IsAfter SameHalt SameDesk ready now
        → now.acts ≡ with_row ready.halt_tree ready.acts (get_or rows count d)
        → IsPosted SameHalt SameDesk limits rows (count + 1) halt desk now
    posted_next halt_next desk_next ready now d room same step acts = record {
      halt_tree_is = step.halt_tree_is ∙ room.halt_tree_is ∙ posted.halt_tree_is;
      halt_is = halt_next _ _ _ posted.halt_is (halt_next _ _ _ room.halt_is step.halt_is);
      desk_is = desk_next _ _ _ posted.desk_is (desk_next _ _ _ room.desk_is step.desk_is);
      acts_are = acts
          ∙ ap (λ n. with_row n ready.acts (get_or rows count d))
          (room.halt_tree_is ∙ posted.halt_tree_is)
          ∙ ap (λ l. with_row (halt_tree limits) l (get_or rows count d)) (same ∙ posted.acts_are)
          ∙ sym (fold_more (with_row (halt_tree limits)) [] rows count d more);
    }
