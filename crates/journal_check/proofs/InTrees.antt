-- Where no act is of a tree above the last, each is of one that isn't.
use Rattle.std.proofs.Common.{ℕ, ◌<◌, ◌≤◌, List, ⊎_elim, get_or, All, refl, inl}
use Rattle.std.proofs.lemmas.Option.{slice_get-get_or}
use Rattle.risk_board.specs.declared.hand.Line.{Line}
use Rattle.risk_journal.specs.declared.acts.Act.{Act}
use Rattle.risk_journal.specs.declared.acts.Act.TheVariants.{Post, Read, Sent, Refused, Noted, Ended}
use Rattle.journal_check.specs.ActFaults.{IsAbove}
use Rattle.journal_check.specs.FarRows.{IsFarRow}
use Rattle.journal_check.specs.RowNumbers.{act_row}
use Rattle.journal_check.specs.SameActs.{IsInTrees}
use Rattle.journal_check.proofs.Cases.{le_or_lt}

not_above : (last tree : ℕ) → ¬ (last < tree) → tree ≤ last
not_above last tree near =
    ⊎_elim (λ (le : tree ≤ last). le) (λ (lt : last < tree). absurd (near lt)) (le_or_lt tree last)

in_trees : (last : ℕ) (act : Act) → ¬ IsAbove last act → IsInTrees last act
in_trees last (Post tree index value) near = not_above last tree near
in_trees last (Read tree stamp place value) near = not_above last tree near
in_trees last (Sent frame) near = tt
in_trees last (Refused frame code first second) near = tt
in_trees last (Noted frame code first second) near = tt
in_trees last (Ended end) near = tt

pub all_in_trees : (last : ℕ) (acts : List (List Act)) (lines : List (List Line))
    → ((row : ℕ) → ¬ IsFarRow last acts lines row)
    → All (λ (own : List Act). All (IsInTrees last) own) acts
all_in_trees last acts lines near session d less index e inside =
    in_trees last (get_or (get_or acts session d) index e)
    (λ above. near (act_row acts session index) (inl (record {
      act = get_or (get_or acts session d) index e;
      has = record {
        session = session;
        index = index;
        own = get_or acts session d;
        of_session = slice_get-get_or acts session d less;
        at = slice_get-get_or (get_or acts session d) index e inside;
        row_is = refl;
      };
      is = above;
    })))
