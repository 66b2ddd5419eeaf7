-- The events of acts whose reads are placed by tree and stamp are those of all their calls.
use Rattle.std.proofs.Common.{◌≡◌, ℕ, ◌==◌, List, [], ◌∷◌, map, refl, sym, ap, ◌∙◌, arith, cond}
use Rattle.std.proofs.Common.{Bool, true, false}
use Rattle.std.proofs.lemmas.Bool.Decides.{nat_tests}
use Rattle.risk_board.specs.History.{Event, events_of_calls}
use Rattle.risk_board.specs.History.Event.{Posted, Saw}
use Rattle.risk_journal.specs.declared.acts.Act.{Act}
use Rattle.risk_journal.specs.declared.acts.Act.TheVariants.{Post, Read, Sent, Refused, Noted}
use Rattle.risk_journal.specs.declared.acts.Act.TheVariants.{Ended}
use Rattle.risk_journal.specs.ActLists.{calls_of, events_of, placed_by}

module _ (place : ℕ → ℕ → ℕ) where
  -- a read's place is looked up in its own tree, which is this one where it is an event of it
  same_tree : (tree in_tree stamp value : ℕ) (here : Bool) (later : List Event)
      → (in_tree == tree) ≡ here
      → cond here (Saw stamp (place tree stamp) value ∷ later) later
      ≡ cond here (Saw stamp (place in_tree stamp) value ∷ later) later
  same_tree tree in_tree stamp value true later is =
      let same : in_tree ≡ tree = grind (arith, nat_tests) in
      ap (λ (t : ℕ). Saw stamp (place t stamp) value ∷ later) (sym same)
  same_tree tree in_tree stamp value false later is = refl

  pub events_all : (tree : ℕ) (acts : List Act)
      → events_of_calls (place tree) tree (calls_of acts)
      ≡ events_of tree (map (placed_by place) acts)
  events_all tree [] = refl
  events_all tree (Post in_tree index value ∷ acts) =
      ap (λ (l : List Event). cond (in_tree == tree) (Posted value ∷ l) l) (events_all tree acts)
  events_all tree (Read in_tree stamp before value ∷ acts) =
      ap (λ (l : List Event). cond (in_tree == tree) (Saw stamp (place tree stamp) value ∷ l) l)
      (events_all tree acts)
      ∙ same_tree tree in_tree stamp value (in_tree == tree)
      (events_of tree (map (placed_by place) acts)) refl
  events_all tree (Sent frame ∷ acts) = events_all tree acts
  events_all tree (Refused frame code first second ∷ acts) = events_all tree acts
  events_all tree (Noted frame code first second ∷ acts) = events_all tree acts
  events_all tree (Ended end ∷ acts) = events_all tree acts
