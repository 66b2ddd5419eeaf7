-- The events of acts whose reads are placed by tree and stamp are those of the calls.
use Rattle.std.proofs.Common.{◌≡◌, ℕ, ◌<◌, ◌==◌, List, [], ◌∷◌, map, refl, sym, ap, ◌∙◌, arith, cond}
use Rattle.std.proofs.Common.{Bool, true, false}
use Rattle.std.specs.Prelude.{nat_lt}
use Rattle.std.proofs.lemmas.Bool.Decides.{nat_tests}
use Rattle.risk_board.specs.declared.hand.Call.{Call}
use Rattle.risk_board.specs.declared.hand.Call.TheVariants as call
use Rattle.risk_board.specs.History.{Event, events_of_calls}
use Rattle.risk_board.specs.History.Event.{Posted, Saw}
use Rattle.risk_journal.specs.declared.acts.Act.{Act}
use Rattle.risk_journal.specs.declared.acts.Act.TheVariants.{Post, Read, Sent, Refused, Noted, Ended}
use Rattle.risk_journal.specs.ActLists.{calls_below, calls_at, events_of, placed_by}

module _ (place : ℕ → ℕ → ℕ) where
  abbrev at_places : List Act → List Act
  at_places acts = map (placed_by place) acts

  -- a call that is kept or not is an event of the tree, or of another
  kept_or_other : (at : ℕ → ℕ) (tree : ℕ) (kept here : Bool) (one : Call) (first : Event)
      (calls : List Call) (later : List Event) → (kept ≡ false → here ≡ false)
      → events_of_calls at tree calls ≡ later
      → events_of_calls at tree (one ∷ calls)
      ≡ cond here (first ∷ events_of_calls at tree calls) (events_of_calls at tree calls)
      → events_of_calls at tree (cond kept (one ∷ calls) calls)
      ≡ cond here (first ∷ later) later
  kept_or_other at tree true here one first calls later other same is =
      is ∙ ap (λ (l : List Event). cond here (first ∷ l) l) same
  kept_or_other at tree false here one first calls later other same is =
      same ∙ sym (ap (λ (h : Bool). cond h (first ∷ later) later) (other refl))

  isnt_below : (count tree in_tree : ℕ) → tree < count → nat_lt in_tree count ≡ false
      → (in_tree == tree) ≡ false
  isnt_below count tree in_tree below above = grind (arith, nat_tests)

  -- a read's place is looked up in its own tree, which is this one where it is an event of it
  same_tree : (tree in_tree stamp value : ℕ) (here : Bool) (later : List Event)
      → (in_tree == tree) ≡ here
      → cond here (Saw stamp (place tree stamp) value ∷ later) later
      ≡ cond here (Saw stamp (place in_tree stamp) value ∷ later) later
  same_tree tree in_tree stamp value true later is =
      let same : in_tree ≡ tree = grind (arith, nat_tests) in
      ap (λ (t : ℕ). Saw stamp (place t stamp) value ∷ later) (sym same)
  same_tree tree in_tree stamp value false later is = refl

  pub events_below : (count tree : ℕ) (acts : List Act) → tree < count
      → events_of_calls (place tree) tree (calls_below count acts)
      ≡ events_of tree (at_places acts)
  events_below count tree [] below = refl
  events_below count tree (Post in_tree index value ∷ acts) below =
      kept_or_other (place tree) tree (nat_lt in_tree count) (in_tree == tree)
      (call.Post in_tree value)
      (Posted value) (calls_below count acts) _ (isnt_below count tree in_tree below)
      (events_below count tree acts below) refl
  events_below count tree (Read in_tree stamp before value ∷ acts) below =
      kept_or_other (place tree) tree (nat_lt in_tree count) (in_tree == tree)
      (call.Read in_tree stamp value)
      (Saw stamp (place tree stamp) value) (calls_below count acts) _
      (isnt_below count tree in_tree below)
      (events_below count tree acts below) refl
      ∙ same_tree tree in_tree stamp value (in_tree == tree) (events_of tree (at_places acts)) refl
  events_below count tree (Sent frame ∷ acts) below = events_below count tree acts below
  events_below count tree (Refused frame code first second ∷ acts) below =
      events_below count tree acts below
  events_below count tree (Noted frame code first second ∷ acts) below =
      events_below count tree acts below
  events_below count tree (Ended end ∷ acts) below = events_below count tree acts below

  kept_alone : (at : ℕ → ℕ) (kept : Bool) (one : Call) (first : Event) (calls : List Call)
      (later : List Event) → events_of_calls at 0 calls ≡ later
      → events_of_calls at 0 (one ∷ calls) ≡ first ∷ events_of_calls at 0 calls
      → events_of_calls at 0 (cond kept (one ∷ calls) calls) ≡ cond kept (first ∷ later) later
  kept_alone at true one first calls later same is = is ∙ ap (λ (l : List Event). first ∷ l) same
  kept_alone at false one first calls later same is = same

  pub events_at : (tree : ℕ) (acts : List Act)
      → events_of_calls (place tree) 0 (calls_at tree acts) ≡ events_of tree (at_places acts)
  events_at tree [] = refl
  events_at tree (Post in_tree index value ∷ acts) =
      kept_alone (place tree) (in_tree == tree) (call.Post 0 value) (Posted value)
      (calls_at tree acts) _ (events_at tree acts) refl
  events_at tree (Read in_tree stamp before value ∷ acts) =
      kept_alone (place tree) (in_tree == tree) (call.Read 0 stamp value)
      (Saw stamp (place tree stamp) value)
      (calls_at tree acts) _ (events_at tree acts) refl
      ∙ same_tree tree in_tree stamp value (in_tree == tree) (events_of tree (at_places acts)) refl
  events_at tree (Sent frame ∷ acts) = events_at tree acts
  events_at tree (Refused frame code first second ∷ acts) = events_at tree acts
  events_at tree (Noted frame code first second ∷ acts) = events_at tree acts
  events_at tree (Ended end ∷ acts) = events_at tree acts
