-- Acts that are no calls read nothing.
use Rattle.std.proofs.Common.{◌≡◌, ℕ, List, [], ◌∷◌, ◌++◌, refl, ap, ◌∙◌}
use Rattle.std.specs.Prelude.{Option, Some, None, Bool, true, false, cond}
use Rattle.std.proofs.lemmas.List.{append-nil}
use Rattle.admit_core.specs.Tapes.{with_post}
use Rattle.limit_table.specs.Trees.{LimitsValue, halt_tree}
use Rattle.admit_core.proofs.ActLemmas.{reads_of-append}
use Rattle.order_desk.specs.declared.refusal.Refusal.{Refusal}
use Rattle.risk_journal.specs.declared.acts.Act.{Act}
use Rattle.risk_journal.specs.ActLists.{reads_of}
use Rattle.session_engine.specs.declared.note.Note.{Note}
use Rattle.session_engine.specs.Taken.{answer_act, note_acts}
use Rattle.session_engine.specs.Trips.{is_trip, acts_tripped}

pub reads_of-quiet : (acts more : List Act) → reads_of more ≡ []
    → reads_of (acts ++ more) ≡ reads_of acts
reads_of-quiet acts more unread =
    reads_of-append acts more ∙ ap (λ rs. reads_of acts ++ rs) unread
    ∙ append-nil (reads_of acts)

-- tripping the halt tree reads nothing
pub reads_tripped : (limits : LimitsValue) (refusal : Option Refusal) (firms : ℕ)
    (acts : List Act) → reads_of (acts_tripped limits refusal firms acts) ≡ reads_of acts
reads_tripped limits refusal firms acts = by_test (is_trip limits refusal firms)
  where
    by_test : (test : Bool)
        → reads_of (cond test (with_post (halt_tree limits) 1 acts) acts) ≡ reads_of acts
    by_test true = reads_of-quiet acts _ refl
    by_test false = refl

pub answer_unread : (frame : ℕ) (refusal : Option Refusal)
    → reads_of (answer_act frame refusal ∷ []) ≡ []
answer_unread frame None = refl
answer_unread frame (Some why) = refl

pub notes_unread : (frame : ℕ) (note : Option Note) → reads_of (note_acts frame note) ≡ []
notes_unread frame None = refl
notes_unread frame (Some what) = refl
