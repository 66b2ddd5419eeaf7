-- Acts that are added to others, no end among them, and where nothing more is said, no read.
use Rattle.std.proofs.Common.{◌≡◌, ℕ, ◌+◌, List, [], ◌∷◌, ◌++◌, refl, sym, ap, ◌∙◌, append_assoc}
use Rattle.std.specs.Prelude.{Bool, true, false, ◌==◌, nat_le, if◌then◌else◌}
use Rattle.std.proofs.lemmas.List.{append-nil}
use Rattle.exposure_book.specs.declared.answer.Applied.{Applied}
use Rattle.exposure_book.specs.declared.answer.Applied.TheVariants as applied
use Rattle.exposure_book.specs.Books.{BookValue}
use Rattle.risk_journal.specs.declared.acts.Act.{Act}
use Rattle.risk_journal.specs.declared.acts.Act.TheVariants.{Post}
use Rattle.risk_journal.specs.ActLists.{posts_in, reads_of}
use Rattle.risk_journal.specs.JournalGrammar.{IsNoEnd}
use Rattle.risk_journal.proofs.PlacedActs.{reads_of-append}
use Rattle.limit_table.specs.Trees.{LimitsValue}
use Rattle.admit_core.specs.Tapes.{with_post}
use Rattle.admit_core.specs.Legs.{Leg, legs_of}
use Rattle.admit_core.specs.Lowering.{Lowered, lowered_in, lowering}
use Rattle.order_desk.specs.Reported.{settled_with}
use Rattle.order_desk.specs.Values.{values_told, rows_told}

-- no act is an end
abbrev pub AreNoEnds : List Act → Type 0
AreNoEnds [] = Unit {0}
AreNoEnds (act ∷ acts) = IsNoEnd act × AreNoEnds acts

no_ends-append : (one two : List Act) → AreNoEnds one → AreNoEnds two → AreNoEnds (one ++ two)
no_ends-append [] two first second = second
no_ends-append (act ∷ one) two (first, more) second = (first, no_ends-append one two more second)

-- the acts after are those before, and then more, none of which is an end
pub record Grows (before after : List Act) : Type 0 where
  pub more : List Act
  pub is : after ≡ before ++ more
  pub no_ends : AreNoEnds more

pub grows_by : (acts : List Act) (act : Act) → IsNoEnd act → Grows acts (acts ++ act ∷ [])
grows_by acts act no_end = record { more = act ∷ []; is = refl; no_ends = (no_end, tt) }

pub grows_then : {first next last : List Act} → Grows first next → Grows next last
    → Grows first last
grows_then {first} one two = record {
  more = one.more ++ two.more;
  is = two.is ∙ ap (λ acts. acts ++ two.more) one.is ∙ append_assoc first one.more two.more;
  no_ends = no_ends-append one.more two.more one.no_ends two.no_ends;
}

-- and they read nothing
pub record Adds (before after : List Act) : Type 0 where
  pub grows : Grows before after
  pub unread : reads_of after ≡ reads_of before

pub adds_none : (acts : List Act) → Adds acts acts
adds_none acts = record {
  grows = record { more = []; is = sym (append-nil acts); no_ends = tt };
  unread = refl;
}

-- an act that is no read
pub unread-snoc : (acts : List Act) (act : Act) → reads_of (act ∷ []) ≡ []
    → reads_of (acts ++ act ∷ []) ≡ reads_of acts
unread-snoc acts act none =
    reads_of-append acts (act ∷ [])
    ∙ ap (λ reads. reads_of acts ++ reads) none
    ∙ append-nil (reads_of acts)

pub adds_by : (acts : List Act) (act : Act) → IsNoEnd act → reads_of (act ∷ []) ≡ []
    → Adds acts (acts ++ act ∷ [])
adds_by acts act no_end none =
    record { grows = grows_by acts act no_end; unread = unread-snoc acts act none }

pub adds_post : (tree value : ℕ) (acts : List Act) → Adds acts (with_post tree value acts)
adds_post tree value acts = adds_by acts (Post tree (posts_in tree acts + 1) value) tt refl

adds_then : {first next last : List Act} → Adds first next → Adds next last → Adds first last
adds_then one two =
    record { grows = grows_then one.grows two.grows; unread = two.unread ∙ one.unread }

-- by whether the value differs, and whether a post is left
leg_adds : (same full : Bool) (leg : Leg) (acts : List Act)
    → Adds acts (if same then (let l : Lowered = record { done = true; acts = acts } in l)
    else (if full then record { done = false; acts = acts }
    else record { done = true; acts = with_post leg.tree leg.new acts })).acts
leg_adds true full leg acts = adds_none acts
leg_adds false true leg acts = adds_none acts
leg_adds false false leg acts = adds_post leg.tree leg.new acts

lowering_adds : (limits : LimitsValue) (legs : List Leg) (acts : List Act)
    → Adds acts (lowering limits legs acts).acts
lowering_adds limits [] acts = adds_none acts
lowering_adds limits (leg ∷ legs) acts =
    adds_then
    (leg_adds (leg.new == leg.old) (nat_le limits.quota (posts_in leg.tree acts)) leg acts)
    (lowering_adds limits legs (lowered_in limits leg acts).acts)

-- what a report comes to adds posts alone
pub settled_adds : (limits : LimitsValue) (book : BookValue) (acts : List Act) (answer : Applied)
    → Adds acts (settled_with limits book acts answer).acts
settled_adds limits book acts (applied.Applied terms) =
    lowering_adds limits (legs_of limits (rows_told terms) acts (values_told terms)) acts
settled_adds limits book acts applied.Stray = adds_none acts
settled_adds limits book acts applied.Over = adds_none acts
