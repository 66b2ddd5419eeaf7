-- What was decided on what is offered: case by case, by the reads that came, and with a screen's code.
use Rattle.std.proofs.Common.{◌≡◌, ℕ, List, [], ◌++◌, Option, Some, None, Result, Ok, Err}
use Rattle.std.proofs.Common.{sym, ap, subst, ◌∙◌, Bool, true, false, ◌||◌}
use Rattle.std.proofs.lemmas.List.{append-nil}
use Rattle.limit_table.specs.Trees.{LimitsValue}
use Rattle.exposure_book.specs.Books.{BookValue}
use Rattle.screen_kit.specs.Screens.{ScreenValue}
use Rattle.screen_kit.specs.Sets.{first_code}
use Rattle.risk_journal.specs.declared.acts.Act.{Act}
use Rattle.risk_journal.specs.ActLists.{reads_of}
use Rattle.admit_core.specs.declared.ask.Verdict.{Verdict}
use Rattle.admit_core.specs.declared.ask.Verdict.TheVariants as verdict
use Rattle.admit_core.specs.Asking.{asking}
use Rattle.admit_core.specs.Tapes.{Tape, tape}
use Rattle.order_desk.specs.declared.offer.Offer.{Offer}
use Rattle.order_desk.specs.declared.refusal.Refusal.{Refusal}
use Rattle.order_desk.specs.declared.refusal.Refusal.TheVariants.{Screen}
use Rattle.order_desk.specs.Backing.{Covers}
use Rattle.order_desk.specs.Decisions.{Decision, Decides, refused, committed, screened, decided_on}
use Rattle.order_desk.specs.Decisions.{is_above_last, judged, offer_legs, taken_up, tree_decided}
use Rattle.order_desk.specs.Refusals.{refusal_by, refusal_by_code}

-- whatever is so of a refusal, and of what the trees decide on an offer, is so of what is decided
module _ (limits : LimitsValue) (screens : List ScreenValue) (book : BookValue) (before : Tape)
    (P : Decision → Type 0) (refuses : (why : Refusal) → P (refused why book before)) where
  by_screens : (decision : Decision) → P decision → (why : Option Refusal)
      → P (screened why book before decision)
  by_screens decision holds None = holds
  by_screens decision holds (Some why) = refuses why

  pub judged_is : (offer : Offer) (next : BookValue)
      → P (tree_decided limits offer book next before)
      → P (judged limits screens offer book next before)
  judged_is offer next holds =
      by_screens (tree_decided limits offer book next before) holds
      (refusal_by_code (first_code offer.seen screens))

-- a request, by what is offered for it and the book if it is sent
module _ (limits : LimitsValue) (screens : List ScreenValue)
    (offered : BookValue → Result Offer Refusal) (next : BookValue → Offer → BookValue)
    (acts : List Act) (book : BookValue) where
  abbrev pub by_offer : BookValue → Tape → Decision
  by_offer own before = decided_on limits screens (next own) own before (offered own)

  pub unoffered_decides : (why : Refusal) → Err why ≡ offered book
      → Decides by_offer acts acts book book (Some why)
  unoffered_decides why is = record {
    seen = [];
    reads_are = sym (append-nil (reads_of acts));
    decided = λ reads.
        ap (decided_on limits screens (next book) book (tape acts reads)) (sym is);
  }

  pub offered_decides : (offer : Offer) (acts_after : List Act) (after : BookValue)
      (answer : Option Refusal) → Ok offer ≡ offered book
      → Decides (λ own before. judged limits screens offer own (next book offer) before) acts
      acts_after book (committed answer book (next book offer)) answer
      → committed answer book (next book offer) ≡ after
      → Decides by_offer acts acts_after book after answer
  offered_decides offer acts_after after answer is decides kept = record {
    seen = decides.seen;
    reads_are = decides.reads_are;
    decided = λ more.
        ap (decided_on limits screens (next book) book (tape acts (decides.seen ++ more))) (sym is)
        ∙ decides.decided more
        ∙ ap (λ (own : BookValue). record {
          refusal = answer;
          tape = tape acts_after more;
          book = own;
        }) kept;
  }

  -- what keeps the book covered, whatever is read, has kept it so
  pub offered_covers : (offer : Offer) (acts_after : List Act) (after : BookValue)
      (answer : Option Refusal)
      → ((before : Tape) → Covers limits before.acts book
      → Covers limits (by_offer book before).tape.acts (by_offer book before).book)
      → Covers limits acts book → Ok offer ≡ offered book
      → Decides (λ own before. judged limits screens offer own (next book offer) before) acts
      acts_after book (committed answer book (next book offer)) answer
      → committed answer book (next book offer) ≡ after → Covers limits acts_after after
  offered_covers offer acts_after after answer keeps covers is decides kept =
      let own = offered_decides offer acts_after after answer is decides kept in
      subst (λ (decision : Decision). Covers limits decision.tape.acts decision.book)
      (own.decided []) (keeps (tape acts (own.seen ++ [])) covers)

-- no verdict of the trees is a screen's refusal
never_by : (verdict : Verdict) (code : ℕ) → refusal_by verdict ≡ Some (Screen code) → ⊥
never_by verdict.Sent code is = cc
never_by refusing code is = cc

module _ (book : BookValue) (before : Tape) (code : ℕ) where
  -- a decision with this code does nothing
  abbrev pub IsAlone : Decision → Type 0
  IsAlone decision =
      decision.refusal ≡ Some (Screen code) → decision ≡ refused (Screen code) book before

  taken_alone : (asks : Bool) (limits : LimitsValue) (offer : Offer) (next : BookValue)
      → IsAlone (taken_up asks limits offer book next before)
  taken_alone false limits offer next is = absurd cc
  taken_alone true limits offer next is =
      absurd (never_by
      (asking limits (offer_legs limits offer before.acts) before).verdict code is)

  alone : (why : Refusal) → IsAlone (refused why book before)
  alone why is = let same : why ≡ Screen code = cc in ap (λ w. refused w book before) same

  pub refused_alone : (limits : LimitsValue) (screens : List ScreenValue)
      (next : Offer → BookValue) (offered : Result Offer Refusal)
      → IsAlone (decided_on limits screens next book before offered)
  refused_alone limits screens next (Err why) = alone why
  refused_alone limits screens next (Ok offer) =
      judged_is limits screens book before IsAlone alone offer (next offer)
      (taken_alone (offer.always || is_above_last (offer_legs limits offer before.acts)) limits
      offer (next offer))
