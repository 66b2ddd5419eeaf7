-- A check in which nothing failed is judged: each other way has a cause that the counts rule out.
use Rattle.std.proofs.Common.{◌≡◌, ℕ, List, subst, inl, inr}
use Rattle.std.specs.Prelude.{Option}
use Rattle.screen_kit.specs.Screens.{ScreenValue}
use Rattle.gate_files.specs.Ports.{PortsValue}
use Rattle.gate_files.specs.Told.{Tells}
use Rattle.gate_files.specs.Words.{CheckWords, Command}
use Rattle.check_command.specs.Gate.{CheckWent, FilesStopped, FilesJudged}
use Rattle.check_command.specs.Verdicts.{Verdict, verdict_number}
use Rattle.check_command.specs.Verdicts.Verdict.{Lawful, Faulty}
use Rattle.gate_program.specs.Commands.{CommandWent, GateRun}
use Rattle.gate_program.specs.UnfailingChecks.{HasUnfailingCheck, IsJudged}
use Rattle.gate_program.specs.WholeInputs.{HasNoFault}

-- a verdict has the status 0 or 7
of_verdict : (verdict : Verdict) (status : ℕ) → status ≡ verdict_number verdict → IsJudged status
of_verdict Lawful status is = inl is
of_verdict (Faulty kind row) status is = inr (inr (inl is))

module _ (check : CheckWords) (sets : List (List ScreenValue)) (before after : PortsValue)
    (status : ℕ) (no_fault : HasNoFault before after) where
  -- standard output didn't fail, so the status is the one that stands
  stands : (text : List ℕ) (standing : ℕ) → Tells before after text standing status
      → status ≡ standing
  stands text standing (inl told) = told.0
  stands text standing (inr faulty) = absurd (no_fault.out faulty.1)

  stopped : FilesStopped check before after status → IsJudged status
  stopped (inl unread) = absurd (no_fault.read _ unread.rose)
  stopped (inr (inl refused)) = inr (inl (stands _ _ refused.told))
  stopped (inr (inr unread)) = absurd (no_fault.read _ unread.rose)

  judged : FilesJudged check sets before after status → IsJudged status
  judged (inl unopened) = absurd (no_fault.read _ unopened.rose)
  judged (inr (inl unchecked)) = absurd (no_fault.read _ unchecked.rose)
  judged (inr (inr checked)) = of_verdict checked.verdict status (stands _ _ checked.told)

  went_is_judged : CheckWent check sets before after status → IsJudged status
  went_is_judged went = elim went.way [
    | inl early ↦ stopped early
    | inr late ↦ judged late
  ]

-- a check in which nothing failed is judged, unless memory was wanting
pub unfailing_is_judged : (words : List (List ℕ)) (sets : List (List ScreenValue))
    (before after : PortsValue) (status : ℕ)
    → HasUnfailingCheck words before after → GateRun words sets before after status
    → IsJudged status
unfailing_is_judged words sets before after status has (inl memory) = inr (inr (inr memory))
unfailing_is_judged words sets before after status has (inr went) =
    went_is_judged has.check sets before after status has.no_fault
    (subst (λ (command : Option Command). CommandWent words command sets before after status)
    has.is_check went)
