-- Why a request is refused, by what a book, the screens or the trees answered.
use Rattle.std.specs.Prelude.{ℕ, Option, Some, None, ◌==◌, if◌then◌else◌}
use Rattle.admit_core.specs.declared.ask.Verdict.{Verdict}
use Rattle.admit_core.specs.declared.ask.Verdict.TheVariants as verdict
use Rattle.exposure_book.specs.declared.answer.BookFault.{BookFault}
use Rattle.exposure_book.specs.declared.answer.BookFault.TheVariants as fault
use Rattle.order_desk.specs.declared.refusal.Refusal.{Refusal}
use Rattle.order_desk.specs.declared.refusal.Refusal.TheVariants as refusal

-- the refusal of a verdict, and none of Sent
abbrev pub refusal_by : Verdict → Option Refusal
refusal_by verdict.Sent = None
refusal_by verdict.Firm = Some refusal.Firm
refusal_by verdict.Account = Some refusal.Account
refusal_by verdict.Symbol = Some refusal.Symbol
refusal_by verdict.Halt = Some refusal.Halt
refusal_by verdict.Quota = Some refusal.Quota

-- the refusal of a book's fault
abbrev pub refusal_of : BookFault → Refusal
refusal_of fault.Duplicate = refusal.Duplicate
refusal_of fault.Unknown = refusal.Unknown
refusal_of fault.Closed = refusal.Closed
refusal_of fault.Pending = refusal.Pending
refusal_of fault.Mismatch = refusal.Mismatch
refusal_of fault.Quantity = refusal.Quantity
refusal_of fault.Cap = refusal.Cap

-- the refusal of the code that screens gave, and none of 0
abbrev pub refusal_by_code : ℕ → Option Refusal
refusal_by_code code = if code == 0 then None else Some (refusal.Screen code)
