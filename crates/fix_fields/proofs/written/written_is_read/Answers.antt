use Rattle.std.proofs.Common.{ℕ, List, ◌++◌, ◌≤◌, length, sym, subst, Some}
use Rattle.std.specs.List.{AllByRecursion}
use Rattle.fix_fields.specs.Fields.{FieldValue, IsField, fields_text}
use Rattle.fix_fields.specs.Frames.{IsFrameAt, body_most}
use Rattle.fix_fields.specs.Messages.{message_text}
use Rattle.fix_fields.proofs.RoundTrip.{message_is_read}
use Rattle.fix_fields.proofs.written.written_is_read.Goals as goal

pub returns : goal.returns
returns c = λ fields value others more each is valued few.
    let Read : List FieldValue → Type 0 = λ own.
    AllByRecursion IsField own → length (fields_text own) ≤ body_most
    → (body_from : ℕ) × (body_to : ℕ) × IsFrameAt (message_text own ++ more) 0
    (record { place = 0; end = length (message_text own); fields = Some own }) body_from body_to in
    subst Read (sym is) (λ all short. message_is_read value others more all valued short) each few
