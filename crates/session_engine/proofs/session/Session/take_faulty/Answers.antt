-- What is no request is a report.
use Rattle.std.proofs.Common.{◌∙◌, sym, ap}
use Rattle.fix_orders.specs.Kinds.{kind_of}
use Rattle.session_engine.specs.Session.{is_request}
use Rattle.session_engine.proofs.session.Session.take_faulty.Goals as goal

pub refuse_faulty-requires-clause-fails : goal.refuse_faulty-requires-clause-fails
refuse_faulty-requires-clause-fails g c = λ fields has. (
  c.requires.read fields has,
  ap is_request (sym (c.kind_of.ensures ∙ ap kind_of (c.type_text.ensures fields
      (rw (c.bytes.ensures.bytes, c.frame.ensures.frame) has)))) ∙ sym c.is_request.ensures
      ∙ c.if-is_request.true,
)

pub return_faulty-requires-clause-fails : goal.return_faulty-requires-clause-fails
return_faulty-requires-clause-fails g c = λ fields has. (
  c.requires.read fields has,
  ap is_request (sym (c.kind_of.ensures ∙ ap kind_of (c.type_text.ensures fields
      (rw (c.bytes.ensures.bytes, c.frame.ensures.frame) has)))) ∙ sym c.is_request.ensures
      ∙ c.if-is_request.false,
)
