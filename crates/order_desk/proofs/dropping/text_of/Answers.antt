-- A name's bytes are of ASCII, so they are a text.
use Rattle.std.proofs.Common.{sym, subst}
use Rattle.std.specs.Str.{IsUtf8}
use Rattle.order_desk.proofs.NameTexts.{name_is_text}
use Rattle.order_desk.proofs.dropping.text_of.Goals as goal

pub unreachable-requires : goal.unreachable-requires
unreachable-requires c =
    c.in-Err.ensures.cases.0
    (subst IsUtf8 (sym c.bytes.ensures.same) (name_is_text c.args.name.now c.bytes.ensures.id))
