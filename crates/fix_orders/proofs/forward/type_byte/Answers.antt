-- The type is one byte.
use Rattle.std.proofs.Common.{◌≡◌, ℕ, List, [], ◌∷◌, get_or, sym, ap, ◌∙◌, arith}
use Rattle.fix_orders.proofs.Passed.{type_is_byte}
use Rattle.fix_orders.proofs.forward.type_byte.Goals as goal

pub returns : goal.returns
returns c =
    let read = c.requires.1 in
    let typed = type_is_byte read.listed c.requires.0 read.read c.requires.2 in
    let text_is : c.type_text.result.now ≡ typed.byte ∷ [] =
    c.type_text.ensures read.listed read.stands ∙ typed.is in
    let byte_is : get_or c.type_text.result.now 0 0 ≡ typed.byte =
    ap (λ (t : List ℕ). get_or t 0 0) text_is in
    record {
      printable = (omega (arith, byte_is, typed.least), omega (arith, byte_is, typed.most));
      is = λ listed has.
          ap (λ b. b ∷ []) byte_is ∙ sym text_is ∙ c.type_text.ensures listed has;
    }
