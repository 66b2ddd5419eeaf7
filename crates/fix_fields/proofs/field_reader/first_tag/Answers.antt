use Rattle.std.proofs.Common.{◌≡◌, ◌+◌, arith, true, subst, sym, min}
use Rattle.std.specs.List.{prefix_len}
use Rattle.std.specs.Char.{is_ascii_digit}
use Rattle.fix_fields.specs.FieldPlaces.{BeginsTag}
use Rattle.fix_fields.proofs.FieldCuts.{tag_cut, tag_front, tag_there}
use Rattle.fix_fields.proofs.field_reader.first_tag.Goals as goal

pub returns-then-not-is_tag_cut-clause-none : goal.returns-then-not-is_tag_cut-clause-none
returns-then-not-is_tag_cut-clause-none c = λ tag from h.
    let cut : c.is_tag_cut.result ≡ true = c.is_tag_cut.ensures.1
    (rw c.tag_digits-count.ensures.count (tag_cut c.args.text.now tag from h)) in
    cc

pub returns-clause-some : goal.returns-clause-some
returns-clause-some c =
    let text = c.args.text.now in
    let n = c.tag_digits-count.result.0 in
    let least : n ≡ min 6 (prefix_len is_ascii_digit text) = c.tag_digits-count.ensures.count in
    let cut = c.is_tag_cut.ensures.0 c.if-not-is_tag_cut.false in
    let number = tag_front text n (omega (arith, least)) (omega (arith, least)) cut in
    subst (λ t. BeginsTag text t (n + 1)) (sym c.tag_digits-count.ensures.number)
    (tag_there text n cut number)
