use Rattle.std.proofs.Common.{◌≡◌, ◌∷◌, ◌++◌, ◌+◌, ◌-◌, arith, ◌∙◌, sym, ap, length, take, drop}
use Rattle.std.proofs.Common.{true, min}
use Rattle.std.proofs.Common.{length-drop, length-take}
use Rattle.std.proofs.lemmas.List.{take_all}
use Rattle.std.specs.List.{prefix_len}
use Rattle.std.specs.Char.{is_ascii_digit}
use Rattle.fix_fields.specs.Fields.{soh}
use Rattle.fix_fields.proofs.Cuts.{finds_cut, cut_at, front_all}
use Rattle.fix_fields.proofs.cut.cut_digits.Goals as goal

pub returns-then-not-is_before_soh-clause-none : goal.returns-then-not-is_before_soh-clause-none
returns-then-not-is_before_soh-clause-none c = λ digits more cut.
    let yes : c.is_before_soh.result ≡ true =
    c.is_before_soh.ensures.1 (rw c.digit_count-count.ensures
    (finds_cut c.args.least c.args.most c.args.text.now digits more cut.are_digits cut.spelled)) in
    cc

pub returns-clause-some : goal.returns-clause-some
returns-clause-some c =
    let found = c.is_before_soh.ensures.0 c.if-not-is_before_soh.false in
    let count = c.digit_count-count.result in
    let text = c.args.text.now in
    let rest = drop (count + 1) text in
    let least : count ≡ min c.args.most (prefix_len is_ascii_digit text) = c.digit_count-count.ensures in
    record {
      spelled = cut_at text count soh found.inside found.ended
          ∙ ap (λ s. take count text ++ soh ∷ s)
          (sym (take_all (length text - (count + 1)) rest (omega (
            arith,
            length-drop (count + 1) text,
          ))));
      are_digits = record {
        each = front_all count text (omega (arith, least));
        no_fewer = omega (arith, found.no_fewer, found.inside, length-take count text);
        no_more = omega (arith, least, length-take count text);
      };
    }
