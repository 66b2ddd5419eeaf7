use Rattle.std.proofs.Common.{◌≡◌, ◌∙◌, sym, ◌&&◌, Bool, true, false, string_bytes, refl}
use Rattle.std.proofs.lemmas.List.Folds.{list_all-map}
use Rattle.gate_files.specs.Words.{is_word}
use Rattle.gate_files.proofs.words.has_words.Goals as goal

behind_two : (a b c : Bool) → a ≡ true → b ≡ true → c ≡ (a && (b && c))
behind_two true true c is_a is_b = refl
behind_two false b c is_a is_b = absurd cc
behind_two true false c is_a is_b = absurd cc

pub returns : goal.returns
returns c =
    c.are_words.ensures
    ∙ sym (list_all-map is_word string_bytes c.args.sessions.now)
    ∙ behind_two (is_word c.args.first.now) (is_word c.args.second.now) _
    (sym c.is_word.ensures ∙ c.if-not-is_word.false) (sym c.is_word-2.ensures ∙
    c.if-not-is_word-2.false)
