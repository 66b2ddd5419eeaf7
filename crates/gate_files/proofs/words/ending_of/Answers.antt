use Rattle.std.proofs.Common.{List, ℕ, ◌≡◌, ◌≢◌, ◌++◌, ◌∙◌, subst}
use Rattle.std.proofs.lemmas.Bool.Decides.{Decides-eqb}
use Rattle.std.proofs.lemmas.Slice.Eq.{strip_prefix_is}
use Rattle.std.specs.Prelude.{MatchOption}
use Rattle.gate_files.specs.Words.{session_mark}
use Rattle.gate_files.proofs.words.ending_of.Goals as goal

pub returns : goal.returns
returns c =
    let mark : c.as_slice.result.now ≡ session_mark c.args.session = c.as_slice.ensures in
    subst (λ (m : List ℕ). MatchOption c.strip_prefix.result
    ((ending : List ℕ) → c.args.rest.now ≢ m ++ ending)
    (λ ending. c.args.rest.now ≡ m ++ ending.now)) mark
    (strip_prefix_is Decides-eqb c.args.rest.now c.as_slice.result.now _
    c.strip_prefix.ensures.cases)
