use Rattle.std.proofs.Common.{ℕ, ◌≡◌, ◌+◌, ◌-◌, suc, List, [], ◌∷◌, ◌++◌, sym, ap, ◌∙◌, arith}
use Rattle.std.specs.List.{flat_map, range_with_len}
use Rattle.gate_files.specs.Words.{is_among, journal_file}
use Rattle.gate_files.specs.CommandOf.{files_of}
use Rattle.gate_files.proofs.OutputNames.{files_behind}
use Rattle.gate_files.proofs.words.is_file.Goals as goal

pub loop-session-preserved : goal.loop-session-preserved
loop-session-preserved c =
    let rest = c.args.rest.now in
    let session = c.loop-session.session in
    let left = c.args.count - (session + 1) in
    let one_more : c.args.count - session ≡ suc left = omega arith in
    let f = c.args.files in
    let tail : List (List ℕ) = journal_file f ∷ [] in
    c.loop-session.invariant
    ∙ ap (λ (n : ℕ). is_among rest (flat_map (files_of f) (range_with_len session n) ++ tail)) one_more
    ∙ files_behind f rest session left tail (sym c.is_file_of.ensures ∙ c.if-is_file_of.false)
