-- the text is no output of the sessions so far
use Rattle.std.proofs.Common.{◌≡◌, ◌-◌, ◌++◌, [], ◌∷◌}
use Rattle.std.specs.List.{flat_map, range_with_len}
use Rattle.gate_files.specs.Words.{is_among, journal_file}
use Rattle.gate_files.specs.CommandOf.{file_names, files_of}
use Rattle.gate_files.proofs.words.is_file.Given as goal

abbrev pub invariant-loop-session : goal.invariant-loop-session
invariant-loop-session l =
    is_among l.rest (file_names l.files l.count)
    ≡ is_among l.rest (flat_map (files_of l.files) (range_with_len l.session (l.count - l.session))
    ++ journal_file l.files ∷ [])
