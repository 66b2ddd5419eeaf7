-- What is told of a load that was run.
use Rattle.std.specs.Prelude.{List, ℕ, ◌++◌, codes, decimal}
use Rattle.make_load.specs.declared.summary.Asked.{Asked}
use Rattle.make_load.specs.declared.summary.Counts.{Counts}

-- the load that was asked for
abbrev pub asked_text : Asked → List ℕ
asked_text asked =
    codes "make " ++ decimal asked.number ++ codes " " ++ decimal asked.sessions ++ codes " "
    ++ decimal asked.orders ++ codes "\n"

-- its messages, its bytes and its reads
abbrev pub counts_text : Counts → List ℕ
counts_text counts =
    codes "new " ++ decimal counts.new ++ codes " cancel " ++ decimal counts.cancel
    ++ codes " report " ++ decimal counts.report ++ codes " bytes " ++ decimal counts.bytes
    ++ codes "\nreads " ++ decimal counts.reads ++ codes "\n"

-- its trees, by the rows of its limit file, and the status
abbrev pub trees_text : List ℕ
trees_text =
    codes "tree 0 firm LEGAL WITHIN LIMITS\n"
    ++ codes "tree 1 account A0 LEGAL WITHIN LIMITS\n"
    ++ codes "tree 2 account A1 LEGAL WITHIN LIMITS\n"
    ++ codes "tree 3 account A2 LEGAL WITHIN LIMITS\n"
    ++ codes "tree 4 account A3 LEGAL WITHIN LIMITS\n"
    ++ codes "tree 5 symbol S0 LEGAL WITHIN LIMITS\n"
    ++ codes "tree 6 symbol S1 LEGAL WITHIN LIMITS\n"
    ++ codes "tree 7 symbol S2 LEGAL WITHIN LIMITS\n"
    ++ codes "tree 8 symbol S3 LEGAL WITHIN LIMITS\n"
    ++ codes "tree 9 symbol S4 LEGAL WITHIN LIMITS\n"
    ++ codes "tree 10 symbol S5 LEGAL WITHIN LIMITS\n"
    ++ codes "tree 11 symbol S6 LEGAL WITHIN LIMITS\n"
    ++ codes "tree 12 symbol S7 LEGAL WITHIN LIMITS\n"
    ++ codes "tree 13 halt LEGAL\n"
    ++ codes "status 0\n"

-- the whole summary
abbrev pub summary_text : Asked → Counts → List ℕ
summary_text asked counts = asked_text asked ++ counts_text counts ++ trees_text
