-- The text of the totals: a line of each session, a line of each tree, and the status.
use Rattle.std.specs.Prelude.{ℕ, List, [], ◌∷◌, ◌++◌, codes, decimal}
use Rattle.std.specs.List.{flat_map, enumerate_from}
use Rattle.risk_journal.specs.declared.acts.End.{End}
use Rattle.risk_journal.specs.declared.acts.End.TheVariants as ending
use Rattle.risk_journal.specs.declared.totals.TreeKind.{TreeKind}
use Rattle.risk_journal.specs.declared.totals.TreeKind.TheVariants as kind
use Rattle.risk_journal.specs.declared.totals.SessionTotal.{SessionTotal}
use Rattle.risk_journal.specs.declared.totals.TreeTotal.{TreeTotal}

-- how a session ended, with its place where it has one
abbrev pub end_words : End → List ℕ
end_words ending.Whole = codes "whole"
end_words (ending.Cut place) = codes "cut " ++ decimal place
end_words (ending.Broken place) = codes "broken " ++ decimal place
end_words (ending.TooLong place) = codes "long " ++ decimal place
end_words ending.ReadFault = codes "read-fault"
end_words ending.WriteFault = codes "write-fault"
end_words ending.Memory = codes "memory"

-- the word of a kind of tree
abbrev pub kind_word : TreeKind → List ℕ
kind_word kind.Firm = codes "firm"
kind_word kind.Account = codes "account"
kind_word kind.Symbol = codes "symbol"
kind_word kind.Halt = codes "halt"

-- the name of a tree of this kind: the firm's and the halt tree have none
abbrev pub shown_name : TreeKind → List ℕ → List ℕ
shown_name kind.Firm name = codes "-"
shown_name kind.Account name = name
shown_name kind.Symbol name = name
shown_name kind.Halt name = codes "-"

-- a word and a number, each behind a space
abbrev pub count_text : List ℕ → ℕ → List ℕ
count_text word count = (32 ∷ word) ++ (32 ∷ decimal count)

-- the line of a session, by its number
abbrev pub session_line : ℕ → SessionTotal → List ℕ
session_line number total =
    codes "session" ++ (32 ∷ decimal number) ++ (32 ∷ end_words total.end)
    ++ count_text (codes "sent") total.sent ++ count_text (codes "refused") total.refused
    ++ count_text (codes "noted") total.noted ++ 10 ∷ []

-- the line of a tree, by its number
abbrev pub tree_line : ℕ → TreeTotal → List ℕ
tree_line number total =
    codes "tree" ++ (32 ∷ decimal number) ++ (32 ∷ kind_word total.kind)
    ++ (32 ∷ shown_name total.kind total.name) ++ count_text (codes "posts") total.posts
    ++ count_text (codes "root") total.root ++ count_text (codes "limit") total.limit ++ 10 ∷ []

-- the line of the status
abbrev pub status_line : ℕ → List ℕ
status_line status = codes "status" ++ (32 ∷ decimal status) ++ 10 ∷ []

-- the whole text of the totals
abbrev pub totals_text : List SessionTotal → List TreeTotal → ℕ → List ℕ
totals_text sessions trees status =
    flat_map (λ numbered. session_line numbered.0 numbered.1) (enumerate_from 0 sessions)
    ++ flat_map (λ numbered. tree_line numbered.0 numbered.1) (enumerate_from 0 trees)
    ++ status_line status
