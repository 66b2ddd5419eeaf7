-- A plain board: the lines of each tree and the calls of each session, a read's stamp being the number
-- of lines that it saw.
use Rattle.std.specs.Prelude.{◌≡◌, ◌≢◌, ℕ, ◌+◌, List, [], ◌∷◌, ◌++◌, length, map, replicate}
use Rattle.std.specs.Prelude.{slice_get, slice_index_or, slice_set, refl}
use Rattle.std.proofs.Common.{◌∙◌}
use Rattle.risk_board.specs.declared.hand.Line.{Line}
use Rattle.risk_board.specs.declared.hand.Call.{Call}
use Rattle.risk_board.specs.Calls.{post_count}
use Rattle.risk_board.specs.Hands.{HandValue, KeepsOrigin}
use Rattle.risk_board.specs.History.{Event, IsLegal, events_of_calls, components_of}

-- a board's bounds, its lines by tree, and its calls by session
pub record BoardValue : Type 0 where
  pub quota : ℕ
  pub lines : List (List Line)
  pub calls : List (List Call)

-- what each session did in a tree, a read's place being its stamp
abbrev pub plain_events : ℕ → List (List Call) → List (List Event)
plain_events tree calls = map (events_of_calls (λ stamp. stamp) tree) calls

-- a board before any call
abbrev pub empty_board : ℕ → ℕ → ℕ → BoardValue
empty_board trees sessions quota =
    record { quota = quota; lines = replicate trees []; calls = replicate sessions [] }

-- these lines of a tree and the board's calls are one legal history
abbrev pub IsLegalTree : (List ℕ → ℕ) → ℕ → BoardValue → ℕ → List Line → Type 0
IsLegalTree whole unit board tree lines =
    IsLegal whole unit (components_of (length board.calls)) lines (plain_events tree board.calls)

-- a hand of a plain board: the board with its calls so far, its session, and its room
pub record PlainHandValue : Type 0 where
  pub board : BoardValue
  pub session : ℕ
  pub spare : ℕ

-- what a plain hand is, where no post is above the cap
abbrev pub hand_of : ℕ → PlainHandValue → HandValue
hand_of cap hand = record {
  number = hand.session;
  trees = length hand.board.lines;
  quota = hand.board.quota;
  cap = cap;
  spare = hand.spare;
  calls = slice_index_or hand.board.calls hand.session [];
}

-- the lines of a tree so far
abbrev pub lines_in : ℕ → PlainHandValue → List Line
lines_in tree hand = slice_index_or hand.board.lines tree []

-- the line that a post of the hand's session adds
abbrev pub line_of_post : ℕ → ℕ → PlainHandValue → Line
line_of_post tree value hand = record {
  session = hand.session;
  index = post_count tree (slice_index_or hand.board.calls hand.session []) + 1;
  value = value;
}

-- the lines of all trees after the post: its line comes last in its tree
abbrev pub lines_with_post : ℕ → ℕ → PlainHandValue → List (List Line)
lines_with_post tree value hand =
    slice_set hand.board.lines tree (lines_in tree hand ++ line_of_post tree value hand ∷ [])

-- the same session of a board with the same bounds and the same calls of every other session
pub record KeepsOthers (before now : PlainHandValue) : Type 0 where
  pub session : now.session ≡ before.session
  pub trees : length now.board.lines ≡ length before.board.lines
  pub quota : now.board.quota ≡ before.board.quota
  pub sessions : length now.board.calls ≡ length before.board.calls
  pub others : (other : ℕ) → other ≢ before.session
      → slice_get now.board.calls other ≡ slice_get before.board.calls other

-- a hand's value keeps its origin at once, and over two steps
pub keeps_others_itself : (hand : PlainHandValue) → KeepsOthers hand hand
keeps_others_itself hand = record {
  session = refl;
  trees = refl;
  quota = refl;
  sessions = refl;
  others = λ other apart. refl;
}

pub keeps_others_through : (first next last : PlainHandValue) → KeepsOthers first next
    → KeepsOthers next last → KeepsOthers first last
keeps_others_through first next last one two = record {
  session = two.session ∙ one.session;
  trees = two.trees ∙ one.trees;
  quota = two.quota ∙ one.quota;
  sessions = two.sessions ∙ one.sessions;
  others = λ other apart.
      two.others other (λ same. apart (same ∙ one.session)) ∙ one.others other apart;
}

-- two values of one origin have the same number and bounds
pub keeps_others_means : (cap : ℕ) (before now : PlainHandValue) → KeepsOthers before now
    → KeepsOrigin (hand_of cap before) (hand_of cap now)
keeps_others_means cap before now keeps = record {
  number = keeps.session;
  trees = keeps.trees;
  quota = keeps.quota;
  cap = refl;
}
