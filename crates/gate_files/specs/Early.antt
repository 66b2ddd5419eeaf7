-- What outputs hold where a run ended before its sessions, or a write before its end.
use Rattle.std.specs.Prelude.{◌≡◌, ℕ, ◌<◌, List, [], take, Option, Some, None, IfSome, MatchOption}
use Rattle.std.specs.Prelude.{◌⊎◌, false}
use Rattle.std.specs.Str.{bytes_eq}
use Rattle.gate_ports.specs.Names.{Texts}
use Rattle.gate_files.specs.Words.{RunWords, IsApart, venue_name, client_name}

-- the name's text is as it was, or a front of these bytes, where the folder tells it
abbrev pub KeepsOrFronts : Option Texts → Option Texts → List ℕ → List ℕ → Type 0
KeepsOrFronts before after name bytes =
    IfSome before (λ old. IfSome after (λ new.
    (new name ≡ old name) ⊎ ((count : ℕ) × (new name ≡ Some (take count bytes)))))

-- The name's text is as it was or empty, and each other name has its text, where the folder tells it.
-- A folder that tells its texts goes on telling them.
abbrev pub MayEmpty : Option Texts → Option Texts → List ℕ → Type 0
MayEmpty before after name =
    MatchOption before (after ≡ None)
    (λ old. (new : Texts) × (after ≡ Some new)
    × ((new name ≡ old name) ⊎ (new name ≡ Some []))
    × ((other : List ℕ) → bytes_eq other name ≡ false → new other ≡ old other))

-- A run ended as this session was opened: the outputs of the sessions before it are empty, its own
-- first one is as it was or empty, and each other name keeps its text.
pub record AreEmptied (run : RunWords) (session : ℕ) (old new : Texts) : Type 0 where
  pub made : (earlier : ℕ) → earlier < session
      → (new (venue_name run.out earlier) ≡ Some [])
      × (new (client_name run.out earlier) ≡ Some [])
  pub own : (new (venue_name run.out session) ≡ old (venue_name run.out session))
      ⊎ (new (venue_name run.out session) ≡ Some [])
  pub others : (name : List ℕ) → IsApart run.out session name
      → bytes_eq name (venue_name run.out session) ≡ false → new name ≡ old name

-- so it is where the folder tells its texts, which it goes on telling
abbrev pub LeavesEmpty : RunWords → ℕ → Option Texts → Option Texts → Type 0
LeavesEmpty run session before after =
    MatchOption before (after ≡ None)
    (λ old. (new : Texts) × (after ≡ Some new) × AreEmptied run session old new)
