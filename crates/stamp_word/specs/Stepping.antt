-- What a single step on one word asks of its caller, and what it is called to those it is told to.
use Rattle.std.specs.Prelude.{ℕ, ◌==◌}
use mathlib.Core.Option.{none}
use prog.Atomic.{either}
use Rattle.atomic_table.specs.Table.{State, Me, Step, step, Allows}

-- the load of a word, in a table of so many slots
abbrev pub loading : {S : Type 0} → ℕ → ℕ → Step S
loading slots place = step slots place 0 0 none

-- the store of a word
abbrev pub storing : {S : Type 0} → ℕ → ℕ → ℕ → Step S
storing slots place word = step slots place word 0 none

-- the exchange of an old word for a new one
abbrev pub exchanging : {S : Type 0} → ℕ → ℕ → ℕ → ℕ → Step S
exchanging slots place old new = step slots place old new none

module _ {S V : Type 0} (holds : State S V → Type 0) (tells : Step S → Me S V → ℕ → Me S V → Type 0)
    (slots id : ℕ) (me : Me S V) (place : ℕ) where
  -- the rule lets the seat load the word, and be told this
  abbrev pub MayLoad : Type 0
  MayLoad = Allows holds slots id me place (λ found. found) (tells (loading slots place) me)

  -- the rule lets the seat store the word
  abbrev pub MayStore : ℕ → Type 0
  MayStore word =
      Allows holds slots id me place (λ _. word) (λ _. tells (storing slots place word) me word)

  -- the rule lets the seat exchange the word where it is the old one, and else leave it
  abbrev pub MayExchange : ℕ → ℕ → Type 0
  MayExchange old new =
      Allows holds slots id me place (λ found. either (found == old) new found)
      (tells (exchanging slots place old new) me)
