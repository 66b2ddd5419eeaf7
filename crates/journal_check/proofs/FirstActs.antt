-- The first act that is so stands in the first row that has one.
use Rattle.std.proofs.Common.{◌≡◌, ◌≢◌, ℕ, ◌+◌, ◌<◌, ◌≤◌, List, [], length, take, ap, sym, subst, ◌∙◌, arith}
use Rattle.std.proofs.Common.{⊎_elim, get_or}
use Rattle.std.specs.Prelude.{slice_get, Some}
use Rattle.std.proofs.lemmas.Option.{slice_get_within, get_or_from_slice_get}
use Rattle.risk_journal.specs.declared.acts.Act.{Act}
use Rattle.journal_check.specs.ActFaults.{IsFirstHas, NoneHas}
use Rattle.journal_check.specs.Firsts.{IsFirstRow}
use Rattle.journal_check.specs.RowNumbers.{count_all, HasActWith}
use Rattle.journal_check.proofs.Cases.{same_or, le_or_lt}
use Rattle.journal_check.proofs.Counts.{count_later}

-- no act of the first so many sessions is so
abbrev pub NoneBefore : (Act → Type 0) → List (List Act) → ℕ → Type 0
NoneBefore Is acts sessions =
    (session : ℕ) (own : List Act) → session < sessions → slice_get acts session ≡ Some own
    → NoneHas Is own

-- one at an index of a list is one
pub one_own : {X : Type 0} (lists : List X) (index : ℕ) (one other : X)
    → slice_get lists index ≡ Some one → slice_get lists index ≡ Some other → one ≡ other
one_own lists index one other at also =
    sym (get_or_from_slice_get lists index one one at) ∙ get_or_from_slice_get lists index other one also

module _ (Is : Act → Type 0) (acts : List (List Act)) where
  pub none_more : (session : ℕ) (own : List Act) → slice_get acts session ≡ Some own
      → NoneBefore Is acts session → NoneHas Is own → NoneBefore Is acts (session + 1)
  none_more session own at before none earlier other less also = ⊎_elim
      (λ (same : earlier ≡ session).
      let is : own ≡ other = one_own acts session own other at
      (subst (λ (s : ℕ). slice_get acts s ≡ Some other) same also) in
      subst (NoneHas Is) is none)
      (λ (apart : earlier ≢ session). before earlier other (omega (arith, less, apart)) also)
      (same_or earlier session)

  pub none_at_all : (sessions : ℕ) → length acts ≤ sessions → NoneBefore Is acts sessions
      → (row : ℕ) → ¬ HasActWith Is acts row
  none_at_all sessions all none row with_act =
      let has = with_act.has in
      none has.session has.own
      (omega (arith, all, slice_get_within acts has.session has.own has.of_session)) has.of_session
      has.index with_act.act has.at with_act.is

  pub first_of_all : (session index row : ℕ) (own : List Act) → slice_get acts session ≡ Some own
      → NoneBefore Is acts session → IsFirstHas Is own index
      → row ≡ 2 + count_all (take session acts) + index → IsFirstRow (HasActWith Is acts) row
  first_of_all session index row own at before first row_is = record {
    wrong = record {
      act = first.item;
      has = record {
        session = session;
        index = index;
        own = own;
        of_session = at;
        at = first.at;
        row_is = row_is;
      };
      is = first.is;
    };
    before = λ earlier less other.
        let has = other.has in
        let inside : has.index < length has.own = slice_get_within has.own has.index other.act has.at in
        let here : index < length own = slice_get_within own index first.item first.at in
        ⊎_elim
        (λ (same : has.session ≡ session).
        let is : has.own ≡ own = one_own acts session has.own own
        (subst (λ (s : ℕ). slice_get acts s ≡ Some has.own) same has.of_session) at in
        let count : count_all (take has.session acts) ≡ count_all (take session acts) =
        ap (λ s. count_all (take s acts)) same in
        first.before has.index other.act (omega (arith, less, row_is, has.row_is, count))
        (subst (λ (o : List Act). slice_get o has.index ≡ Some other.act) is has.at) other.is)
        (λ (apart : has.session ≢ session). ⊎_elim
        (λ (low : has.session ≤ session).
        before has.session has.own (omega (arith, low, apart)) has.of_session has.index other.act has.at
        other.is)
        (λ (high : session < has.session).
        let long : length (get_or acts session []) ≡ length own =
        ap length (get_or_from_slice_get acts session own [] at) in
        absurd (omega (arith, count_later acts session has.session high, long, less, row_is, has.row_is, here)))
        (le_or_lt has.session session))
        (same_or has.session session);
  }
