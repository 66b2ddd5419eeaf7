-- How many sessions a run has.
use Rattle.std.proofs.Common.{ℕ, ◌≤◌, ◌∷◌, length, refl}
use Rattle.std.proofs.Common.{arith, Bool, true, false, ◌&&◌}
use Rattle.std.proofs.lemmas.Bool.Decides.{nat_tests}
use Rattle.std.specs.Prelude.{IsTrue, nat_le, not}
use Rattle.std.specs.List.{list_all, list_any}
use Rattle.gate_files.specs.Words.{RunWords, are_distinct, is_among, is_run, is_word}
use Rattle.gate_files.specs.Words.{output_names, session_most}

second_holds : (a b c d e : Bool) → IsTrue (a && b && c && d && e) → IsTrue b
second_holds true true c d e holds = refl
second_holds true false c d e holds = absurd cc
second_holds false b c d e holds = absurd cc

third_holds : (a b c d e : Bool) → IsTrue (a && b && c && d && e) → IsTrue c
third_holds true true true d e holds = refl
third_holds true true false d e holds = absurd cc
third_holds true false c d e holds = absurd cc
third_holds false b c d e holds = absurd cc

le_of_test : (m n : ℕ) → IsTrue (nat_le m n) → m ≤ n
le_of_test m n test = grind (arith, nat_tests)

module _ (run : RunWords) (holds : IsTrue (is_run run)) where
  abbrev count : ℕ
  count = length run.sessions

  abbrev takes_output : Bool
  takes_output =
      list_any (λ name. is_among name (output_names run.out count)) (run.limits ∷ run.sessions)

  -- a run has a session
  pub some_session : 1 ≤ count
  some_session = le_of_test 1 count
      (second_holds (list_all is_word (run.limits ∷ run.out.name ∷ run.sessions)) (nat_le 1 count)
      (nat_le count session_most) (are_distinct run.sessions) (not takes_output) holds)

  -- and no more than the most
  pub few_sessions : count ≤ session_most
  few_sessions = le_of_test count session_most
      (third_holds (list_all is_word (run.limits ∷ run.out.name ∷ run.sessions)) (nat_le 1 count)
      (nat_le count session_most) (are_distinct run.sessions) (not takes_output) holds)
