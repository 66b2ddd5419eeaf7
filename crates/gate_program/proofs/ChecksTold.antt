-- A check that was done is told.
use Rattle.std.proofs.Common.{◌≡◌, ◌≢◌, ℕ, List, [], inl, inr}
use Rattle.std.specs.Prelude.{Option, Some, ◌⊎◌}
use Rattle.gate_ports.specs.Names.{Texts}
use Rattle.screen_kit.specs.Screens.{ScreenValue}
use Rattle.gate_files.specs.Told.{IsTold}
use Rattle.gate_files.specs.Words.{CheckWords}
use Rattle.check_command.specs.Gate.{CheckWent, FilesStopped, FilesJudged}
use Rattle.gate_program.proofs.Ran.{shown}
use Rattle.gate_program.proofs.Ways.{beside, told_so}

module _ (check : CheckWords) (sets : List (List ScreenValue)) (t0 : Option Texts)
    (r0 w0 : List ℕ → ℕ) (t1 : Option Texts) (r1 w1 : List ℕ → ℕ) (text : List ℕ) (n : ℕ)
    (held held_after : Option (List ℕ)) (faults faults_after answer : ℕ) where
  module _ (told : IsTold held held_after faults faults_after text n answer) where
    say_so : (say : List ℕ) (standing : ℕ) → IsTold (Some []) (Some text) 0 0 say standing n
        → IsTold held held_after faults faults_after say standing answer
    say_so = told_so text n held held_after faults faults_after answer told

    -- it stopped before its sessions
    stopped_told : FilesStopped check (shown t0 r0 w0 []) (shown t1 r1 w1 text) n
        → FilesStopped check (beside t0 r0 w0 held faults) (beside t1 r1 w1 held_after faults_after)
        answer
    stopped_told (inl h) = inl (record {
      rose = h.rose;
      texts = h.texts;
      told = say_so _ _ h.told;
    })
    stopped_told (inr (inl h)) = inr (inl (record {
      why = h.why;
      refused = h.refused;
      texts = h.texts;
      told = say_so _ _ h.told;
    }))
    stopped_told (inr (inr h)) = inr (inr (record {
      limits = h.limits;
      limits_are = h.limits_are;
      rose = h.rose;
      texts = h.texts;
      told = say_so _ _ h.told;
    }))

    -- it came to its sessions
    judged_told : FilesJudged check sets (shown t0 r0 w0 []) (shown t1 r1 w1 text) n
        → FilesJudged check sets (beside t0 r0 w0 held faults)
        (beside t1 r1 w1 held_after faults_after) answer
    judged_told (inl h) = inl (record {
      limits = h.limits;
      limits_are = h.limits_are;
      journal_is = h.journal_is;
      session = h.session;
      in_range = h.in_range;
      rose = h.rose;
      texts = h.texts;
      told = say_so _ _ h.told;
    })
    judged_told (inr (inl h)) = inr (inl (record {
      limits = h.limits;
      limits_are = h.limits_are;
      session = h.session;
      in_range = h.in_range;
      rose = h.rose;
      right_before = h.right_before;
      texts = h.texts;
      told = say_so _ _ h.told;
    }))
    judged_told (inr (inr h)) = inr (inr (record {
      limits = h.limits;
      limits_are = h.limits_are;
      verdict = h.verdict;
      judged = h.judged;
      texts = h.texts;
      told = say_so _ _ h.told;
    }))

    went_told : CheckWent check sets (shown t0 r0 w0 []) (shown t1 r1 w1 text) n
        → CheckWent check sets (beside t0 r0 w0 held faults)
        (beside t1 r1 w1 held_after faults_after) answer
    went_told h = record {
      counts = record {
        read = h.counts.read;
        written = h.counts.written;
        names = h.counts.names;
      };
      way = elim h.way [
        | inl stopped ↦ inl (stopped_told stopped)
        | inr judged ↦ inr (judged_told judged)
      ];
    }

  -- what a check did and what was told of it
  pub check_told : n ≢ 8
      → (n ≡ 8) ⊎ CheckWent check sets (shown t0 r0 w0 []) (shown t1 r1 w1 text) n
      → (answer ≡ 8) ⊎ IsTold held held_after faults faults_after text n answer
      → (answer ≡ 8) ⊎ CheckWent check sets (beside t0 r0 w0 held faults)
      (beside t1 r1 w1 held_after faults_after) answer
  check_told memory (inl is) told = absurd (memory is)
  check_told memory (inr did) (inl is) = inl is
  check_told memory (inr did) (inr told) = inr (went_told told did)
