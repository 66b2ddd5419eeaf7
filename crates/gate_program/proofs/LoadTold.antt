-- A load that was run is told.
use Rattle.std.proofs.Common.{◌≡◌, ◌≢◌, ℕ, List, [], inl, inr}
use Rattle.std.specs.Prelude.{Option, ◌⊎◌}
use Rattle.gate_ports.specs.Names.{Texts}
use Rattle.make_load.specs.declared.summary.Asked.{Asked}
use Rattle.session_engine.specs.Session.{armed_for}
use Rattle.gate_files.specs.Told.{IsTold}
use Rattle.gate_program.specs.Loads.{LoadWent, input_of, load_run}
use Rattle.gate_program.proofs.Ran.{shown}
use Rattle.gate_program.proofs.Ways.{beside, end_beside, journal_beside, told_so}

module _ (asked : Asked) (t0 : Option Texts) (r0 w0 : List ℕ → ℕ) (t1 : Option Texts)
    (r1 w1 : List ℕ → ℕ) (text : List ℕ) (n : ℕ)
    (held held_after : Option (List ℕ)) (faults faults_after answer : ℕ) where
  went_told : IsTold held held_after faults faults_after text n answer
      → LoadWent asked (shown t0 r0 w0 []) (shown t1 r1 w1 text) n
      → LoadWent asked (beside t0 r0 w0 held faults) (beside t1 r1 w1 held_after faults_after)
      answer
  went_told told (inl h) = inl (record {
    session = h.session;
    in_range = h.in_range;
    rose = h.rose;
    left = h.left;
    others = h.others;
    told = told_so text n held held_after faults faults_after answer told _ _ h.told;
  })
  went_told told (inr h) = inr (record {
    limits = h.limits;
    acts = h.acts;
    ends = h.ends;
    lines = h.lines;
    refused = h.refused;
    limits_are = h.limits_are;
    remembered = h.remembered;
    no_read_fault = h.no_read_fault;
    whole = h.whole;
    act_count = h.act_count;
    end_count = h.end_count;
    each = λ session own end is_own is_end.
        end_beside (load_run asked) [] t0 r0 w0 t1 r1 w1 text n held held_after faults faults_after
        answer told h.limits (armed_for h.limits []) session (input_of asked session) own end
        (h.each session own end is_own is_end);
    history = h.history;
    journal = journal_beside (load_run asked) [] t0 r0 w0 t1 r1 w1 text n held held_after faults
        faults_after answer told h.acts h.lines h.refused h.journal;
    others = h.others;
    tells = h.tells;
    told = told_so text n held held_after faults faults_after answer told _ _ h.told;
  })

  -- what a load did and what was told of it
  pub load_told : n ≢ 8
      → (n ≡ 8) ⊎ LoadWent asked (shown t0 r0 w0 []) (shown t1 r1 w1 text) n
      → (answer ≡ 8) ⊎ IsTold held held_after faults faults_after text n answer
      → (answer ≡ 8) ⊎ LoadWent asked (beside t0 r0 w0 held faults)
      (beside t1 r1 w1 held_after faults_after) answer
  load_told memory (inl is) told = absurd (memory is)
  load_told memory (inr did) (inl is) = inl is
  load_told memory (inr did) (inr told) = inr (went_told told did)
