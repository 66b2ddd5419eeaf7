-- Sessions that were filtered and closed, and what the command came to with them.
use Rattle.std.proofs.Common.{◌≡◌, ℕ, ◌^◌, ◌<◌, ◌≤◌, List, [], length, map, max, refl, sym, ap}
use Rattle.std.proofs.Common.{subst}
use Rattle.std.proofs.Common.{inl, inr, ◌∙◌, arith, Bool}
use Rattle.std.proofs.lemmas.List.{length-map}
use Rattle.std.specs.Prelude.{Option, ◌⊎◌}
use Rattle.std.specs.List.{list_any}
use Rattle.gate_ports.specs.Faults.{NeverFalls}
use Rattle.gate_ports.specs.Names.{Texts}
use Rattle.limit_table.specs.declared.limits.Limits.{Limits}
use Rattle.risk_board.specs.declared.hand.Line.{Line}
use Rattle.risk_journal.specs.declared.acts.Act.{Act}
use Rattle.risk_journal.specs.declared.acts.End.{End}
use Rattle.risk_journal.specs.TotalsText.{status_line}
use Rattle.gate_files.specs.Words.{RunWords}
use Rattle.gate_files.specs.Ports.{PortsValue}
use Rattle.gate_files.specs.Objects.{ObjectsValue, AreCounts, HasOpened}
use Rattle.gate_files.specs.Standing.{is_memory}
use Rattle.gate_files.specs.Stages.{Went}
use Rattle.gate_files.specs.Stops.{HasCounted}
use Rattle.gate_files.specs.Told.{IsTold}
use Rattle.session_tasks.specs.Did.{HaveDone}
use Rattle.session_tasks.specs.Kept.{HasKept}
use Rattle.session_tasks.specs.Ways.{SessionsWent}
use Rattle.session_tasks.proofs.RanSessions.{have_ran, shown, silent, told_bytes}
use Rattle.session_tasks.proofs.StagesOfRun.{beside, memory_or_run, ran_beside, ran_earlier}
use Rattle.session_tasks.proofs.StagesOfRun.{told_so}
use Rattle.session_tasks.proofs.StagesOfRun.{went_behind, words_told}
use Rattle.cross_guard.specs.Told.{Placing, with_places}
use Rattle.cross_command.specs.Crossed.{CrossWent, HasCrossed}
use Rattle.cross_command.specs.Finish.{ArePlaced, HasAnswer, HaveEnded, HaveStood, all_with_places}
use Rattle.cross_command.specs.Rules.{follows, stops}
use Rattle.cross_command.proofs.ClearHistories.{ClearLaws, is_history}
use Rattle.cross_command.proofs.Doing.{by_causes}

-- sessions that did so, whatever places their reads get, and whose journal stands have ended
pub have_ended : {S : Type 0} (faults : S → ℕ) (limits : Limits) (run : RunWords)
    (before after : PortsValue) (objects objects_after : List ObjectsValue)
    (acts : List (List Act)) (ends : List End) (text : List ℕ) (n : ℕ)
    → ((place : Placing) → HaveDone (follows limits) (stops limits) objects objects_after
    (all_with_places place acts) ends)
    → AreCounts faults objects_after
    → (n ≡ 8) ⊎ HaveStood limits run before after acts ends objects_after text n
    → (n ≡ 8) ⊎ HaveEnded faults limits run before after objects text n
have_ended faults limits run before after objects objects_after acts ends text n done counts
    (inl memory) = inl memory
have_ended faults limits run before after objects objects_after acts ends text n done counts
    (inr own) = inr (record {
      acts = own.placed;
      lines = own.lines;
      ends = ends;
      refused = own.refused;
      ended = record {
        objects_after = objects_after;
        done = subst (λ (all : List (List Act)). HaveDone (follows limits) (stops limits) objects
            objects_after all ends) (sym own.placed_are.placed_are) (done own.placed_are.place);
        counts = counts;
        kept = own.kept;
      };
      legal = own.placed_are.legal;
      answer = own.answer;
    })

-- the sessions were opened behind the limits, and ended
pub ended_went : {S : Type 0} (faults : S → ℕ) (run : RunWords) (limits : Limits)
    (t0 : Option Texts) (r0 w0 : List ℕ → ℕ) (t1 : Option Texts) (r1 w1 : List ℕ → ℕ)
    (t2 : Option Texts) (r2 w2 : List ℕ → ℕ) (objects : List ObjectsValue) (text : List ℕ) (n : ℕ)
    → HasOpened run (silent t0 r0 w0) (silent t1 r1 w1) objects
    → length objects ≡ length run.sessions → HasCounted t0 run.limits (length run.sessions) limits
    → ClearLaws
    → (n ≡ 8) ⊎ HaveEnded faults limits run (silent t1 r1 w1) (silent t2 r2 w2) objects text n
    → (n ≡ 8) ⊎ SessionsWent (HasCrossed run) run (shown t0 r0 w0 []) (shown t2 r2 w2 text) n
ended_went faults run limits t0 r0 w0 t1 r1 w1 t2 r2 w2 objects text n opened many limits_are laws
    (inl memory) = inl memory
ended_went faults run limits t0 r0 w0 t1 r1 w1 t2 r2 w2 objects text n opened many limits_are laws
    (inr own) =
    memory_or_run own.ends own.refused n (list_any is_memory own.ends) refl own.answer.stands
    (λ remembered. inr (inr (record {
      limits = limits;
      inputs = map (λ (o : ObjectsValue). told_bytes o.left) objects;
      acts = own.acts;
      ends = own.ends;
      lines = own.lines;
      refused = own.refused;
      limits_are = limits_are;
      ran = have_ran faults (follows limits) (stops limits) (λ session. by_causes limits) run
          t0 r0 w0 t1 r1 w1 t2 r2 w2 objects text own.acts own.ends own.lines own.refused own.ended
          opened many remembered;
      history = is_history limits own.acts own.lines own.legal laws;
      told = inl (
        own.answer.stands,
        own.answer.told ∙ ap status_line own.answer.stands,
      );
    })))

-- what a filter did after calls that changed no text it did from before them
crossed_earlier : (run : RunWords) (t : Option Texts) (r0 w0 r1 w1 : List ℕ → ℕ)
    (t2 : Option Texts) (r2 w2 : List ℕ → ℕ) (text : List ℕ) (n : ℕ)
    → NeverFalls r0 r1 → NeverFalls w0 w1
    → HasCrossed run (shown t r1 w1 []) (shown t2 r2 w2 text) n
    → HasCrossed run (shown t r0 w0 []) (shown t2 r2 w2 text) n
crossed_earlier run t r0 w0 r1 w1 t2 r2 w2 text n reads writes own = record {
  limits = own.limits;
  inputs = own.inputs;
  acts = own.acts;
  ends = own.ends;
  lines = own.lines;
  refused = own.refused;
  limits_are = own.limits_are;
  ran = ran_earlier (follows own.limits) (stops own.limits) (λ session. by_causes own.limits) run t
      r0 w0 r1 w1 t2 r2 w2 text reads writes own.inputs own.acts own.ends own.lines own.refused
      own.ran;
  history = own.history;
  told = own.told;
}

-- the same behind the limit file
pub limited_went : (run : RunWords) (t0 t1 : Option Texts) (r0 w0 r1 w1 : List ℕ → ℕ)
    (t2 : Option Texts) (r2 w2 : List ℕ → ℕ) (text : List ℕ) (n : ℕ)
    → Went (silent t0 r0 w0) (silent t1 r1 w1) → t1 ≡ t0
    → (n ≡ 8) ⊎ SessionsWent (HasCrossed run) run (shown t1 r1 w1 []) (shown t2 r2 w2 text) n
    → (n ≡ 8) ⊎ CrossWent run (shown t0 r0 w0 []) (shown t2 r2 w2 text) n
limited_went run t0 t1 r0 w0 r1 w1 t2 r2 w2 text n went same did =
    went_behind (HasCrossed run) run t0 t1 r0 w0 r1 w1 t2 r2 w2 text n went same
    (λ reads writes. crossed_earlier run t0 r0 w0 r1 w1 t2 r2 w2 text n reads writes) did

-- what a filter did and what was told of it
crossed_told : (run : RunWords) (t0 : Option Texts) (r0 w0 : List ℕ → ℕ) (t1 : Option Texts)
    (r1 w1 : List ℕ → ℕ) (text : List ℕ) (n : ℕ) (held held_after : Option (List ℕ))
    (faults faults_after answer : ℕ) → IsTold held held_after faults faults_after text n answer
    → HasCrossed run (shown t0 r0 w0 []) (shown t1 r1 w1 text) n
    → HasCrossed run (beside t0 r0 w0 held faults) (beside t1 r1 w1 held_after faults_after) answer
crossed_told run t0 r0 w0 t1 r1 w1 text n held held_after faults faults_after answer told own =
    record {
      limits = own.limits;
      inputs = own.inputs;
      acts = own.acts;
      ends = own.ends;
      lines = own.lines;
      refused = own.refused;
      limits_are = own.limits_are;
      ran = ran_beside (follows own.limits) (stops own.limits) run t0 r0 w0 t1 r1 w1 text held
          held_after faults faults_after own.inputs own.acts own.ends own.lines own.refused own.ran;
      history = own.history;
      told = told_so text n held held_after faults faults_after answer told _ _ own.told;
    }

-- for whoever tells what this command comes to
pub cross_told : (run : RunWords) (t0 : Option Texts) (r0 w0 : List ℕ → ℕ) (t1 : Option Texts)
    (r1 w1 : List ℕ → ℕ) (text : List ℕ) (n : ℕ) (held held_after : Option (List ℕ))
    (faults faults_after answer : ℕ) → (n ≡ 8 → ⊥)
    → (n ≡ 8) ⊎ CrossWent run (shown t0 r0 w0 []) (shown t1 r1 w1 text) n
    → (answer ≡ 8) ⊎ IsTold held held_after faults faults_after text n answer
    → (answer ≡ 8) ⊎ CrossWent run (beside t0 r0 w0 held faults)
    (beside t1 r1 w1 held_after faults_after) answer
cross_told run t0 r0 w0 t1 r1 w1 text n held held_after faults faults_after answer memory did told =
    words_told (HasCrossed run) run t0 r0 w0 t1 r1 w1 text n held held_after faults faults_after
    answer
    (λ is own. crossed_told run t0 r0 w0 t1 r1 w1 text n held held_after faults faults_after answer
    is own) memory did told

max_most : (a b most : ℕ) → a ≤ most → b ≤ most → max a b ≤ most
max_most a b most first second = omega arith

-- there is a tree for each symbol, and one where there is none
pub few_lines : (limits : Limits) (acts placed : List (List Act)) (lines : List (List Line))
    → ArePlaced limits acts placed lines → length limits.symbols ≤ 400 → length lines < 2 ^ 32
few_lines limits acts placed lines are few =
    omega (arith, are.legal.count, max_most (length limits.symbols) 1 400 few (omega arith))

-- as many sessions have acts with places as without
pub placed_many : (limits : Limits) (acts placed : List (List Act)) (lines : List (List Line))
    → ArePlaced limits acts placed lines → length placed ≡ length acts
placed_many limits acts placed lines are =
    ap length are.placed_are ∙ length-map acts (with_places are.place)

-- sessions whose journal was kept stand in it
pub has_stood : (limits : Limits) (run : RunWords) (before after : PortsValue)
    (acts placed : List (List Act)) (ends said : List End) (lines : List (List Line))
    (objects : List ObjectsValue) (text : List ℕ) (n : ℕ) (refused : Bool)
    → ArePlaced limits acts placed lines
    → HasKept run before after placed lines objects refused → said ≡ ends
    → (n ≡ 8) ⊎ HasAnswer said refused text n
    → (n ≡ 8) ⊎ HaveStood limits run before after acts ends objects text n
has_stood limits run before after acts placed ends said lines objects text n refused are kept same
    (inl memory) = inl memory
has_stood limits run before after acts placed ends said lines objects text n refused are kept same
    (inr answer) = inr (record {
      placed = placed;
      lines = lines;
      refused = refused;
      placed_are = are;
      kept = kept;
      answer = subst (λ (e : List End). HasAnswer e refused text n) same answer;
    })
