-- What is known of the words of a run is known of their equals.
use Rattle.std.proofs.Common.{◌≡◌, ℕ, List, length, subst, sym, ap, ◌∙◌}
use Rattle.std.specs.Prelude.{Option, ◌⊎◌}
use Rattle.gate_ports.specs.Names.{Texts}
use Rattle.limit_table.specs.declared.limits.Limits.{Limits}
use Rattle.gate_files.specs.declared.names.Outputs.{Outputs}
use Rattle.gate_files.specs.declared.words.Run.{Run}
use Rattle.gate_files.specs.CommandOf.{run_value}
use Rattle.gate_files.specs.Names.{AreNames}
use Rattle.gate_files.specs.Objects.{ObjectsValue, EachOwn}
use Rattle.gate_files.specs.Ports.{PortsValue}
use Rattle.session_tasks.specs.declared.ended.Tasks.{Tasks}
use Rattle.session_tasks.specs.Tasks.{HasRoom}
use Rattle.cross_command.specs.Finish.{HaveEnded}

module _ (run same : Run) (run_is : same ≡ run) where
  pub names_as : (names others : List Outputs) → others ≡ names
      → AreNames (run_value same).out (length same.sessions.now) names
      → AreNames (run_value run).out (length run.sessions.now) others
  names_as names others names_are are =
      subst (λ (all : List Outputs). AreNames (run_value run).out (length run.sessions.now) all)
      (sym names_are)
      (subst (λ (r : Run). AreNames (run_value r).out (length r.sessions.now) names) run_is are)

  pub room_as : {W P S K : Type 0} (room : Tasks W P S K) → HasRoom (length run.sessions.now) room
      → HasRoom (length same.sessions.now) room
  room_as {W} {P} {S} {K} room has =
      subst (λ (r : Run). HasRoom {W = W} {P = P} {S = S} {K = K} (length r.sessions.now) room)
      (sym run_is) has

  pub many_as : (count : ℕ) → count ≡ length run.sessions.now → count ≡ length same.sessions.now
  many_as count many = many ∙ ap (λ (r : Run). length r.sessions.now) (sym run_is)

  pub own_as : (told : Option Texts) (objects : List ObjectsValue)
      → EachOwn (run_value run) told objects → EachOwn (run_value same) told objects
  own_as told objects own =
      subst (λ (r : Run). EachOwn (run_value r) told objects) (sym run_is) own

  -- under equal limits too
  pub ended_as : {S : Type 0} (faults : S → ℕ) (limits other : Limits) (before after : PortsValue)
      (objects : List ObjectsValue) (text : List ℕ) (n : ℕ) → other ≡ limits
      → (n ≡ 8) ⊎ HaveEnded faults other (run_value same) before after objects text n
      → (n ≡ 8) ⊎ HaveEnded faults limits (run_value run) before after objects text n
  ended_as faults limits other before after objects text n limits_are ended =
      subst (λ (l : Limits). (n ≡ 8)
      ⊎ HaveEnded faults l (run_value run) before after objects text n) limits_are
      (subst (λ (r : Run). (n ≡ 8)
      ⊎ HaveEnded faults other (run_value r) before after objects text n) run_is ended)
