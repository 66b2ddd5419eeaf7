-- Sessions as tasks: those that wait, what is left of them, and the room for it.
use Rattle.std.specs.Prelude.{◌≡◌, ℕ, ◌+◌, ◌≤◌, List, [], length, map, vec_len, vec_capacity}
use Rattle.session_tasks.specs.declared.ended.Ended.{Ended}
use Rattle.session_tasks.specs.declared.ended.Tasks.{Tasks}
use Rattle.session_tasks.specs.declared.task.TaskDone.{TaskDone}

-- no session has ended yet
pub record HasNone {P S K : Type 0} (ended : Ended P S K) : Type 0 where
  pub passes : ended.passes.items ≡ []
  pub acts : ended.acts.items ≡ []
  pub ends : ended.ends.items ≡ []
  pub opened : ended.opened.items ≡ []

-- there is room for so many sessions more
pub record HasSpare {P S K : Type 0} (count : ℕ) (ended : Ended P S K) : Type 0 where
  pub passes : vec_len ended.passes + count ≤ vec_capacity ended.passes
  pub acts : vec_len ended.acts + count ≤ vec_capacity ended.acts
  pub ends : vec_len ended.ends + count ≤ vec_capacity ended.ends
  pub opened : vec_len ended.opened + count ≤ vec_capacity ended.opened

-- no task waits, and there is room for so many, and for what they leave
pub record HasRoom {W P S K : Type 0} (count : ℕ) (tasks : Tasks W P S K) : Type 0 where
  pub none : tasks.waiting.items ≡ []
  pub room : count ≤ vec_capacity tasks.waiting
  pub empty : HasNone tasks.ended
  pub spare : HasSpare count tasks.ended

-- there is room for what the tasks that wait leave
pub record CanEnd {W P S K : Type 0} (tasks : Tasks W P S K) : Type 0 where
  pub empty : HasNone tasks.ended
  pub spare : HasSpare (length tasks.waiting.items) tasks.ended

-- what these tasks left, by kind, in their order
pub record AreApart {P S K : Type 0} (done : List (TaskDone P S K)) (ended : Ended P S K) : Type 0
  where
    pub passes : ended.passes.items ≡ map (λ d. d.pass) done
    pub acts : map (λ own. own.items) ended.acts.items ≡ map (λ d. d.acts.items) done
    pub ends : ended.ends.items ≡ map (λ d. d.end) done
    pub opened : ended.opened.items ≡ map (λ d. d.opened) done
