-- What a sink is to whoever gives to it.
use Rattle.std.specs.Prelude.{◌≡◌, ℕ, ◌≤◌, List, Option}

-- what a sink is: what it holds, its count of faults and its name
pub record SinkValue : Type 0 where
  pub held : Option (List ℕ)
  pub faults : ℕ
  pub name : Option (List ℕ)

-- the same sink, later
pub record IsLaterSink (before now : SinkValue) : Type 0 where
  pub name_is : now.name ≡ before.name
  pub faults_are : before.faults ≤ now.faults

-- what a sink is, by the members of its trait
abbrev pub sink_of : {S : Type 0} → (S → Option (List ℕ)) → (S → ℕ) → (S → Option (List ℕ)) → S
    → SinkValue
sink_of held faults name sink =
    record { held = held sink; faults = faults sink; name = name sink }
