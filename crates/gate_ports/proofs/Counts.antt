-- A count that is one more, or as before, has not fallen.
use Rattle.std.proofs.Common.{◌≡◌, ℕ, ◌≤◌, List, refl, sym, subst, arith, Bool, true, false, cond}
use Rattle.std.proofs.Common.{Result, Ok, Err}
use Rattle.std.specs.Prelude.{IsErrOf, ◌&&◌, ◌≢◌, nat_lt}
use Rattle.std.specs.Str.{bytes_eq}
use Rattle.std.proofs.lemmas.Bool.Decides.{nat_tests}
use Rattle.std.proofs.lemmas.Slice.Eq.{bytes_eq-Decides}
use Rattle.gate_ports.specs.declared.ports.PortFault.{PortFault}
use Rattle.gate_ports.specs.declared.ports.PortFault.TheVariants.{Failed, Memory}
use Rattle.gate_ports.specs.Faults.{one_more, counted, Rose, HasNamedCause, NeverFalls}
use Rattle.gate_ports.specs.Folders.{is_failed}
use Rattle.gate_ports.specs.Real.{raised_where}

pub one_more-le : (count : ℕ) → count ≤ one_more count
one_more-le count = grind (arith, nat_tests)

pub Rose-one_more : (count : ℕ) → Rose count (one_more count)
Rose-one_more count = grind (arith, nat_tests)

-- raised or not, the count is no smaller
either_le : (b : Bool) (count : ℕ) → count ≤ cond b (one_more count) count
either_le true count = one_more-le count
either_le false count = omega arith

-- raised where this holds
either_rose : (b : Bool) (count : ℕ) → b ≡ true → Rose count (cond b (one_more count) count)
either_rose true count raised = Rose-one_more count
either_rose false count raised = cc

-- a name is equal to itself, so a fault raises its own count
own_name : (b : Bool) (name : List ℕ) → b ≡ true → (b && bytes_eq name name) ≡ true
own_name true name raised = (bytes_eq-Decides name name).1 refl
own_name false name raised = cc

-- counts that are raised at this name where there was a fault have a cause
pub counted_has_cause : (before now : List ℕ → ℕ) (name : List ℕ) (has_failed : Bool)
    (failed : Type 0) → now ≡ counted before name has_failed → (failed → has_failed ≡ true)
    → HasNamedCause before now name failed
counted_has_cause before now name has_failed failed same raised = record {
  later = λ other.
      let P : (List ℕ → ℕ) → Type 0 = λ f. before other ≤ f other in
      subst P (sym same) (either_le (has_failed && bytes_eq other name) (before other));
  rose = λ fault.
      let P : (List ℕ → ℕ) → Type 0 = λ f. Rose (before name) (f name) in
      subst P (sym same) (either_rose (has_failed && bytes_eq name name) (before name)
      (own_name has_failed name (raised fault)));
}

-- one count that stands for every name is raised where there was a fault
pub one_count_has_cause : (before now : ℕ) (name : List ℕ) (has_failed : Bool) (failed : Type 0)
    → now ≡ raised_where has_failed before → (failed → has_failed ≡ true)
    → HasNamedCause (λ other. before) (λ other. now) name failed
one_count_has_cause before now name has_failed failed same raised = record {
  later = λ other. rw same (either_le has_failed before);
  rose = λ fault. rw same (either_rose has_failed before (raised fault));
}

-- counts that stay as they were have not fallen
pub same_never_falls : (before now : List ℕ → ℕ) → now ≡ before → NeverFalls before now
same_never_falls before now same name =
    let P : (List ℕ → ℕ) → Type 0 = λ f. before name ≤ f name in
    subst P (sym same) (omega arith)

-- the answer for a fault is told apart
pub failed_is_failed : {T : Type 0} (answer : Result T PortFault) → IsErrOf answer Failed
    → is_failed answer ≡ true
failed_is_failed (Ok value) fault = cc
failed_is_failed (Err Failed) fault = refl
failed_is_failed (Err Memory) fault = cc

-- what isn't 0 is above it
pub nonzero_is_above : (count : ℕ) → count ≢ 0 → nat_lt 0 count ≡ true
nonzero_is_above count some = grind (arith, nat_tests)
