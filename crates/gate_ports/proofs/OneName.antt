-- What is counted of one name.
use Rattle.std.proofs.Common.{◌≡◌, ℕ, List, refl, ap, sym, subst, Bool, true, false, cond}
use Rattle.std.specs.Str.{bytes_eq}
use Rattle.std.proofs.lemmas.Slice.Eq.{bytes_eq-Decides}
use Rattle.std.specs.Prelude.{◌⊎◌, None}
use Rattle.gate_ports.specs.Calls.{CallsState, FailsToOpen, with_calls}
use Rattle.gate_ports.specs.Names.{Texts}
use Rattle.gate_ports.specs.Faults.{counted}
use mathlib.Core.Path.{fun_ext}

-- at the name itself or another
same_either_way : {X : Type 0} (b : Bool) (own other : X) → (b ≡ true → own ≡ other)
    → cond b own other ≡ other
same_either_way true own other at_name = at_name refl
same_either_way false own other at_name = refl

-- a name whose calls are set to what they are
pub with_calls-same : (calls : List ℕ → CallsState) (name : List ℕ)
    → with_calls name (calls name) calls ≡ calls
with_calls-same calls name = fun_ext (λ other.
    same_either_way (bytes_eq other name) (calls name) (calls other)
    (λ equal. ap calls (sym ((bytes_eq-Decides other name).0 equal))))

-- nothing is counted where there was no fault
pub counted-nothing : (before : List ℕ → ℕ) (name : List ℕ) → counted before name false ≡ before
counted-nothing before name = fun_ext (λ other. refl)

-- a name whose calls changed, after a step that changed none
pub calls_change_after : (old mid new : List ℕ → CallsState) (name : List ℕ)
    (change : CallsState → CallsState) → mid ≡ old → new ≡ with_calls name (change (mid name)) mid
    → new ≡ with_calls name (change (old name)) old
calls_change_after old mid new name change same changed =
    let P : (List ℕ → CallsState) → Type 0 = λ f. new ≡ with_calls name (change (f name)) f in
    subst P same changed

-- a name that is missing or whose next opening fails, before a step that changed neither
pub either_before : (old mid : Texts) (calls mid_calls : List ℕ → CallsState) (name : List ℕ)
    → mid ≡ old → mid_calls ≡ calls → (mid name ≡ None) ⊎ FailsToOpen (mid_calls name)
    → (old name ≡ None) ⊎ FailsToOpen (calls name)
either_before old mid calls mid_calls name same same_calls either =
    let P : Texts → Type 0 = λ texts. (texts name ≡ None) ⊎ FailsToOpen (calls name) in
    let Q : (List ℕ → CallsState) → Type 0 = λ f. (mid name ≡ None) ⊎ FailsToOpen (f name) in
    subst P same (subst Q same_calls either)
