-- What an object promises of bytes and names that it doesn't tell.
use Rattle.std.proofs.Common.{◌≡◌, ℕ, List, true, Result, Ok, Err, refl}
use Rattle.std.specs.Prelude.{IfOk, OnErr, None, IsErrOf}
use Rattle.std.specs.Result.{is_err}
use Rattle.std.specs.Io.KnownBytes.{WriteAppends}

-- what holds of every value holds of the one that came
pub IfOk-always : {T E : Type 0} (answer : Result T E) (P : T → Type 0)
    → ((value : T) → P value) → IfOk answer P
IfOk-always (Ok value) P always = always value
IfOk-always (Err fault) P always = tt

-- a write to a sink that tells nothing
pub WriteAppends-untold : {E : Type 0} (answer : Result ℕ E) (piece : List ℕ)
    → WriteAppends None None answer piece
WriteAppends-untold (Ok count) piece = tt
WriteAppends-untold (Err fault) piece = tt

-- what holds of every error holds of the one that came
pub OnErr-always : {T E : Type 0} (answer : Result T E) (P : Type 0) → P → OnErr answer P
OnErr-always (Ok value) P holds = tt
OnErr-always (Err fault) P holds = holds

-- an answer that is an error is one
pub error_is_err : {T E : Type 0} (answer : Result T E) (fault : E) → IsErrOf answer fault
    → is_err answer ≡ true
error_is_err (Ok value) fault is = cc
error_is_err (Err other) fault is = refl
