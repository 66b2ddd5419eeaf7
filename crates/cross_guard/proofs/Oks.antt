-- What holds where there is no error.
use Rattle.std.proofs.Common.{◌≡◌, false}
use Rattle.std.specs.Prelude.{Result, Ok, Err, OnOk, is_err}

-- what holds of a value that is there
pub ok_of : {A E P : Type 0} (r : Result A E) → OnOk r P → is_err r ≡ false → P
ok_of (Ok a) ok is = ok
ok_of (Err e) ok is = absurd cc
