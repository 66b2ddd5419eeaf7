-- What holds where a result is Ok.
use Rattle.std.specs.Prelude.{Result, Ok, Err, IfOk}

-- by what is known of its value
pub ok_more : {A E : Type 0} (r : Result A E) (P Q : A → Type 0) → IfOk r P → ((x : A) → P x → Q x)
    → IfOk r Q
ok_more (Ok x) P Q p f = f x p
ok_more (Err e) P Q p f = tt

-- by three things that are known of its value
pub ok_by_three : {A E : Type 0} (r : Result A E) (P Q R S : A → Type 0) → IfOk r P → IfOk r Q
    → IfOk r R → ((x : A) → P x → Q x → R x → S x) → IfOk r S
ok_by_three (Ok x) P Q R S p q t f = f x p q t
ok_by_three (Err e) P Q R S p q t f = tt
