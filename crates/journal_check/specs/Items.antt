-- What lists of lists hold.
use Rattle.std.specs.Prelude.{List, map, Vec}
use Rattle.std.specs.Global.{Global}

-- the items of each
abbrev pub items_of : {X : Type 0} → List (Vec X Global) → List (List X)
items_of {X} lists = map (λ (own : Vec X Global). own.items) lists
