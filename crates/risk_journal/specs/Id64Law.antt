-- The fields of a name are those that its text gives back.
use Rattle.std.specs.Prelude.{◌≡◌, ℕ, List, take, length}
use Rattle.std.proofs.Common.{sym, ap, ◌∙◌}
use Rattle.risk_journal.specs.Id64Text.{HoldsName, padded_name}
use Rattle.risk_journal.specs.declared.id64.Id64.TheInside.{Inside}

-- a name whose text is this
abbrev pub name_back : List ℕ → Inside
name_back text = record { bytes = padded_name text; len = length text }

pub holds_back : (a : Inside) → HoldsName a.bytes a.len → name_back (take a.len a.bytes) ≡ a
holds_back a h =
    let of_parts : List ℕ → ℕ → Inside = λ bytes len. record { bytes = bytes; len = len } in
    ap (λ bytes. of_parts bytes (length (take a.len a.bytes))) (sym h.padded)
    ∙ ap (of_parts a.bytes) h.count
