-- The fields of an id are those that its text gives back.
use Rattle.std.specs.Prelude.{◌≡◌, ℕ, List, take, length}
use Rattle.std.proofs.Common.{sym, ap, ◌∙◌}
use Rattle.fix_fields.specs.IdText.{HoldsId, padded_id}
use Rattle.fix_fields.specs.declared.id.Id.TheInside.{Inside}

-- an id whose text is this
abbrev pub id_back : List ℕ → Inside
id_back text = record { bytes = padded_id text; len = length text }

pub holds_back : (a : Inside) → HoldsId a.bytes a.len → id_back (take a.len a.bytes) ≡ a
holds_back a h =
    let of_parts : List ℕ → ℕ → Inside = λ bytes len. record { bytes = bytes; len = len } in
    ap (λ bytes. of_parts bytes (length (take a.len a.bytes))) (sym h.padded)
    ∙ ap (of_parts a.bytes) h.count
