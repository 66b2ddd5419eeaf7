-- The room that tests leave: at most 80 bytes a field.
use Rattle.std.proofs.Common.{◌≡◌, ℕ, ◌+◌, ◌*◌, ◌≤◌, List, [], ◌∷◌, ◌++◌, length, decimal, arith}
use Rattle.std.proofs.Common.{Option, Some, None, length-append, refl}
use Rattle.std.specs.Prelude.{IfSome, IsSome}
use Rattle.std.proofs.lemmas.Fmt.{length-decimal-le}
use Rattle.std.proofs.lemmas.Bool.{false≢true}
use Rattle.fix_fields.specs.Fields.{field, field_text, soh}

-- a field of at most 64 bytes has at most 80 bytes
pub short_field : (tag : ℕ) (value : List ℕ) → tag ≤ 999999 → length value ≤ 64
    → length (field_text (field tag value)) ≤ 80
short_field tag value few small =
    let digits = length-decimal-le 6 tag (omega arith) (omega arith) (omega arith) in
    omega (
      arith,
      digits,
      length-append (decimal tag ++ 61 ∷ value) (soh ∷ []),
      length-append (decimal tag) (61 ∷ value),
    )

-- a text that fits the bound fits the body
pub has_room : (old : Option (List ℕ)) (count : ℕ) (text : List ℕ) → count ≤ 100
    → length text ≤ 80 → IfSome old (λ body. length body ≤ count * 80)
    → IfSome old (λ body. length body + length text ≤ 8400)
has_room None count text few small short = tt
has_room (Some body) count text few small short = omega (arith, short)

pub is_begun : (old new : Option (List ℕ)) (text : List ℕ) → IsSome old
    → IfSome old (λ body. new ≡ Some (body ++ text)) → IsSome new
is_begun None new text begun more = absurd (false≢true begun)
is_begun (Some body) new text begun more = rw more refl

-- the bound holds of one field more
pub stays_short : (old new : Option (List ℕ)) (count : ℕ) (text : List ℕ) → IsSome old
    → length text ≤ 80 → IfSome old (λ body. length body ≤ count * 80)
    → IfSome old (λ body. new ≡ Some (body ++ text))
    → IfSome new (λ body. length body ≤ (count + 1) * 80)
stays_short None new count text begun small short more = absurd (false≢true begun)
stays_short (Some body) new count text begun small short more =
    rw more (omega (arith, short, length-append body text))
