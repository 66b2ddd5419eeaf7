-- What a pending request asks for.
use Rattle.std.specs.Prelude.{ℕ, List, Bool, true, false, nat_eq}
use Rattle.std.specs.Cmp.Lexicographic.{pointwise}
use Rattle.exposure_book.specs.declared.pending.Pending.{Pending}
use Rattle.exposure_book.specs.declared.pending.Pending.TheVariants.{Nothing, Cancel, Replace}

-- two ids have the same bytes
abbrev pub is_same_id : List ℕ → List ℕ → Bool
is_same_id one other = pointwise nat_eq one other

-- the total of a replace, 0 where none is pending
abbrev pub pending_total : Pending → ℕ
pending_total Nothing = 0
pending_total (Cancel id) = 0
pending_total (Replace id total price) = total

-- the reserve price of a replace, 0 where none is pending
abbrev pub pending_price : Pending → ℕ
pending_price Nothing = 0
pending_price (Cancel id) = 0
pending_price (Replace id total price) = price

-- a request is pending
abbrev pub is_pending : Pending → Bool
is_pending Nothing = false
is_pending (Cancel id) = true
is_pending (Replace id total price) = true

-- a request with this id is pending
abbrev pub has_id_pending : Pending → List ℕ → Bool
has_id_pending Nothing of = false
has_id_pending (Cancel id) of = is_same_id id of
has_id_pending (Replace id total price) of = is_same_id id of
