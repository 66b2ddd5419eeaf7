-- The rows are tried one after another.
use Rattle.std.proofs.Common.{◌≡◌, ℕ, ◌+◌, ◌<◌, List, [], ◌∷◌, length, refl, sym, ap, ◌∙◌}
use Rattle.std.proofs.Common.{zero, suc, Bool, true, arith, get_or, drop, add-one}
use Rattle.std.specs.Prelude.{Option, Some, None, if◌then◌else◌}
use Rattle.fix_fields.specs.Fields.{FieldValue}
use Rattle.fix_orders.specs.declared.kind.Kind.{Kind}
use Rattle.fix_orders.specs.declared.message.FieldFault.{FieldFault}
use Rattle.fix_orders.specs.declared.reason.Reason.{Reason}
use Rattle.fix_orders.specs.declared.table.Need.{Need}
use Rattle.fix_orders.specs.declared.table.Row.{Row}
use Rattle.fix_orders.specs.Faults.{values_of, values_reason, is_read, is_required, row_reason}
use Rattle.fix_orders.specs.Faults.{first_fault, fault_or, reason_code}
use Rattle.fix_orders.specs.Table.{table, row_at, need_in}

-- the reason of a row that is read
pub row_is : (kind : Kind) (listed : List FieldValue) (r s : Row) (need : Need)
    (read required : Bool) (found : Option Reason) → r ≡ s → need ≡ need_in kind r
    → read ≡ is_read listed need → read ≡ true → required ≡ is_required need
    → found ≡ values_reason required r.read_as (values_of s.tag listed)
    → found ≡ row_reason kind listed s
row_is kind listed r s need read required found same need_is read_is reads required_is found_is =
    let values = values_of s.tag listed in
    let need_same : need ≡ need_in kind s = need_is ∙ ap (need_in kind) same in
    let opened : is_read listed (need_in kind s) ≡ true =
    sym (ap (is_read listed) need_same) ∙ sym read_is ∙ reads in
    found_is
    ∙ ap (λ b. values_reason b r.read_as values) (required_is ∙ ap is_required need_same)
    ∙ ap (λ (x : Row). values_reason (is_required (need_in kind s)) x.read_as values) same
    ∙ sym (ap
    (λ b. if b then values_reason (is_required (need_in kind s)) s.read_as values else None) opened)

-- the first fault from a row on
step : (kind : Kind) (listed : List FieldValue) (rows : List Row) (i : ℕ) (d : Row)
    → i < length rows
    → first_fault kind listed (drop i rows)
    ≡ fault_or (row_reason kind listed (get_or rows i d)) (get_or rows i d).tag
    (first_fault kind listed (drop (suc i) rows))
step kind listed [] i d h = absurd (omega arith)
step kind listed (r ∷ rows) zero d h = refl
step kind listed (r ∷ rows) (suc i) d h = step kind listed rows i d (omega arith)

-- a row without a reason is passed over
pub row_passes : (kind : Kind) (listed : List FieldValue) (place : ℕ) → place < 16
    → None ≡ row_reason kind listed (row_at place)
    → first_fault kind listed (drop place table) ≡ first_fault kind listed (drop (place + 1) table)
row_passes kind listed place below none =
    step kind listed table place (row_at 16) below
    ∙ ap (λ o. fault_or o (row_at place).tag (first_fault kind listed (drop (suc place) table)))
    (sym none)
    ∙ ap (λ n. first_fault kind listed (drop n table)) (sym (add-one place))

-- a row with a reason is the fault
pub row_fails : (kind : Kind) (listed : List FieldValue) (place tag : ℕ) (reason : Reason)
    (code : ℕ) → place < 16
    → Some reason ≡ row_reason kind listed (row_at place) → tag ≡ (row_at place).tag
    → code ≡ reason_code reason
    → first_fault kind listed table ≡ first_fault kind listed (drop place table)
    → (let fault : FieldFault = record { tag = tag; reason = code } in Some fault)
    ≡ first_fault kind listed table
row_fails kind listed place tag reason code below some tag_is code_is so_far =
    let fault : ℕ → ℕ → FieldFault = λ t n. record { tag = t; reason = n } in
    ap (λ t. Some (fault t code)) tag_is
    ∙ ap (λ n. Some (fault (row_at place).tag n)) code_is
    ∙ ap (λ o. fault_or o (row_at place).tag (first_fault kind listed (drop (suc place) table))) some
    ∙ sym (step kind listed table place (row_at 16) below) ∙ sym so_far

-- behind the last row there is no fault
pub none_left : (kind : Kind) (listed : List FieldValue) (place : ℕ) → place ≡ 16
    → first_fault kind listed table ≡ first_fault kind listed (drop place table)
    → None ≡ first_fault kind listed table
none_left kind listed place whole so_far =
    sym (so_far ∙ ap (λ n. first_fault kind listed (drop n table)) whole)
