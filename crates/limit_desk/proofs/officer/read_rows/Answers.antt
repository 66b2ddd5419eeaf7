use Rattle.std.proofs.Common.{◌≡◌, ◌+◌, ◌∙◌, [], refl, sym, subst, length, inl, inr, arith, Ok, Err}
use Rattle.csv.specs.Records.{fields_of}
use Rattle.limit_desk.specs.Officers.{row_at}
use Rattle.limit_desk.proofs.OfficerReads.{before_first_row, all_read, row_read, fault_read}
use Rattle.limit_desk.proofs.officer.read_rows.Goals as goal

-- no row is read yet
pub loop-record-init : goal.loop-record-init
loop-record-init c =
    let from = c.from_reader-reader.ensures in
    let made = c.flexible.ensures in
    let named = c.has_headers.ensures in
    let start = c.into_iter-record-iterator.ensures.into_iter_gives ∙ refl in
    let reader = c.into_byte_records-record-items.ensures.rdr in
    rw (start, reader, c.new-rows.ensures.items) (
      rw (made, named) at from.trim ∙ c.new.ensures.trim,
      inr (inr (rw (made, named) at from.has_headers, from.headers)),
      c.into_byte_records-record-items.ensures.left,
      before_first_row c.args.limits.now _ _ (rw (made, named) at from.config ∙ c.new.ensures.config)
          from.source from.state,
    )

pub overflow_cast-len : goal.overflow_cast-len
overflow_cast-len c =
    let few = c.loop-record.invariant.3.few in omega (arith, few, c.len.ensures)

pub overflow_add-len : goal.overflow_add-len
overflow_add-len c =
    let few = c.loop-record.invariant.3.few in omega (arith, few, c.len.ensures)

-- the row has a fault
pub returns-in-Err-clause-refused : goal.returns-in-Err-clause-refused
returns-in-Err-clause-refused c = λ other.
    let inv = c.loop-record.invariant in
    let s = rw (c.in-Some.is, c.in-Ok.is) at ((c.next.ensures.steps inv.2 inv.0).0 inv.1) in
    let is : c.len.result + 1 ≡ length c.loop-record.rows.items + 1 = omega (arith, c.len.ensures) in
    fault_read c.args.limits.now c.args.bytes.now c.loop-record.record-iterator.rdr
    c.next.new.self.rdr c.loop-record.rows.items _ inv.3 c.in-Err.why s.0
    (subst (λ k. row_at c.args.limits.now k (fields_of c.in-Ok.fields) ≡ Err c.in-Err.why) is
    (sym c.read_row.ensures ∙ c.in-Err.is))

-- the row is sound
pub loop-record-preserved : goal.loop-record-preserved
loop-record-preserved c =
    let inv = c.loop-record.invariant in
    let s = rw (c.in-Some.is, c.in-Ok.is) at ((c.next.ensures.steps inv.2 inv.0).0 inv.1) in
    let is : c.len.result + 1 ≡ length c.loop-record.rows.items + 1 = omega (arith, c.len.ensures) in
    let more = row_read c.args.limits.now c.args.bytes.now c.loop-record.record-iterator.rdr
    c.next.new.self.rdr c.loop-record.rows.items _ inv.3 c.in-Ok-read_row.row s.0 s.0.2
    (subst (λ k. row_at c.args.limits.now k (fields_of c.in-Ok.fields) ≡ Ok c.in-Ok-read_row.row) is
    (sym c.read_row.ensures ∙ c.in-Ok-read_row.is)) in
    (s.0.3 ∙ inv.0, inl s.1, s.2, rw c.in-Ok-add_row.ensures.added more)

-- there is no further row
pub returns-clause-read : goal.returns-clause-read
returns-clause-read c =
    let inv = c.loop-record.invariant in
    let s = rw c.in-None.is at ((c.next.ensures.steps inv.2 inv.0).0 inv.1) in
    all_read c.args.limits.now c.args.bytes.now c.loop-record.record-iterator.rdr
    c.next.new.self.rdr c.loop-record.rows.items [] inv.3 s
