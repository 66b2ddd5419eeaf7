use Rattle.std.proofs.Common.{◌≡◌, ◌∙◌, [], length, refl, sym, ap, inl, inr, true}
use Rattle.std.proofs.Common.{arith, rules}
use Rattle.csv.specs.Records.{fields_of}
use Rattle.limit_table.proofs.SoFar.{before_first_row, few_so_far, all_read, row_read, fault_read}
use Rattle.limit_table.proofs.reading.read_entries.Goals as goal

-- no row is read yet
pub loop-row-init : goal.loop-row-init
loop-row-init c =
    let from = c.from_reader-reader.ensures in
    let made = c.flexible.ensures in
    let named = c.has_headers.ensures in
    let start = c.into_iter-row-iterator.ensures.into_iter_gives ∙ refl in
    let reader = c.into_byte_records-row-items.ensures.rdr in
    rw (start, reader) (
      rw (made, named) at from.trim ∙ c.new.ensures.trim,
      inr (inr (rw (made, named) at from.has_headers, from.headers)),
      c.into_byte_records-row-items.ensures.left,
      before_first_row _ _ _ (rw (made, named) at from.config ∙ c.new.ensures.config)
          from.source from.state c.new-so_far.ensures,
    )

pub take-requires : goal.take-requires
take-requires c = record { few = few_so_far _ _ _ c.loop-row.invariant.3 }

-- the row has a fault
pub returns-in-Err-clause-refused : goal.returns-in-Err-clause-refused
returns-in-Err-clause-refused c = λ other.
    let inv = c.loop-row.invariant in
    let s = rw (c.in-Some.is, c.in-Ok.is) at ((c.next.ensures.steps inv.2 inv.0).0 inv.1) in
    let refused = c.in-Err.ensures.refused inv.3.rows inv.3.stands other in
    fault_read c.args.bytes.now c.loop-row.row-iterator.rdr c.next.new.self.rdr
    c.loop-row.so_far _ _ inv.3 s.0 refused

-- the row is sound
pub loop-row-preserved : goal.loop-row-preserved
loop-row-preserved c =
    let inv = c.loop-row.invariant in
    let s = rw (c.in-Some.is, c.in-Ok.is) at ((c.next.ensures.steps inv.2 inv.0).0 inv.1) in
    let taken = c.in-Ok-take.ensures.taken inv.3.rows inv.3.stands in
    (s.0.3 ∙ inv.0, inl s.1, s.2, row_read _ _ _ _ _ _ inv.3 s.0 s.0.2 taken)

-- there is no further row
pub returns-clause-read : goal.returns-clause-read
returns-clause-read c =
    let inv = c.loop-row.invariant in
    let s = rw c.in-None.is at ((c.next.ensures.steps inv.2 inv.0).0 inv.1) in
    rw c.into_entries.ensures (all_read c.args.bytes.now c.loop-row.row-iterator.rdr c.next.new.self.rdr
    c.loop-row.so_far [] inv.3 s)
