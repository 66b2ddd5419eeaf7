use Rattle.fix_fields.proofs.FirstSoh.{first_soh}
use Rattle.fix_fields.proofs.field_reader.soh_place.Goals as goal

-- one of the first 32 bytes is SOH
pub returns-then-count-lt-LANES : goal.returns-then-count-lt-LANES
returns-then-count-lt-LANES c = first_soh c.args.text.now c.if-text-ge-LANES.true
    c.lanes_before_soh-count.result c.lanes_before_soh-count.ensures c.if-count-lt-LANES.true
