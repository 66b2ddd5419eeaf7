-- What each call promises of its own gives what a folder's promises.
use Rattle.std.proofs.Common.{rules}
use Rattle.gate_ports.proofs.Counts.{counted_has_cause, same_never_falls}
use Rattle.gate_ports.proofs.Counts.{failed_is_failed, nonzero_is_above}
use Rattle.gate_ports.proofs.mem_folder.MemFolderFolder.TheImpl.Goals as goal

pub open-tells : goal.open-tells
open-tells x y c = record {
  found = search rules;
  means = search rules;
  fresh = search rules;
  texts = search rules;
  cause = counted_has_cause _ _ _ _ _ c.ensures.reads (failed_is_failed c.result);
  writes = same_never_falls _ _ c.ensures.writes;
}

pub create-tells : goal.create-tells
create-tells x y c = record {
  ok = search rules;
  err = search rules;
  empty = search rules;
  means = search rules;
  fresh = search rules;
  cause = counted_has_cause _ _ _ _ _ c.ensures.writes (failed_is_failed c.result);
  reads = same_never_falls _ _ c.ensures.reads;
}

pub done-tells : goal.done-tells
done-tells x y c = record {
  texts = search rules;
  cause = counted_has_cause _ _ _ _ _ c.ensures.reads (nonzero_is_above _);
  writes = same_never_falls _ _ c.ensures.writes;
}

pub close-tells : goal.close-tells
close-tells x y c = record {
  closed = search rules;
  cause = counted_has_cause _ _ _ _ _ c.ensures.writes (nonzero_is_above _);
  reads = same_never_falls _ _ c.ensures.reads;
}
