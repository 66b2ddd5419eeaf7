-- What each call promises of its own gives what a folder's promises.
use Rattle.std.proofs.Common.{refl, ap, arith}
use Rattle.std.proofs.lemmas.Result.{IfOk-weaker}
use Rattle.gate_ports.proofs.Counts.{one_count_has_cause, nonzero_is_above}
use Rattle.gate_ports.proofs.Untold.{IfOk-always, OnErr-always, error_is_err}
use Rattle.gate_ports.proofs.real_folder.RealFolderFolder.TheImpl.Goals as goal

pub open-tells : goal.open-tells
open-tells g x y c = record {
  found = IfOk-always c.result _ (λ input. tt);
  means = IfOk-always c.result _ (λ input. tt);
  fresh = IfOk-weaker c.result _ _
      (λ input is. (ap (λ s. s.faults) is, ap (λ s. s.is_ended) is)) c.ensures.fresh;
  texts = refl;
  cause = one_count_has_cause _ _ _ _ _ (ap (λ s. s.reads) c.ensures.after)
      (error_is_err c.result _);
  writes = λ name. omega (arith, ap (λ s. s.writes) c.ensures.after);
}

pub create-tells : goal.create-tells
create-tells g x y c = record {
  ok = IfOk-always c.result _ (λ output. refl);
  err = OnErr-always c.result _ refl;
  empty = IfOk-always c.result _ (λ output. tt);
  means = IfOk-always c.result _ (λ output. tt);
  fresh = c.ensures.fresh;
  cause = one_count_has_cause _ _ _ _ _ (ap (λ s. s.writes) c.ensures.after)
      (error_is_err c.result _);
  reads = λ name. omega (arith, ap (λ s. s.reads) c.ensures.after);
}

pub done-tells : goal.done-tells
done-tells g x y c = record {
  texts = refl;
  cause = one_count_has_cause _ _ _ _ _ (ap (λ s. s.reads) c.ensures.after) (nonzero_is_above _);
  writes = λ name. omega (arith, ap (λ s. s.writes) c.ensures.after);
}

pub close-tells : goal.close-tells
close-tells g x y c = record {
  closed = refl;
  cause = one_count_has_cause _ _ _ _ _ (ap (λ s. s.writes) c.ensures.after) (nonzero_is_above _);
  reads = λ name. omega (arith, ap (λ s. s.reads) c.ensures.after);
}
