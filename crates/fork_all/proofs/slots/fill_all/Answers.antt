use Rattle.fork_all.proofs.Zipped.{zip_of}
use Rattle.fork_all.proofs.slots.fill_all.Goals as goal

pub returns : goal.returns
returns g c =
    zip_of _ c.args.slots.now c.for_each_mut.new.s c.for_each_mut.auto.s
    (λ i d below. let at = (c.for_each_mut.ensures i d below).1 in
    rw (← at.argument_is, ← at.left) at.call)
