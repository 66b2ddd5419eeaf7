use Rattle.limit_table.proofs.limits.Limits.stand_in_a_file.Goals as goal

pub returns : goal.returns
returns c = rw (← c.self.view_is) c.self.invariant
