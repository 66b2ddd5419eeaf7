use Rattle.limit_table.proofs.Quotas.{quota_in_range}
use Rattle.limit_table.proofs.limits.Limits.quota.Goals as goal

pub returns-clause-least : goal.returns-clause-least
returns-clause-least c = (quota_in_range _ c.self.invariant).0

pub returns-clause-most : goal.returns-clause-most
returns-clause-most c = (quota_in_range _ c.self.invariant).1
