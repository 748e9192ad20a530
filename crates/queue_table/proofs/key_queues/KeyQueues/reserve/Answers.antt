use Rattle.std.proofs.Common.{sym, subst}
use Rattle.queue_table.specs.Tabled.{HasKeys}
use Rattle.queue_table.proofs.key_queues.KeyQueues.reserve.Goals as goal

pub invariant_of-self : goal.invariant_of-self
invariant_of-self g c = subst HasKeys (sym c.reserve.ensures.queues) c.self.invariant
