use Rattle.std.proofs.Common.{sym}
use Rattle.queue_table.proofs.Laws.{tabled-in}
use Rattle.queue_table.proofs.key_queues.KeyQueues.tabled.Goals as goal

pub returns : goal.returns
returns g c = rw (sym c.self.view_is) (tabled-in c.self.inside.table c.self.invariant c.distinct.ensures)
