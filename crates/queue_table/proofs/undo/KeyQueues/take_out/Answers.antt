use Rattle.std.proofs.Common.{sym, subst}
use Rattle.queue_table.specs.Tabled.{HasKeys}
use Rattle.queue_table.proofs.Laws.{tabled-in}
use Rattle.queue_table.proofs.Tabled.{tabled-removal}
use Rattle.queue_table.proofs.undo.KeyQueues.take_out.Goals as goal

pub invariant_of-self : goal.invariant_of-self
invariant_of-self c =
    subst HasKeys (sym c.remove.ensures.queues) (tabled-removal _ (tabled-in c.self.inside.table c.self.invariant c.find.ensures.distinct) _).keys
