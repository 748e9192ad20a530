use Rattle.std.proofs.Common.{ap}
use Rattle.queue_table.specs.Queues.{Queues}
use Rattle.queue_table.specs.Tabled.{nodes_of}
use Rattle.queue_table.proofs.key_queues.KeyQueues.for_items.Goals as goal

pub invariant_of-result : goal.invariant_of-result
invariant_of-result g c = λ q. ap (λ (s : Queues). nodes_of (s q)) c.for_items.ensures.queues
