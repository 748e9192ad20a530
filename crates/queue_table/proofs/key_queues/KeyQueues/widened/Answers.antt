use Rattle.std.proofs.Common.{ap, ◌∙◌}
use Rattle.queue_table.specs.QueueTable.{queues}
use Rattle.queue_table.specs.Tabled.{nodes_of}
use Rattle.queue_table.proofs.key_queues.KeyQueues.widened.Goals as goal

pub invariant_of-result : goal.invariant_of-result
invariant_of-result g c = λ q. ap (λ s. nodes_of (queues s q)) c.in_ok-table.ensures ∙ c.self.invariant q
