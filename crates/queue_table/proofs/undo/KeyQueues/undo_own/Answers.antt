use Rattle.std.proofs.Common.{◌∙◌, ap, sym}
use Rattle.queue_table.specs.QueueTable.{queues}
use Rattle.queue_table.specs.Undoing.{before_change}
use Rattle.queue_table.proofs.undo.KeyQueues.undo_own.Goals as goal

pub returns-in-Moved-clause-queues : goal.returns-in-Moved-clause-queues
returns-in-Moved-clause-queues c = c.put_back.ensures.queues ∙ sym (ap (λ b. before_change b c.args.done (queues c.args.self.now)) c.in-Moved.is)
