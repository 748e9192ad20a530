use Rattle.std.proofs.Common.{◌∙◌, ap, sym}
use Rattle.queue_table.specs.QueueTable.{queues}
use Rattle.queue_table.specs.Undoing.{before_departure}
use Rattle.queue_table.proofs.undo.KeyQueues.undo_left.Goals as goal

pub returns-in-Sent-clause-queues : goal.returns-in-Sent-clause-queues
returns-in-Sent-clause-queues c = c.put_back.ensures.queues ∙ sym (ap (λ b. before_departure b c.args.done (queues c.args.self.now)) c.in-Sent.is)

pub returns-in-Out-clause-queues : goal.returns-in-Out-clause-queues
returns-in-Out-clause-queues c = c.put_back-in-Out.ensures.queues ∙ sym (ap (λ b. before_departure b c.args.done (queues c.args.self.now)) c.in-Out.is)
