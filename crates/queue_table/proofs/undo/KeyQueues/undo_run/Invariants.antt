use Rattle.queue_table.specs.QueueTable.{queues}
use Rattle.queue_table.proofs.Runs.{IsBack}
use Rattle.queue_table.proofs.undo.KeyQueues.undo_run.Given as goal

abbrev pub invariant-loop-turn : goal.invariant-loop-turn
invariant-loop-turn l = IsBack l.fn.done.from l.fn.done.to l.fn.done.less l.fn.done.times l._turn (queues l.fn.self) (queues l.self)
