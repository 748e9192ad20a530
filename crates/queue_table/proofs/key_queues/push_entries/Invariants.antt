use Rattle.std.proofs.Common.{◌≡◌, ◌<◌, ◌++◌, ℕ, take}
use Rattle.queue_table.specs.Entries.{items_of}
use Rattle.queue_table.specs.Queues.{QUEUES}
use Rattle.queue_table.specs.QueueTable.{queues}
use Rattle.queue_table.proofs.key_queues.push_entries.Given as goal

abbrev pub invariant-loop-item : goal.invariant-loop-item
invariant-loop-item g l =
    (q : ℕ) → q < QUEUES → l.items ≡ items_of (queues l.table q) → l.entries.items ≡ l.initial.entries.items ++ take l.item-index (queues l.table q)
