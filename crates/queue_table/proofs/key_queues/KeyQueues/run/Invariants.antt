use Rattle.std.proofs.Common.{◌≡◌, ◌-◌, ℕ}
use Rattle.queue_table.specs.declared.records.Entry.{Entry}
use Rattle.queue_table.specs.Entries.{occurrences}
use Rattle.queue_table.specs.QueueTable.{queues, spare, HoldsAt}
use Rattle.queue_table.proofs.Runs.{IsRunning}
use Rattle.queue_table.proofs.key_queues.KeyQueues.run.Given as goal

abbrev pub invariant-loop-times : goal.invariant-loop-times
invariant-loop-times g l =
    IsRunning l.fn.from l.fn.to l.fn.less l.fn.least l.fn.most l.times (queues l.fn.self) (queues l.self)
    × ((spare l.self ≡ spare l.fn.self)
    × ((j : ℕ) (e : Entry) → HoldsAt j e l.fn.self → occurrences e.item (queues l.fn.self l.fn.from) ≡ 0
    → HoldsAt j e l.self × (occurrences e.item (queues l.self l.fn.from) ≡ 0)))

abbrev pub decreases-loop-times : goal.decreases-loop-times
decreases-loop-times g l = l.fn.most - l.times
