use Rattle.std.proofs.Common.{◌≡◌, map, take}
use Rattle.queue_table.specs.QueueTable.{queues}
use Rattle.demand_cache.specs.QueueRow.{named_row}
use Rattle.demand_cache.proofs.demand_cache.DemandCache.named_queues.Given as goal

abbrev pub invariant-loop-row : goal.invariant-loop-row
invariant-loop-row l =
    l.named.items ≡ map (named_row l.self-inside.own_number (queues l.self-inside.queues)) (take l.row-index l.row-items)
