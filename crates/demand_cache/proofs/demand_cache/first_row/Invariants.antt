use Rattle.std.proofs.Common.{◌≡◌, drop, map}
use Rattle.queue_table.specs.Queues.{Queues}
use Rattle.segments.specs.KeyRow.{row_from, row_of}
use Rattle.demand_cache.specs.QueueRow.{IsQueueOf, named_row}
use Rattle.demand_cache.proofs.demand_cache.first_row.Given as goal

abbrev pub invariant-loop-i : goal.invariant-loop-i
invariant-loop-i l = (s : Queues) → IsQueueOf l.key s l.queue → row_from l.i l.key (map (named_row l.own_number s) (drop l.i l.rows)) ≡ row_of l.key (map (named_row l.own_number s) l.rows)
