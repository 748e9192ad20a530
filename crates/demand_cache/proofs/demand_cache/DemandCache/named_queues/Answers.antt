use Rattle.queue_table.specs.QueueTable.{queues}
use Rattle.demand_cache.proofs.Keeping.{pages-sound}
use Rattle.demand_cache.proofs.Engine.{state-shown}
use Rattle.demand_cache.proofs.demand_cache.DemandCache.named_queues.Goals as goal

pub queue_rows-row-items-requires : goal.queue_rows-row-items-requires
queue_rows-row-items-requires c = (queues c.self.inside.queues, (state-shown pages-sound c.self.inside.policy c.self.inside.capacity c.self.inside.own_number (queues c.self.inside.queues) c.tabled.ensures c.self.invariant.least c.self.invariant.queues).0)
