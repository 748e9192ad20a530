use Rattle.queue_table.specs.QueueTable.{queues}
use Rattle.demand_cache.proofs.KeyRows.{in-queue, in-none}
use Rattle.demand_cache.proofs.demand_cache.queue_of.Goals as goal

pub returns-in-Some : goal.returns-in-Some
returns-in-Some c = in-queue c.args.key c.in-Some.found.queue c.in-Some.found.count (queues c.args.queues.now) c.tabled.ensures c.in-Some.ensures.stands

pub returns-in-None : goal.returns-in-None
returns-in-None c = in-none c.args.key (queues c.args.queues.now) c.tabled.ensures c.in-None.ensures.absent
