use Rattle.std.proofs.Common.{subst}
use Rattle.queue_table.specs.QueueTable.{queues}
use Rattle.demand_cache.specs.DemandPolicy.{page_of}
use Rattle.demand_cache.proofs.demand_policy.DemandPolicy.count_out.Goals as goal

pub step-requires-in-S3Fifo-clause-state : goal.step-requires-in-S3Fifo-clause-state
step-requires-in-S3Fifo-clause-state g c = subst (λ p. (page_of p).IsState c.args.capacity ((page_of p).view c.args.own_number (queues c.args.queues.now))) c.in-S3Fifo.is c.requires.state

pub step-requires-in-Arc-clause-state : goal.step-requires-in-Arc-clause-state
step-requires-in-Arc-clause-state g c = subst (λ p. (page_of p).IsState c.args.capacity ((page_of p).view c.args.own_number (queues c.args.queues.now))) c.in-Arc.is c.requires.state

pub step-requires-in-Car-clause-state : goal.step-requires-in-Car-clause-state
step-requires-in-Car-clause-state g c = subst (λ p. (page_of p).IsState c.args.capacity ((page_of p).view c.args.own_number (queues c.args.queues.now))) c.in-Car.is c.requires.state
