-- The queues of a policy over a trace once the first accesses are made: by the policy's definition.
use Rattle.std.specs.Prelude.{ℕ, List, take}
use Rattle.engine_base.specs.Machine.{after}
use Rattle.clairvoyant.specs.Clairvoyant.{clairvoyant_at}
use Rattle.clairvoyant.specs.NextAccesses.{clairvoyant_queues}
use Rattle.demand_cache.specs.DemandQueues.{queues_named}
pub use Rattle.segments.specs.NamedQueue.{NamedQueueData}
use Rattle.segments.specs.SegmentQueues.{three_queues}
use Rattle.policies.specs.AnyPolicy.{Job, adaptive_engine, demand_engine, queues_engine}
use Rattle.policies.specs.Design.{design_of}
use Rattle.policies.specs.declared.design.Design.{Design}
use Rattle.policies.specs.declared.design.Design.TheVariants.{KnowsTrace, Queues, Demand, Adaptive}
use Rattle.queue_cache.specs.Design.{named_in}

abbrev pub queues_by : Design → Job → List ℕ → ℕ → List NamedQueueData
queues_by (Queues q) j trace n = named_in q.layout (after (queues_engine q j) (take n trace)).queues
queues_by KnowsTrace j trace n = clairvoyant_queues (clairvoyant_at j.config.capacity trace n)
queues_by (Demand p) j trace n = queues_named (after (demand_engine p j) (take n trace)).queues
queues_by Adaptive j trace n = three_queues (after (adaptive_engine j) (take n trace)).window.queues

-- the queues under their names, after the first n accesses
abbrev pub queues_at : Job → List ℕ → ℕ → List NamedQueueData
queues_at j trace n = queues_by (design_of j) j trace n
