-- Which engine runs each policy, and what it goes by: the one table of policies.
use Rattle.std.specs.Prelude.{ℕ, Bool, true, false}
pub use Rattle.step_record.specs.declared.job.Job.{Job}
pub use Rattle.step_record.specs.declared.job.Policy.{Policy}
use Rattle.step_record.specs.declared.job.Policy.TheVariants.{Lru, SegmentedLru, TinyLfuLru, TinyLfuSegmented}
use Rattle.step_record.specs.declared.job.Policy.TheVariants.{WindowTinyLfu, Clairvoyant, Fifo, Clock, Sieve, S3Fifo}
use Rattle.step_record.specs.declared.job.Policy.TheVariants.{TwoQ, Arc, Caffeine, Car}
use Rattle.step_record.specs.declared.job.Tuning.{Tuning}
use Rattle.engine_base.specs.PartSize.{part_size}
use Rattle.demand_cache.specs.declared.demand_policy.DemandPolicy.TheVariants as demand
use Rattle.queue_cache.specs.declared.design.QueueDesign.{QueueDesign}
use Rattle.queue_cache.specs.Lru.{lru}
use Rattle.queue_cache.specs.SegmentedLru.{segmented_lru}
use Rattle.queue_cache.specs.TinyLfu.{tiny_lfu}
use Rattle.queue_cache.specs.WindowTinyLfu.{window_tiny_lfu}
use Rattle.queue_cache.specs.declared.design.QueueSetup.{QueueSetup}
pub use Rattle.policies.specs.declared.design.Design.{Design}
use Rattle.policies.specs.declared.design.Design.TheVariants.{Queues, KnowsTrace, Demand, Adaptive}

-- the policy that a word names, with the sizes of its parts at capacity c
abbrev pub design_by : Policy → Tuning → ℕ → Design
design_by Lru t c = Queues lru
design_by SegmentedLru t c = Queues segmented_lru
design_by TinyLfuLru t c = Queues (tiny_lfu lru)
design_by TinyLfuSegmented t c = Queues (tiny_lfu segmented_lru)
design_by WindowTinyLfu t c = Queues window_tiny_lfu
design_by Clairvoyant t c = KnowsTrace
design_by Fifo t c = Demand demand.Fifo
design_by Clock t c = Demand demand.Clock
design_by Sieve t c = Demand demand.Sieve
design_by S3Fifo t c = Demand (demand.S3Fifo (part_size t.small c))
design_by TwoQ t c = Demand (demand.TwoQ record { kin = part_size t.kin c; kout = part_size t.kout c })
design_by Arc t c = Demand demand.Arc
design_by Caffeine t c = Adaptive
design_by Car t c = Demand demand.Car

-- the policy of a job
abbrev pub design_of : Job → Design
design_of j = design_by j.policy j.tuning j.config.capacity

-- whether the policy has to know the whole trace (Belady 1966)
abbrev pub knows_trace : Policy → Bool
knows_trace Clairvoyant = true
knows_trace p = false

-- a design of queues on the configuration of a job
abbrev pub queue_setup : QueueDesign → Job → QueueSetup
queue_setup q j = record { design = q; config = j.config }
