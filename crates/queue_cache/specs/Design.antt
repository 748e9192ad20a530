-- What a policy of queues goes by, on a configuration. The design of each policy stands in the module of its name, with
-- the source.
use Rattle.std.specs.Prelude.{◌≡◌, false, List}
pub use Rattle.engine_base.specs.declared.config.Config.{Config}
use Rattle.segments.specs.NamedQueue.{NamedQueueData}
use Rattle.segments.specs.SegmentQueues.{one_queue, two_queues, three_queues}
use Rattle.segments.specs.Queues.{Queues}
use Rattle.segments.specs.declared.records.Queue.TheVariants.{Window, Probation}
pub use Rattle.replacement.specs.declared.rules.Placement.{Placement}
use Rattle.replacement.specs.declared.rules.Placement.TheVariants.{Direct, Windowed}
pub use Rattle.replacement.specs.declared.rules.Rules.{Rules}
use Rattle.replacement.specs.Rules as rules
use Rattle.queue_cache.specs.declared.design.Layout.{Layout}
use Rattle.queue_cache.specs.declared.design.Layout.TheVariants.{OneQueue, TwoQueues, ThreeQueues}
use Rattle.queue_cache.specs.declared.design.QueueDesign.{QueueDesign}
use Rattle.queue_cache.specs.declared.design.QueueSetup.{QueueSetup}

-- the rules for a configuration
abbrev pub rules_by : Layout → Config → Rules
rules_by OneQueue c = rules.one_queue c
rules_by TwoQueues c = rules.two_queues c
rules_by ThreeQueues c = rules.three_queues c

-- where a new item goes
abbrev pub placement_by : Layout → Placement
placement_by OneQueue = Direct Window
placement_by TwoQueues = Direct Probation
placement_by ThreeQueues = Windowed

-- the queues under their names
abbrev pub named_in : Layout → Queues → List NamedQueueData
named_in OneQueue s = one_queue s
named_in TwoQueues s = two_queues s
named_in ThreeQueues s = three_queues s

-- the rules of a cache
abbrev pub rules_of : QueueSetup → Rules
rules_of s = rules_by s.design.layout s.config

-- Code that is compiled for a design serves a cache of the design own: the queues are the same, and it counts keys where
-- the cache counts them.
pub record CoversDesign (compiled own : QueueDesign) : Type 0 where
  pub layout : own.layout ≡ compiled.layout
  pub counts : compiled.counts_keys ≡ false → own.counts_keys ≡ false
