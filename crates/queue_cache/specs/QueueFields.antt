-- What ties the fields of a cache of queues to what it shows.
use Rattle.std.specs.Prelude.{◌≡◌, Option}
use Rattle.engine_base.specs.declared.stats.Stats.{Stats}
use Rattle.admission.specs.Frequency.{FrequencyData}
use Rattle.queue_cache.specs.Design.{Rules, rules_of}
use Rattle.queue_cache.specs.QueueCache.{QueueSetup}
use Rattle.queue_cache.specs.QueueStep.{IsRunning}

-- the rules are those of the design on the configuration
pub record IsHolding (s : QueueSetup) (r : Rules) (f : Option FrequencyData) (t : Stats) : Type 0 where
  pub rules : r ≡ rules_of s
  pub running : IsRunning s f t
