-- Which policies of queues ignore what keys are called.
use Rattle.std.specs.Prelude.{◌≡◌, false}
use Rattle.demand_cache.specs.Names.{IgnoresNames}
use Rattle.queue_cache.specs.declared.design.QueueSetup.{QueueSetup}
use Rattle.queue_cache.specs.QueueCache.{queue_machine}

-- Those that count no keys, as LRU and segmented LRU.
abbrev pub QueuesIgnoreNames : Type 0
QueuesIgnoreNames = (s : QueueSetup) → s.design.counts_keys ≡ false → IgnoresNames (queue_machine s)
