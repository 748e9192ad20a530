-- Segmented LRU, with no filter: two queues, probation and protected, which holds 80 percent of the capacity. A new key
-- joins probation, and in a full cache the oldest there leaves for it; a hit takes its key to protected, and where that
-- is then over its size, its oldest goes back to probation. (The main part of TinyLFU, 2017.)
use Rattle.std.specs.Prelude.{false}
use Rattle.queue_cache.specs.declared.design.QueueDesign.{QueueDesign}
use Rattle.queue_cache.specs.declared.design.Layout.TheVariants.{TwoQueues}

abbrev pub segmented_lru : QueueDesign
segmented_lru = record { layout = TwoQueues; counts_keys = false }
