-- Lru or segmented LRU behind an admission filter: keys are counted, and in a full cache a new key takes the place of
-- the key that would leave only where its approximate access frequency is higher; else the new key is rejected.
-- (TinyLFU, 2017.)
use Rattle.std.specs.Prelude.{true}
use Rattle.queue_cache.specs.declared.design.QueueDesign.{QueueDesign}

-- the policy behind the filter, with its keys counted
abbrev pub tiny_lfu : QueueDesign → QueueDesign
tiny_lfu behind = record { layout = behind.layout; counts_keys = true }
