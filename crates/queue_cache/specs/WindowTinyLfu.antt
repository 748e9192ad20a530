-- W-TinyLFU: a window of Lru before a main part of segmented LRU. A new key joins the window. Where the window is over
-- its size, its oldest key is the candidate: it joins probation, and in a full cache it takes the place of the oldest
-- there only where its approximate access frequency is higher; else the candidate is rejected. The main part holds
-- main_percent of the capacity, and protected 80 percent of that. (Caffeine's Design page; the filter: TinyLFU, 2017.)
use Rattle.std.specs.Prelude.{true}
use Rattle.queue_cache.specs.declared.design.QueueDesign.{QueueDesign}
use Rattle.queue_cache.specs.declared.design.Layout.TheVariants.{ThreeQueues}

abbrev pub window_tiny_lfu : QueueDesign
window_tiny_lfu = record { layout = ThreeQueues; counts_keys = true }
