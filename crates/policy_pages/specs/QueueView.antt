-- A queue of entries as a queue of keys with counts, and that under a name.
use Rattle.std.specs.Prelude.{ℕ, List, map}
use Rattle.queue_table.specs.declared.records.Entry.{Entry}
use Rattle.segments.specs.NamedQueue.{NamedQueueData, numbered_key}
use Rattle.policy_pages.specs.CountedKeys.{CountedKey}

abbrev pub counted_key : Entry → CountedKey
counted_key e = record { key = e.item.key; count = e.count }

abbrev pub counted_keys : List Entry → List CountedKey
counted_keys l = map counted_key l

abbrev pub counted_queue : List ℕ → List CountedKey → NamedQueueData
counted_queue name l = record { name = name; keys = map (λ (e : CountedKey). numbered_key e.key e.count) l }
