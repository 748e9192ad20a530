-- What a policy shows under a name, from its queues by number and its own number.
use Rattle.std.specs.Prelude.{◌≡◌, ℕ, ◌<◌, Option, List, [], ◌∷◌, map}
use Rattle.engine_base.specs.Keys.{has_key}
use Rattle.segments.specs.KeyRow.{is_number}
use Rattle.segments.specs.NamedQueue.{NamedQueueData, numbered_key, plain_queue}
use Rattle.segments.specs.declared.named_queue.QueueKey.{QueueKey}
use Rattle.policy_pages.specs.QueueView.{counted_keys, counted_queue}
use Rattle.policy_pages.specs.CountedKeys.{CountedKey}
use Rattle.queue_table.specs.declared.records.Entry.{Entry}
use Rattle.queue_table.specs.Tabled.{keys_of}
use Rattle.queue_table.specs.Queues.{QUEUES, Queues}
pub use Rattle.demand_cache.specs.declared.demand_policy.QueueRow.{QueueRow}
use Rattle.demand_cache.specs.declared.demand_policy.QueueRow.TheVariants.{Keys, Counts, OwnNumber}

-- the keys of entries, each with its count
abbrev pub numbered_keys : List Entry → List QueueKey
numbered_keys l = map (λ (e : CountedKey). numbered_key e.key e.count) (counted_keys l)

abbrev pub named_row : ℕ → Queues → QueueRow → NamedQueueData
named_row x s (Keys name q) = plain_queue name.now (keys_of (s q))
named_row x s (Counts name q) = counted_queue name.now (counted_keys (s q))
named_row x s (OwnNumber name) = plain_queue name.now (x ∷ [])

-- the queue is one of those that there are
abbrev pub IsLowRow : QueueRow → Type 0
IsLowRow (Keys name q) = q < QUEUES
IsLowRow (Counts name q) = q < QUEUES
IsLowRow (OwnNumber name) = Unit {0}

-- the key stands in this one of the queues by number and in no other, or in none
abbrev pub IsQueueOf : ℕ → Queues → Option ℕ → Type 0
IsQueueOf k s o = (q : ℕ) → has_key k (keys_of (s q)) ≡ is_number q o
