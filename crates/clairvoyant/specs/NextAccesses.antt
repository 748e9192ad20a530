-- When the keys of a cache that knows its trace come next.
use Rattle.std.specs.Prelude.{ℕ, ◌==◌, if◌then◌else◌, List, [], ◌∷◌, codes, map}
use Rattle.segments.specs.NamedQueue.{NamedQueueData, numbered_key}
use Rattle.segments.specs.declared.named_queue.QueueKey.{QueueKey}
use Rattle.trace_index.specs.Uses.{next_from, number_of}
use Rattle.clairvoyant.specs.Clairvoyant.{ClairvoyantState}

-- a key with the access, counted from 1, at which it comes next once the accesses below place i are made, 0 for never
abbrev pub with_next : List ℕ → ℕ → ℕ → QueueKey
with_next t i k = numbered_key k (number_of (next_from t i k))

-- the keys, with this number beside x, where x is among them
abbrev pub renumbered : ℕ → ℕ → List QueueKey → List QueueKey
renumbered x n l = map (λ (e : QueueKey). if e.key == x then numbered_key x n else e) l

-- the keys in ascending order, each with its next access
abbrev pub next_accesses : ClairvoyantState → List QueueKey
next_accesses d = map (with_next d.trace d.stats.accesses) d.residents

abbrev pub clairvoyant_queues : ClairvoyantState → List NamedQueueData
clairvoyant_queues d = record { name = codes "next"; keys = next_accesses d } ∷ []
