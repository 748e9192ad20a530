-- In which of the queues under their names a key stands, and from which one it leaves by an access.
use Rattle.std.specs.Prelude.{ℕ, suc, ◌==◌, Bool, false, if◌then◌else◌, Option, Some, None, option_and_then, List, [], ◌∷◌, map}
pub use Rattle.engine_base.specs.declared.outcome.Outcome.{Outcome}
use Rattle.engine_base.specs.declared.outcome.Outcome.TheVariants.{Hit, Kept, Evicted, Rejected}
use Rattle.engine_base.specs.Keys.{has_key}
use Rattle.segments.specs.NamedQueue.{NamedQueueData}
use Rattle.segments.specs.declared.named_queue.QueueKey.{QueueKey}

-- the key is among those of the queue
abbrev pub has_named : ℕ → NamedQueueData → Bool
has_named k q = has_key k (map (λ (e : QueueKey). e.key) q.keys)

-- the number of the first of the queues that has the key, where they are counted from n
abbrev pub row_from : ℕ → ℕ → List NamedQueueData → Option ℕ
row_from n k [] = None
row_from n k (q ∷ queues) = if has_named k q then Some n else row_from (suc n) k queues

-- where they are counted from 0
abbrev pub row_of : ℕ → List NamedQueueData → Option ℕ
row_of k queues = row_from 0 k queues

-- the key that leaves by an access of this outcome, or that is not kept
abbrev pub left_key : Outcome → Option ℕ
left_key Hit = None
left_key Kept = None
left_key (Evicted k) = Some k
left_key (Rejected k) = Some k

-- the number of the queue that it leaves, by the queues before the access
abbrev pub row_left : Outcome → List NamedQueueData → Option ℕ
row_left o queues = option_and_then (λ k. row_of k queues) (left_key o)

-- there is a number, and it is n
abbrev pub is_number : ℕ → Option ℕ → Bool
is_number n None = false
is_number n (Some m) = m == n
