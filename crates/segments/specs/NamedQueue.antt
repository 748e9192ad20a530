-- A queue under its name, with its keys, oldest first, each with the number that the policy keeps beside it.
use Rattle.std.specs.Prelude.{ℕ, Option, Some, None, List, map}
pub use Rattle.segments.specs.declared.named_queue.QueueKey.{QueueKey}

pub record NamedQueueData : Type 0 where
  pub name : List ℕ
  pub keys : List QueueKey

-- a key with no number beside it
abbrev pub plain_key : ℕ → QueueKey
plain_key k = record { key = k; number = None }

-- a key with a number beside it
abbrev pub numbered_key : ℕ → ℕ → QueueKey
numbered_key k n = record { key = k; number = Some n }

-- keys with no numbers, under a name
abbrev pub plain_queue : List ℕ → List ℕ → NamedQueueData
plain_queue name keys = record { name = name; keys = map plain_key keys }
