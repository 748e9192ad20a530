-- The least recently used policy, over a whole list of accesses: a cache holds the last distinct keys in order of last
-- access. (The textbook definition of Lru.)
use Rattle.std.specs.Prelude.{ℕ, ◌-◌, nat_lt, Bool, false, ◌&&◌, if◌then◌else◌, List, [], ◌∷◌, length, drop}
use Rattle.engine_base.specs.Keys.{has_key}
pub use Rattle.engine_base.specs.declared.outcome.Outcome.{Outcome}
use Rattle.engine_base.specs.declared.outcome.Outcome.TheVariants.{Hit, Kept, Evicted}
pub use Rattle.queue_cache.specs.declared.design.QueueDesign.{QueueDesign}
use Rattle.queue_cache.specs.declared.design.Layout.TheVariants.{OneQueue}

-- ---- over the accesses

-- the distinct keys, in order of last access
abbrev pub distinct_keys : List ℕ → List ℕ
distinct_keys [] = []
distinct_keys (a ∷ xs) = if has_key a xs then distinct_keys xs else a ∷ distinct_keys xs

-- what came after the last access to k, which is among the accesses
abbrev pub keys_since : ℕ → List ℕ → List ℕ
keys_since k [] = []
keys_since k (a ∷ xs) = if has_key k xs then keys_since k xs else xs

-- the last c of the distinct keys
abbrev pub lru_residents : ℕ → List ℕ → List ℕ
lru_residents c xs = drop (length (distinct_keys xs) - c) (distinct_keys xs)

-- k came before, and fewer than c distinct other keys came since
abbrev pub is_lru_hit : ℕ → List ℕ → ℕ → Bool
is_lru_hit c xs k = has_key k xs && nat_lt (length (distinct_keys (keys_since k xs))) c

abbrev pub first_or : ℕ → List ℕ → ℕ
first_or d [] = d
first_or d (a ∷ xs) = a

-- the outcome of an access to k after the accesses xs, at capacity c
abbrev pub lru_outcome : ℕ → List ℕ → ℕ → Outcome
lru_outcome c xs k =
    if is_lru_hit c xs k
    then Hit
    else if nat_lt (length (distinct_keys xs)) c then Kept else Evicted (first_or 0 (lru_residents c xs))

-- ---- as a policy of queues

-- one queue, and no filter
abbrev pub lru : QueueDesign
lru = record { layout = OneQueue; counts_keys = false }
