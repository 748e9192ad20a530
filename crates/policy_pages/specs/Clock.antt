-- CLOCK, or second chance (Corbató 1969): an access sets its key's reference bit, also the access that brings the key
-- in. In a full cache the oldest key, while its bit is set, goes to the recent end with the bit cleared; then the
-- oldest leaves. A bit is a count of 0 or 1.
use Rattle.std.specs.Prelude.{ℕ, nat_lt, if◌then◌else◌, List, [], ◌∷◌, ◌++◌, length}
use Rattle.engine_base.specs.Keys.{has_key}
use Rattle.engine_base.specs.declared.outcome.Outcome.TheVariants as outcome
use Rattle.policy_pages.specs.Residents.{Outcome, AreResidents}
use Rattle.policy_pages.specs.CountedKeys.{CountedKey, keys_of, with_count, AreCounted}
use Rattle.policy_pages.specs.Turns.{turn_count, after_turns}

-- a key as it joins the queue
abbrev pub marked_key : ℕ → CountedKey
marked_key k = record { key = k; count = 1 }

-- k comes to a full cache, once all turns are made: the oldest key leaves
abbrev pub clock_eviction : ℕ → List CountedKey → Outcome × List CountedKey
clock_eviction k [] = (outcome.Kept, marked_key k ∷ [])
clock_eviction k (e ∷ queue) = (outcome.Evicted e.key, queue ++ marked_key k ∷ [])

-- an access to k at capacity c: its outcome, and the queue after it
abbrev pub clock_act : ℕ → ℕ → List CountedKey → Outcome × List CountedKey
clock_act c k queue =
    if has_key k (keys_of queue)
    then (outcome.Hit, with_count k 1 queue)
    else if nat_lt (length queue) c
    then (outcome.Kept, queue ++ marked_key k ∷ [])
    else clock_eviction k (after_turns (turn_count queue) queue)

-- a queue of a cache of capacity c
pub record IsClock (c : ℕ) (queue : List CountedKey) : Type 0 where
  pub residents : AreResidents c (keys_of queue)
  pub bits : AreCounted 1 queue
