-- SIEVE as its paper lists it: one queue, and a hand that points at a key of it, or nowhere. (Zhang and others, NSDI
-- 2024, algorithm 1.) A cache by two lists has the same outcomes.
use Rattle.std.specs.Prelude.{ℕ, zero, suc, nat_lt, if◌then◌else◌, eqb, Option, Some, None, List, [], ◌∷◌, ◌++◌, length}
use Rattle.engine_base.specs.Keys.{has_key}
use Rattle.engine_base.specs.declared.outcome.Outcome.{Outcome}
use Rattle.engine_base.specs.declared.outcome.Outcome.TheVariants.{Hit, Kept, Evicted}
use Rattle.queue_table.specs.Items.{oldest_of}
use Rattle.policy_pages.specs.CountedKeys.{CountedKey, uncounted_key, keys_of, count_of, with_count, total_count}

-- the queue, oldest first
pub record SieveListing : Type 0 where
  pub queue : List CountedKey
  pub hand : Option ℕ

abbrev pub empty_listing : SieveListing
empty_listing = record { queue = []; hand = None }

-- the key right after k, which is newer
abbrev pub newer_than : ℕ → List CountedKey → Option ℕ
newer_than k [] = None
newer_than k (e ∷ l) = if eqb k e.key then oldest_of (keys_of l) else newer_than k l

-- the key that is pointed at, and the oldest where the hand points nowhere
abbrev pub key_or_oldest : Option ℕ → List CountedKey → ℕ
key_or_oldest (Some k) queue = k
key_or_oldest None [] = 0
key_or_oldest None (e ∷ queue) = e.key

-- from k on, while the key's bit is set, it is cleared, and the next newer key is looked at: at most n keys
abbrev pub scan_within : ℕ → ℕ → List CountedKey → ℕ × List CountedKey
scan_within zero k queue = (k, queue)
scan_within (suc n) k queue =
    if eqb (count_of k queue) 0
    then (k, queue)
    else scan_within n (key_or_oldest (newer_than k queue) queue) (with_count k 0 queue)

abbrev pub queue_without : ℕ → List CountedKey → List CountedKey
queue_without k [] = []
queue_without k (e ∷ l) = if eqb k e.key then l else e ∷ queue_without k l

-- the key v leaves, and the hand points at the next newer one; then k joins
abbrev pub listing_eviction : ℕ → ℕ → List CountedKey → Outcome × SieveListing
listing_eviction k v queue =
    (Evicted v, record { queue = queue_without v queue ++ uncounted_key k ∷ []; hand = newer_than v queue })

-- where the scan of a full cache ends
abbrev pub scan_end : SieveListing → ℕ × List CountedKey
scan_end s = scan_within (total_count s.queue) (key_or_oldest s.hand s.queue) s.queue

-- an access to k at capacity c: its outcome, and the state after it
abbrev pub listing_act : ℕ → ℕ → SieveListing → Outcome × SieveListing
listing_act c k s =
    if has_key k (keys_of s.queue)
    then (Hit, record { queue = with_count k 1 s.queue; hand = s.hand })
    else if nat_lt (length (keys_of s.queue)) c
    then (Kept, record { queue = s.queue ++ uncounted_key k ∷ []; hand = s.hand })
    else listing_eviction k (scan_end s).0 (scan_end s).1
