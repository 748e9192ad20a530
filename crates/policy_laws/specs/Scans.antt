-- Scan resistance: keys that come once do not push out keys that came again.
use Rattle.std.specs.Prelude.{◌≡◌, ◌⊎◌, ℕ, false, List, [], ◌∷◌, ◌++◌}
use Rattle.engine_base.specs.Keys.{has_key}
use Rattle.segments.specs.Queues.{residents_in}
use Rattle.queue_cache.specs.SegmentedLru.{segmented_lru}
use Rattle.queue_cache.specs.TinyLfu.{tiny_lfu}
use Rattle.queue_cache.specs.declared.design.QueueSetup.{QueueSetup}
use Rattle.queue_cache.specs.QueueCache.{state_after}

-- the keys are accessed once each, and none of them is resident when the scan begins
abbrev pub IsScan : List ℕ → List ℕ → Type 0
IsScan residents [] = Unit {0}
IsScan residents (k ∷ ks) = (has_key k residents ≡ false) × (has_key k ks ≡ false) × IsScan residents ks

-- Whatever a cache of segmented Lru has accessed before, with the admission filter or without, a scan of any length
-- leaves its protected queue as it was. (A key goes to protected by a hit; why the policy has the queue.)
abbrev pub ScansSpareProtected : Type 0
ScansSpareProtected = (s : QueueSetup) (keys scan : List ℕ)
    → (s.design ≡ segmented_lru) ⊎ (s.design ≡ tiny_lfu segmented_lru)
    → IsScan (residents_in (state_after s keys).queues) scan
    → (state_after s (keys ++ scan)).queues.protected ≡ (state_after s keys).queues.protected
