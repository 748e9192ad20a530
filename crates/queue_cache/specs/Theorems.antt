-- What the definitions of the policies of queues promise to callers that see a cache by its steps alone.
use Rattle.std.specs.Prelude.{◌≡◌, ℕ, ◌≤◌, Some, None, option_map, List, [], ◌∷◌, ◌++◌}
use Rattle.engine_base.specs.declared.limits.TheConstants.{MAX_STEPS}
use Rattle.engine_base.specs.declared.outcome.Outcome.TheVariants.{Hit}
use Rattle.engine_base.specs.Machine.{KeepsKeys}
use Rattle.replacement.specs.PlanMoves.{leaver_in}
use Rattle.queue_cache.specs.Lru.{Outcome, lru, lru_residents, lru_outcome}
use Rattle.queue_cache.specs.SingleQueue.{single_queue}
use Rattle.queue_cache.specs.QueueCache.{QueueSetup, QueueState, access_response, queue_machine, frequency_after}
use Rattle.queue_cache.specs.QueueCache.{state_after, outcome_after, StandsFor}
use Rattle.queue_cache.specs.QueueStep.{queue_act, queue_record_of}

-- For a cache of queues that made some accesses, an accepted step answers the outcome that the definition gives after
-- all of them, and leaves a cache that made one access more.
abbrev pub QueuesStepLaw : Type 0
QueuesStepLaw = (s : QueueSetup) (keys : List ℕ) (d : QueueState) (k : ℕ) (o : Outcome) (e : QueueState)
    → StandsFor s keys d → queue_act d k ≡ Some (o, e) → (o ≡ outcome_after s keys k) × StandsFor s (keys ++ k ∷ []) e

-- Its frequency is that of all of them, where the policy counts keys.
abbrev pub FrequencyIsOfAccesses : Type 0
FrequencyIsOfAccesses = (s : QueueSetup) (keys : List ℕ) (d : QueueState) → StandsFor s keys d
    → d.frequency ≡ frequency_after s keys

-- It keeps its residents: they fit the capacity, each once; an access is a hit exactly where its key is resident, and
-- brings in no other key.
abbrev pub QueuesKeep : Type 0
QueuesKeep = (s : QueueSetup) → KeepsKeys s.config.capacity (queue_machine s)

-- It refuses a key only after MAX_STEPS accesses.
abbrev pub QueuesAccept : Type 0
QueuesAccept = (d : QueueState) (k : ℕ) → queue_act d k ≡ None → d.stats.accesses ≡ MAX_STEPS

-- The record of a hit moves nothing out of the queues, so undoing a hit is never refused.
abbrev pub HitsKeepAll : Type 0
HitsKeepAll = (d : QueueState) (k : ℕ) (e : QueueState) → queue_act d k ≡ Some (Hit, e)
    → leaver_in (queue_record_of k d).moves ≡ None

-- The item that the record of an access moves out is the one that left by the table of moves, and no other: where none
-- left, undoing the access is never refused.
abbrev pub RecordsShowLeaver : Type 0
RecordsShowLeaver = (s : QueueSetup) (keys : List ℕ) (d : QueueState) (k : ℕ) → StandsFor s keys d
    → option_map (λ l. l.item) (leaver_in (queue_record_of k d).moves) ≡ (access_response k d).left

-- For every list of accesses, a cache of Lru holds the last distinct keys, and the outcome of an access is the one that
-- the whole list gives.
abbrev pub LruStepLaw : Type 0
LruStepLaw = (s : QueueSetup) (keys : List ℕ) (k : ℕ) → s.design ≡ lru → 1 ≤ s.config.capacity
    → ((state_after s keys).queues ≡ single_queue (lru_residents s.config.capacity keys))
    × (outcome_after s keys k ≡ lru_outcome s.config.capacity keys k)
