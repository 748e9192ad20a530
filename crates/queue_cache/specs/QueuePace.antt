-- How the frequency of a cache of queues ages with an access, as every engine promises.
use Rattle.std.specs.Prelude.{ℕ, Option, Some, None}
use Rattle.engine_base.specs.Pace.{IsPaced, still-paced}
use Rattle.admission.specs.Frequency.{FrequencyData}
use Rattle.admission.proofs.Weighing.{recorded_paced}
use Rattle.queue_cache.specs.QueueCache.{recorded_in}
use Rattle.queue_cache.specs.QueueStep.{pace_by}

pub paced-by : (k : ℕ) (f : Option FrequencyData) → IsPaced (pace_by f) (pace_by (recorded_in k f))
paced-by k None = still-paced
paced-by k (Some f) = recorded_paced f k
