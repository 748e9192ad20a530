-- What single traces show: Belady's anomaly, and policies that are not conservative.
use Rattle.std.specs.Prelude.{◌≡◌, ◌⊎◌, ℕ, ◌≤◌, List, [], ◌∷◌}
use Rattle.step_record.specs.declared.job.Policy.TheVariants.{Fifo, Clock, Sieve, S3Fifo}
use Rattle.engine_base.specs.declared.limits.TheConstants.{MAX_PART_PERCENT}
use Rattle.policies.specs.AnyPolicy.{Job, stats_on}
use Rattle.conservative_laws.specs.Conservative.{misses_on, IsConservative}

-- FIFO and CLOCK may miss more often in a larger cache: 9 of these accesses at capacity 3, and 10 at capacity 4.
-- (Belady, Nelson and Shedler 1969.)
abbrev pub anomalous_trace : List ℕ
anomalous_trace = 1 ∷ 2 ∷ 3 ∷ 4 ∷ 1 ∷ 2 ∷ 5 ∷ 1 ∷ 2 ∷ 3 ∷ 4 ∷ 5 ∷ []

abbrev pub FifoAndClockHaveAnomaly : Type 0
FifoAndClockHaveAnomaly = (small large : Job) → (small.policy ≡ Fifo) ⊎ (small.policy ≡ Clock)
    → large.policy ≡ small.policy → small.config.capacity ≡ 3 → large.config.capacity ≡ 4
    → ((stats_on small anomalous_trace).misses ≡ 9) × ((stats_on large anomalous_trace).misses ≡ 10)

-- SIEVE and S3-FIFO are not conservative: the last three accesses are to two keys, and a cache of two keys misses all
-- of them, since a key that was accessed before outlives those that come new. (S3-FIFO where its small queue is not to
-- have all keys.)
abbrev pub sieve_trace : List ℕ
sieve_trace = 1 ∷ 1 ∷ 2 ∷ 3 ∷ 2 ∷ []

abbrev pub SieveIsNotConservative : Type 0
SieveIsNotConservative = (j : Job) → j.policy ≡ Sieve → j.config.capacity ≡ 2
    → IsConservative 2 sieve_trace (misses_on j sieve_trace) → ⊥

abbrev pub s3_fifo_trace : List ℕ
s3_fifo_trace = 1 ∷ 1 ∷ 1 ∷ 2 ∷ 3 ∷ 2 ∷ []

abbrev pub S3FifoIsNotConservative : Type 0
S3FifoIsNotConservative = (j : Job) → j.policy ≡ S3Fifo → j.config.capacity ≡ 2 → j.tuning.small ≤ MAX_PART_PERCENT
    → IsConservative 2 s3_fifo_trace (misses_on j s3_fifo_trace) → ⊥
