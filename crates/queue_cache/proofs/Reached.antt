-- What a cache of queues shows after a list of accesses, and what its fields say of it.
use Rattle.std.proofs.lemmas.Bool.Decides.{nat_tests}
use Rattle.std.proofs.Common.{◌≡◌, ℕ, ◌+◌, ◌≤◌, Bool, Option, Ok, List, [], ◌∷◌, ◌++◌, ap, ◌∙◌, sym, refl, arith, append-nil, add-zero}
use Rattle.std.proofs.lemmas.List.{append_assoc}
use Rattle.engine_base.specs.Config.{config_fault}
use Rattle.engine_base.specs.Machine.{state_after_all}
use Rattle.engine_base.specs.Pace.{words_of_halvings}
use Rattle.engine_base.specs.Stats.{stats_of}
use Rattle.engine_base.proofs.Limited.{accepted}
use Rattle.engine_base.proofs.Machine.{next}
use Rattle.segments.specs.Queues.{Queues, empty_queues}
use Rattle.admission.specs.FreqRecord.{size_of}
use Rattle.admission.specs.Frequency.{FrequencyData, frequency_of}
use Rattle.admission.proofs.Recording.{recorded_freq}
use Rattle.admission.proofs.Weighing.{halvings_bounded, weight_falls}
use Rattle.replacement.specs.Shape.{Config, shape_of}
use Rattle.replacement.proofs.Shape.{shape-is}
use Rattle.queue_cache.specs.QueueCache.{QueueSetup, QueueState, recorded_in, queue_access, frequency_by, frequency_after, empty_queue_state, queue_machine, state_after, outcome_after, StandsFor}
use Rattle.queue_cache.specs.QueueStep.{FreqRecord, FitsCounting, IsRunning, halvings_in, unrecorded, pace_by}
use Rattle.queue_cache.specs.Theorems.{QueuesStepLaw, FrequencyIsOfAccesses}

pub has-room : (c : Config) → config_fault c ≡ Ok tt → 1 ≤ c.capacity
has-room c h = grind (arith, nat_tests)

-- ---- the frequency

-- recording the key in the frequency of the accesses gives that of one more
recorded-by : (b : Bool) (c : Config) (keys : List ℕ) (k : ℕ) → 1 ≤ c.capacity → recorded_in k (frequency_by b (shape_of c) keys) ≡ frequency_by b (shape_of c) (keys ++ k ∷ [])
recorded-by v c keys k some = grind (arith, nat_tests, shape-is, recorded_freq)

module _ (s : QueueSetup) (some : 1 ≤ s.config.capacity) where
  from-frequency : (past : List ℕ) (d : QueueState) (keys : List ℕ) → d.frequency ≡ frequency_after s past
      → (state_after_all queue_access d keys).frequency ≡ frequency_after s (past ++ keys)
  from-frequency past d [] h = rw (append-nil past) h
  from-frequency past d (k ∷ keys) h =
      from-frequency (past ++ k ∷ []) (queue_access k d).1 keys (ap (recorded_in k) h ∙ recorded-by s.design.counts_keys s.config past k some)
      ∙ rw (append_assoc past (k ∷ []) keys) refl

  pub after-frequency : (keys : List ℕ) → (state_after s keys).frequency ≡ frequency_after s keys
  after-frequency keys = from-frequency [] (empty_queue_state s) keys refl

pub stands-frequency : FrequencyIsOfAccesses
stands-frequency s keys d h = ap (λ (x : QueueState). x.frequency) h.gives ∙ after-frequency s (has-room s.config h.checked) keys

-- ---- one access more

module _ (s : QueueSetup) (keys : List ℕ) (d : QueueState) (h : StandsFor s keys d) where
  pub stands-step : (k : ℕ) → StandsFor s (keys ++ k ∷ []) (queue_access k d).1
  stands-step k = record { checked = h.checked; gives = ap (λ x. (queue_access k x).1) h.gives ∙ sym (next (queue_machine s) keys k) }

  pub stands-outcome : (k : ℕ) → (queue_access k d).0 ≡ outcome_after s keys k
  stands-outcome k = ap (λ x. (queue_access k x).0) h.gives

-- what an accepted step does is what the list of accesses says
pub act_stands : QueuesStepLaw
act_stands s keys d k o e h step = grind (arith, nat_tests, accepted, stands-outcome, stands-step)

-- a cache that made no access
pub first-stands : (s : QueueSetup) (f : Option FrequencyData) (q : Queues) → config_fault s.config ≡ Ok tt → f ≡ frequency_after s [] → q ≡ empty_queues
    → StandsFor s [] record { setup = s; queues = q; frequency = f; stats = stats_of [] }
first-stands s f q h g e = record { checked = h; gives = rw (e, g) refl }

-- ---- the counts

none-halved : (b : Bool) (c : Config) → 1 ≤ c.capacity → halvings_in (frequency_by b (shape_of c) []) ≤ 0
unfolding frequency_of
none-halved v c some = grind (arith, nat_tests, halvings_bounded)

pub first-running : (s : QueueSetup) (f : Option FrequencyData) → config_fault s.config ≡ Ok tt → f ≡ frequency_after s [] → IsRunning s f (stats_of [])
first-running s f h g = rw g (grind (arith, nat_tests, none-halved, has-room))

-- the words of a record of the frequency
pub counting-weighs : (r : FreqRecord) (g : Option FrequencyData) → FitsCounting r g → words_of_halvings (pace_by g) ≡ words_of_halvings (pace_by (unrecorded r g)) + size_of r
counting-weighs r v h = grind (arith, nat_tests, add-zero, weight_falls)
