-- A cache of queues: the table of moves, one access after another from empty queues on, with the approximate frequency
-- of the accesses in each admission. One engine carries all policies of queues: each is a design, in the module of its
-- name.
use Rattle.std.specs.Prelude.{◌≡◌, ℕ, Bool, true, false, Option, Some, None, Ok, List, []}
pub use Rattle.engine_base.specs.declared.outcome.Outcome.{Outcome}
pub use Rattle.engine_base.specs.declared.stats.Stats.{Stats}
use Rattle.engine_base.specs.Config.{config_fault}
use Rattle.engine_base.specs.Machine.{Machine, after, outcomes}
use Rattle.engine_base.specs.Stats.{stats_of, stats_with}
use Rattle.segments.specs.Items.{nodeless_item}
use Rattle.segments.specs.Queues.{Queues, empty_queues, residents_in, IsDistinct}
use Rattle.admission.specs.Shape.{Shape}
use Rattle.admission.specs.Frequency.{FrequencyData, frequency_of, frequency_with}
use Rattle.replacement.specs.Admission.{admits_in}
use Rattle.replacement.specs.Shape.{shape_of}
use Rattle.replacement.specs.Table.{Response, access}
use Rattle.replacement.proofs.Balance.{FitsBy}
use Rattle.replacement.proofs.Residents.{AreNodeless}
pub use Rattle.queue_cache.specs.declared.design.QueueSetup.{QueueSetup}
use Rattle.queue_cache.specs.Design.{rules_of}

-- ---- the state

pub record QueueState : Type 0 where
  pub setup : QueueSetup
  pub queues : Queues
  pub frequency : Option FrequencyData
  pub stats : Stats

abbrev pub frequency_by : Bool → Shape → List ℕ → Option FrequencyData
frequency_by false s keys = None
frequency_by true s keys = Some (frequency_of s keys)

-- the frequency of the accesses, where the policy counts keys
abbrev pub frequency_after : QueueSetup → List ℕ → Option FrequencyData
frequency_after s keys = frequency_by s.design.counts_keys (shape_of s.config) keys

-- an empty cache
abbrev pub empty_queue_state : QueueSetup → QueueState
empty_queue_state s = record { setup = s; queues = empty_queues; frequency = frequency_after s []; stats = stats_of [] }

-- ---- one access

-- the frequency with the key, where keys are counted
abbrev pub recorded_in : ℕ → Option FrequencyData → Option FrequencyData
recorded_in k None = None
recorded_in k (Some f) = Some (frequency_with k f)

-- the response by the table of moves, in whose admission the frequency has the key already
abbrev pub access_response : ℕ → QueueState → Response
access_response k d = access (rules_of d.setup) (admits_in (recorded_in k d.frequency)) (nodeless_item k) d.queues

-- its outcome, and the cache after it
abbrev pub queue_access : ℕ → QueueState → Outcome × QueueState
queue_access k d = (
  (access_response k d).outcome,
  record {
    setup = d.setup;
    queues = (access_response k d).queues;
    frequency = recorded_in k d.frequency;
    stats = stats_with (access_response k d).outcome d.stats;
  },
)

-- ---- a list of accesses

-- the items stand once each, without a node, and within the sizes of the queues
pub record IsQueueState (s : QueueSetup) (d : QueueState) : Type 0 where
  pub setup : d.setup ≡ s
  pub once : IsDistinct d.queues
  pub nodeless : AreNodeless d.queues
  pub sizes : FitsBy (rules_of d.setup).placement (rules_of d.setup) d.queues

abbrev pub queue_machine : QueueSetup → Machine
queue_machine s = record {
  State = QueueState;
  start = empty_queue_state s;
  access = queue_access;
  residents = λ d. residents_in d.queues;
  IsState = IsQueueState s;
}

-- what a cache shows after the accesses
abbrev pub state_after : QueueSetup → List ℕ → QueueState
state_after s keys = after (queue_machine s) keys

-- the outcomes of the accesses, in order
abbrev pub outcomes_after : QueueSetup → List ℕ → List Outcome
outcomes_after s keys = outcomes (queue_machine s) keys

-- the outcome of an access to k after the accesses
abbrev pub outcome_after : QueueSetup → List ℕ → ℕ → Outcome
outcome_after s keys k = (queue_access k (state_after s keys)).0

-- the configuration is accepted, and the accesses are those that the cache made
pub record StandsFor (s : QueueSetup) (keys : List ℕ) (d : QueueState) : Type 0 where
  pub checked : config_fault s.config ≡ Ok tt
  pub gives : d ≡ state_after s keys
