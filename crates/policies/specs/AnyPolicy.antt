-- What a cache of any policy shows, and what a job over a trace comes to.
use Rattle.std.specs.Prelude.{◌≡◌, ℕ, zero, suc, ◌≤◌, Option, Some, None, Result, Ok, Err, List, length, map, option_map, take}
pub use Rattle.engine_base.specs.declared.config.ConfigFault.{ConfigFault}
pub use Rattle.step_record.specs.declared.job.Job.{Job}
pub use Rattle.engine_base.specs.declared.outcome.Outcome.{Outcome}
use Rattle.engine_base.specs.declared.outcome.Outcome.TheVariants.{Rejected}
pub use Rattle.engine_base.specs.declared.stats.Stats.{Stats}
use Rattle.engine_base.specs.Config.{config_fault}
use Rattle.engine_base.specs.Stats.{stats_of}
use Rattle.admission.specs.Frequency.{FrequencyData, estimate}
use Rattle.sketch.specs.Sketch.{least_counter}
use Rattle.engine_base.specs.Machine.{Machine, after, outcomes}
use Rattle.queue_cache.specs.Residents.{adaptive_machine, cache_residents}
use Rattle.clairvoyant.specs.Belady.{belady_outcomes}
use Rattle.clairvoyant.specs.Clairvoyant.{ClairvoyantState, clairvoyant_at}
use Rattle.clairvoyant.specs.NextAccesses.{clairvoyant_queues}
use Rattle.segments.specs.NamedQueue.{NamedQueueData}
use Rattle.segments.specs.SegmentQueues.{three_queues}
pub use Rattle.demand_cache.specs.declared.demand_policy.DemandPolicy.{DemandPolicy}
use Rattle.demand_cache.specs.DemandQueues.{queues_named, queues_residents}
use Rattle.demand_cache.specs.DemandPolicy.{outcomes_of_page}
use Rattle.demand_cache.specs.DemandCache.{demand_machine}
use Rattle.segments.specs.Queues.{residents_in}
pub use Rattle.policies.specs.declared.any_policy.AnyPolicy.{AnyPolicy}
use Rattle.policies.specs.declared.any_policy.AnyPolicy.TheVariants.{Queues, Optimal, Demand, Adaptive}
pub use Rattle.policies.specs.declared.design.Design.{Design}
use Rattle.policies.specs.declared.design.Design.TheVariants as design
use Rattle.policies.specs.Design.{design_of, queue_setup}
use Rattle.queue_cache.specs.declared.design.QueueDesign.{QueueDesign}
use Rattle.queue_cache.specs.Design.{named_in}
use Rattle.queue_cache.specs.QueueCache.{queue_machine}

-- ---- a job over a trace

-- the engine of a policy of this kind, at the job's configuration, as a machine over keys
abbrev pub queues_engine : QueueDesign → Job → Machine
queues_engine q j = queue_machine (queue_setup q j)

abbrev pub demand_engine : DemandPolicy → Job → Machine
demand_engine p j = demand_machine p j.config.capacity

abbrev pub adaptive_engine : Job → Machine
adaptive_engine j = adaptive_machine j.config j.tuning.period

-- The outcomes of the accesses to the keys of a trace by the definition of a policy that keeps each missed key, at capacity
-- c. Without room each key is rejected (no configuration that is accepted has a capacity of 0).
abbrev pub demand_outcomes : DemandPolicy → ℕ → List ℕ → List Outcome
demand_outcomes p zero trace = map (λ k. Rejected k) trace
demand_outcomes p (suc c) trace = outcomes_of_page p (suc c) trace

-- The outcomes of the accesses to the keys of a trace. A cache whose configuration is not accepted would keep no key (none is
-- ever opened).
abbrev pub adaptive_outcomes : Result (Unit {0}) ConfigFault → Job → List ℕ → List Outcome
adaptive_outcomes (Ok u) j trace = outcomes (adaptive_engine j) trace
adaptive_outcomes (Err e) j trace = map (λ k. Rejected k) trace

abbrev pub outcomes_by : Design → Job → List ℕ → List Outcome
outcomes_by (design.Queues q) j trace = outcomes (queues_engine q j) trace
outcomes_by design.KnowsTrace j trace = belady_outcomes j.config.capacity trace (length trace)
outcomes_by (design.Demand p) j trace = demand_outcomes p j.config.capacity trace
outcomes_by design.Adaptive j trace = adaptive_outcomes (config_fault j.config) j trace

-- the outcomes of a job's accesses to the keys of a trace, in order
abbrev pub outcomes_on : Job → List ℕ → List Outcome
outcomes_on j trace = outcomes_by (design_of j) j trace

-- what is counted of them: a report shows these numbers
unfoldable pub stats_on : Job → List ℕ → Stats
stats_on j trace = stats_of (outcomes_on j trace)

-- ---- what a cache shows

abbrev pub stats_in : AnyPolicy → Stats
stats_in (Queues d) = d.stats
stats_in (Optimal d) = d.stats
stats_in (Demand d) = d.stats
stats_in (Adaptive d) = d.stats

-- the keys that are cached
abbrev pub any_residents : AnyPolicy → List ℕ
any_residents (Queues d) = residents_in d.queues
any_residents (Optimal d) = d.residents
any_residents (Demand d) = queues_residents d.queues
any_residents (Adaptive d) = cache_residents d

-- the queues under their names
abbrev pub any_queues : AnyPolicy → List NamedQueueData
any_queues (Queues d) = named_in d.setup.design.layout d.queues
any_queues (Optimal d) = clairvoyant_queues d
any_queues (Demand d) = queues_named d.queues
any_queues (Adaptive d) = three_queues d.window.queues

abbrev pub frequency_in : AnyPolicy → Option FrequencyData
frequency_in (Queues d) = d.frequency
frequency_in (Optimal d) = None
frequency_in (Demand d) = None
frequency_in (Adaptive d) = Some d.frequency

-- what the admission filter takes as a key's frequency: Caffeine's has no doorkeeper, and goes by its counters alone
abbrev pub estimate_in : ℕ → AnyPolicy → Option ℕ
estimate_in key (Queues d) = option_map (estimate key) d.frequency
estimate_in key (Optimal d) = None
estimate_in key (Demand d) = None
estimate_in key (Adaptive d) = Some (least_counter key d.frequency.table)

-- A cache of a job of the design x, whose engine is the machine m, made these accesses.
pub record IsAfter (j : Job) (x : Design) (m : Machine) (keys : List ℕ) (d : m.State) : Type 0 where
  pub design : design_of j ≡ x
  pub checked : config_fault j.config ≡ Ok tt
  pub is : d ≡ after m keys

-- a cache of Belady's optimal policy made the first accesses of its trace
pub record IsBeladyAt (j : Job) (trace keys : List ℕ) (d : ClairvoyantState) : Type 0 where
  pub design : design_of j ≡ design.KnowsTrace
  pub first : keys ≡ take (length keys) trace
  pub within : length keys ≤ length trace
  pub gives : d ≡ clairvoyant_at j.config.capacity trace (length keys)

-- the cache runs the job over the trace, and the keys are the accesses that it made
abbrev pub HasAccessed : Job → List ℕ → List ℕ → AnyPolicy → Type 0
HasAccessed j trace keys (Queues d) =
    IsAfter j (design.Queues d.setup.design) (queues_engine d.setup.design j) keys d
HasAccessed j trace keys (Optimal d) = IsBeladyAt j trace keys d
HasAccessed j trace keys (Demand d) =
    IsAfter j (design.Demand d.queues.policy) (demand_engine d.queues.policy j) keys d
HasAccessed j trace keys (Adaptive d) = IsAfter j design.Adaptive (adaptive_engine j) keys d
