-- What the debugger sees of a policy over a trace once the first accesses are made: by the policy's definition.
use Rattle.std.specs.Prelude.{◌≡◌, ℕ, zero, suc, ◌≤◌, Option, Some, None, Ok, List, ◌++◌, codes}
use Rattle.std.specs.Prelude.{length, map, slice_index_or, take, []}
use Rattle.std.specs.List.{flat_map}
pub use Rattle.step_record.specs.declared.job.Job.{Job}
use Rattle.engine_base.specs.declared.limits.TheConstants.{MAX_ACCESSES, MAX_JOURNAL_LIMIT}
pub use Rattle.engine_base.specs.declared.outcome.Outcome.{Outcome}
use Rattle.engine_base.specs.declared.outcome.Outcome.TheVariants.{Kept}
use Rattle.engine_base.specs.Config.{config_fault}
use Rattle.step_record.specs.Job.{name_of}
use Rattle.engine_base.specs.Stats.{stats_of}
use Rattle.admission.specs.Frequency.{FrequencyData}
use Rattle.engine_base.specs.Machine.{after}
use Rattle.queue_cache.specs.Residents.{cache_residents}
use Rattle.clairvoyant.specs.Belady.{belady_residents}
use Rattle.streams.specs.Texts.{count_text}
use Rattle.demand_cache.specs.DemandQueues.{queues_residents}
use Rattle.journal.specs.Session.{Entry, SessionState}
use Rattle.queue_cache.specs.QueueCache.{frequency_after}
use Rattle.segments.specs.Queues.{residents_in}
pub use Rattle.policies.specs.declared.any_policy.AnyPolicy.{AnyPolicy}
use Rattle.policies.specs.declared.design.Design.TheVariants.{KnowsTrace, Queues as OfQueues, Demand as OfDemand, Adaptive as OfAdaptive}
use Rattle.policies.specs.Design.{design_of, queue_setup}
use Rattle.policies.specs.declared.design.Design.{Design}
use Rattle.policies.specs.AnyPolicy.{Stats, HasAccessed, adaptive_engine, demand_engine, outcomes_on, queues_engine}

-- ---- by the definitions

-- the outcome of access n of the trace, counted from 1
abbrev pub outcome_at : Job → List ℕ → ℕ → Outcome
outcome_at j trace zero = Kept
outcome_at j trace (suc i) = slice_index_or (outcomes_on j trace) i Kept

-- what is counted of the first n accesses
abbrev pub stats_at : Job → List ℕ → ℕ → Stats
stats_at j trace n = stats_of (take n (outcomes_on j trace))

-- the keys that are cached after them
abbrev pub residents_by : Design → Job → List ℕ → ℕ → List ℕ
residents_by (OfQueues q) j trace n = residents_in (after (queues_engine q j) (take n trace)).queues
residents_by KnowsTrace j trace n = belady_residents j.config.capacity trace n
residents_by (OfDemand p) j trace n = queues_residents (after (demand_engine p j) (take n trace)).queues
residents_by OfAdaptive j trace n = cache_residents (after (adaptive_engine j) (take n trace))

abbrev pub residents_at : Job → List ℕ → ℕ → List ℕ
residents_at j trace n = residents_by (design_of j) j trace n

abbrev pub age_in : Option FrequencyData → ℕ
age_in None = 0
age_in (Some f) = f.age

abbrev pub age_by : Design → Job → List ℕ → ℕ
age_by (OfQueues q) j keys = age_in (frequency_after (queue_setup q j) keys)
age_by KnowsTrace j keys = 0
age_by (OfDemand p) j keys = 0
age_by OfAdaptive j keys = (after (adaptive_engine j) keys).frequency.age

-- the age of the sketch after them, 0 where there is none
abbrev pub age_at : Job → List ℕ → ℕ → ℕ
age_at j trace n = age_by (design_of j) j (take n trace)

-- ---- the text

-- a line that names the policy, with its end
abbrev pub policy_line : List ℕ → Job → List ℕ → List ℕ
policy_line label j rest = label ++ (codes " " ++ (name_of j.policy j.sizes ++ rest))

abbrev pub counts_line : List ℕ → Job → Stats → List ℕ
counts_line label j s = policy_line label j (count_text (codes " hits ") s.hits
    ++ (count_text (codes " misses ") s.misses ++ (count_text (codes " evictions ") s.evictions
    ++ (count_text (codes " rejections ") s.rejections ++ codes "\n"))))

abbrev pub holds_line : List ℕ → List ℕ → List ℕ
holds_line label keys = label ++ (codes " holds" ++ (flat_map (count_text (codes " ")) keys ++ codes "\n"))

abbrev pub policy_lines : List ℕ → Job → List ℕ → ℕ → List ℕ
policy_lines label j trace n = counts_line label j (stats_at j trace n) ++ holds_line label (residents_at j trace n)

-- ---- a session over the trace

-- what callers see of it: how many accesses are made
pub record OnePolicyState : Type 0 where
  pub job : Job
  pub trace : List ℕ
  pub at : ℕ

abbrev pub steps_of : List (Entry ℕ Outcome) → List ℕ
steps_of es = map (λ e. e.step) es

-- the session began with no access made, and its applied steps are the first accesses of the trace
pub record IsPolicyAt (j : Job) (trace : List ℕ) (s : SessionState AnyPolicy AnyPolicy ℕ Outcome) : Type 0 where
  pub checked : config_fault j.config ≡ Ok tt
  pub opening : HasAccessed j trace [] s.opening
  pub limit : s.limit ≡ MAX_JOURNAL_LIMIT
  pub steps : steps_of s.kept ≡ take (length s.kept) trace
  pub within : length s.kept ≤ length trace
  pub few : length trace ≤ MAX_ACCESSES
  pub stands : HasAccessed j trace (take (length s.kept) trace) s.engine
