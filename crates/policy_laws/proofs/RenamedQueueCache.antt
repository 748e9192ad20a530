-- The engine of the policies of queues that count no keys, with the keys renamed.
use Rattle.std.proofs.Common.{◌≡◌, ℕ, Option, None, [], ap, ◌∙◌, sym, refl}
use Rattle.engine_base.specs.declared.outcome.Outcome.{Outcome}
use Rattle.engine_base.specs.declared.stats.Stats.{Stats}
use Rattle.engine_base.specs.Stats.{stats_with}
use Rattle.queue_cache.specs.Design.{rules_of}
use Rattle.queue_cache.specs.QueueCache.{QueueState, recorded_in, frequency_by, access_response, queue_access, queue_machine}
use Rattle.replacement.specs.Admission.{admits_in}
use Rattle.replacement.specs.Shape.{shape_of}
use Rattle.replacement.specs.Table.{Response, access}
use Rattle.segments.specs.Items.{nodeless_item}
use Rattle.admission.specs.Frequency.{FrequencyData}
use Rattle.demand_cache.specs.Names.{renamed_outcome}
use Rattle.policy_laws.specs.Renaming.{QueuesIgnoreNames}
use Rattle.demand_cache.proofs.RenamedMachines.{IsInjective, ignores-names, stats-with-renamed}
use Rattle.policy_laws.proofs.RenamedSegments.{renamed_segments, renamed_response, access-renamed}

abbrev renamed_state : (ℕ → ℕ) → QueueState → QueueState
renamed_state f d = record { setup = d.setup; queues = renamed_segments f d.queues; frequency = d.frequency; stats = d.stats }

response-renamed : (f : ℕ → ℕ) → IsInjective f → (k : ℕ) (d : QueueState) → d.frequency ≡ None
    → access_response (f k) (renamed_state f d) ≡ renamed_response f (access_response k d)
response-renamed f i k d none =
    ap (λ (o : Option FrequencyData). access (rules_of d.setup) (admits_in (recorded_in (f k) o)) (nodeless_item (f k)) (renamed_segments f d.queues)) none
    ∙ access-renamed f i (rules_of d.setup) k d.queues
    ∙ ap (λ (o : Option FrequencyData). renamed_response f (access (rules_of d.setup) (admits_in (recorded_in k o)) (nodeless_item k) d.queues)) (sym none)

-- the cache after an access with the response and the frequency
abbrev answered : QueueState → Response → Option FrequencyData → Outcome × QueueState
answered d r o = (r.outcome, record { setup = d.setup; queues = r.queues; frequency = o; stats = stats_with r.outcome d.stats })

queue-access-renamed : (f : ℕ → ℕ) → IsInjective f → (k : ℕ) (d : QueueState) → d.frequency ≡ None
    → queue_access (f k) (renamed_state f d) ≡ (renamed_outcome f (queue_access k d).0, renamed_state f (queue_access k d).1)
queue-access-renamed f i k d none =
    let r : Response = access_response k d in
    let same : recorded_in (f k) d.frequency ≡ recorded_in k d.frequency = ap (recorded_in (f k)) none ∙ sym (ap (recorded_in k) none) in
    ap (λ (v : Response). answered d v (recorded_in (f k) d.frequency)) (response-renamed f i k d none)
    ∙ ap (answered d (renamed_response f r)) same
    ∙ ap (λ (stats : Stats). (renamed_outcome f r.outcome, record (renamed_state f (queue_access k d).1) { stats = stats })) (stats-with-renamed f r.outcome d.stats)

pub queues_ignore_names : QueuesIgnoreNames
queues_ignore_names s counts_none = ignores-names (queue_machine s) (λ d. d.frequency ≡ None) renamed_state record {
  starts = ap (λ b. frequency_by b (shape_of s.config) []) counts_none;
  keeps = λ k d none. ap (recorded_in k) none;
  start = λ f. refl;
  access = queue-access-renamed;
}
