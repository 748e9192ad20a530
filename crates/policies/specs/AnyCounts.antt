-- How the count of accesses and the age of the frequency go on in a cache of any policy.
use Rattle.std.specs.Prelude.{◌≡◌, ℕ, ◌+◌, true, Option, Some, None}
use Rattle.std.proofs.Common.{ap, sym, subst}
use Rattle.engine_base.specs.declared.limits.TheConstants.{MAX_STEPS}
use Rattle.engine_base.specs.Pace.{IsPaced, still-paced}
use Rattle.engine_base.specs.Limited.{lifted}
use Rattle.engine_base.proofs.Limited.{accepted-where, accepted-in, ended}
use Rattle.queue_cache.specs.AdaptiveCache.{Outcome, cache_access, cache_count, cache_pace}
use Rattle.admission.proofs.Weighing.{recorded_paced}
use Rattle.clairvoyant.specs.Clairvoyant.{ClairvoyantState, clairvoyant_act}
use Rattle.clairvoyant.specs.StepCount.{act_counts as optimal_counts, act_ends as optimal_ends}
use Rattle.demand_cache.specs.DemandCache.{demand_access, demand_count}
use Rattle.policies.specs.declared.any_policy.AnyPolicy.TheVariants.{Queues, Optimal, Demand, Adaptive}
use Rattle.queue_cache.specs.QueueCache.{queue_access}
use Rattle.queue_cache.specs.QueueStep.{queue_count, queue_pace}
use Rattle.queue_cache.specs.QueuePace.{paced-by}
use Rattle.policies.specs.AnyPolicy.{AnyPolicy, stats_in}
use Rattle.policies.specs.AnyStep.{any_act, any_pace}

abbrev pub any_count : AnyPolicy → ℕ
any_count d = (stats_in d).accesses

-- where a cache of the optimal policy steps, the step is its own
pub record IsOptimalStep (x : Option (Outcome × ClairvoyantState)) (o : Outcome) (e : AnyPolicy) : Type 0 where
  pub next : ClairvoyantState
  pub is : e ≡ Optimal next
  pub steps : x ≡ Some (o, next)

pub optimal_step : (x : Option (Outcome × ClairvoyantState)) (o : Outcome) (e : AnyPolicy) → lifted Optimal x ≡ Some (o, e)
    → IsOptimalStep x o e
optimal_step None o e h = absurd (cc (h))
optimal_step (Some p) o e h =
    let a = accepted-where true (p.0, Optimal p.1) o e h in
    record { next = p.1; is = a.next; steps = ap (λ (x : Outcome). Some (x, p.1)) (sym a.outcome) }

pub any_counts : (d : AnyPolicy) (k : ℕ) (o : Outcome) (e : AnyPolicy) → any_act d k ≡ Some (o, e)
    → any_count e ≡ any_count d + 1
any_counts (Queues d) k o e h = ap any_count (accepted-in queue_count queue_access Queues d k o e h).next
any_counts (Optimal d) k o e h =
    let s : IsOptimalStep (clairvoyant_act d k) o e = optimal_step (clairvoyant_act d k) o e h in
    rw s.is (optimal_counts d k o s.next s.steps)
any_counts (Demand d) k o e h = ap any_count (accepted-in demand_count demand_access Demand d k o e h).next
any_counts (Adaptive d) k o e h = ap any_count (accepted-in cache_count cache_access Adaptive d k o e h).next

pub any_ends : (d : AnyPolicy) (k : ℕ) → any_count d ≡ MAX_STEPS → any_act d k ≡ None
any_ends (Queues d) k h = ap (lifted Queues) (ended queue_count queue_access d k h)
any_ends (Optimal d) k h = ap (lifted Optimal) (optimal_ends d k h)
any_ends (Demand d) k h = ap (lifted Demand) (ended demand_count demand_access d k h)
any_ends (Adaptive d) k h = ap (lifted Adaptive) (ended cache_count cache_access d k h)

pub any_paced : (d : AnyPolicy) (k : ℕ) (o : Outcome) (e : AnyPolicy) → any_act d k ≡ Some (o, e)
    → IsPaced (any_pace d) (any_pace e)
any_paced (Queues d) k o e h =
    subst (λ x. IsPaced (queue_pace d) (any_pace x)) (sym (accepted-in queue_count queue_access Queues d k o e h).next) (paced-by k d.frequency)
any_paced (Optimal d) k o e h =
    let s : IsOptimalStep (clairvoyant_act d k) o e = optimal_step (clairvoyant_act d k) o e h in
    rw s.is still-paced
any_paced (Demand d) k o e h =
    subst (λ x. IsPaced (any_pace (Demand d)) (any_pace x)) (sym (accepted-in demand_count demand_access Demand d k o e h).next) still-paced
any_paced (Adaptive d) k o e h =
    subst (λ x. IsPaced (cache_pace d) (any_pace x)) (sym (accepted-in cache_count cache_access Adaptive d k o e h).next) (recorded_paced d.frequency k)
