-- How one access changes what a cache of any policy shows, and how its undo record undoes it: by the policy's own
-- engine.
use Rattle.std.specs.Prelude.{ℕ, Option}
use Rattle.engine_base.specs.Pace.{Pace, pace_without_sketch}
use Rattle.engine_base.specs.Limited.{lifted}
use Rattle.queue_cache.specs.AdaptiveCache.{Outcome, cache_act, cache_record_of, cache_undone, cache_asks}
use Rattle.queue_cache.specs.AdaptiveCache.{cache_may_ask, cache_words, cache_pace, CacheFits}
use Rattle.clairvoyant.specs.Clairvoyant.{clairvoyant_act}
use Rattle.clairvoyant.specs.OptimalRecord.{outcome_of, record_at, clairvoyant_undone, ClairvoyantFits}
use Rattle.demand_cache.specs.DemandCache.{DemandFits}
use Rattle.demand_cache.specs.DemandCache.{demand_act, demand_record_of, demand_may_ask, demand_undone, demand_asks}
use Rattle.policies.specs.declared.any_policy.AnyPolicy.{AnyPolicy}
use Rattle.policies.specs.declared.any_policy.AnyPolicy.TheVariants.{Queues, Optimal, Demand, Adaptive}
use Rattle.policies.specs.declared.any_policy.AnyRecord.{AnyRecord}
use Rattle.policies.specs.declared.any_policy.AnyRecord.TheVariants as done
use Rattle.queue_cache.specs.QueueStep.{queue_act, queue_record_of, queue_undone, queue_asks, QueueFits}
use Rattle.queue_cache.specs.QueueStep.{queue_may_ask, queue_words, queue_pace}

abbrev pub any_act : AnyPolicy → ℕ → Option (Outcome × AnyPolicy)
any_act (Queues d) k = lifted Queues (queue_act d k)
any_act (Optimal d) k = lifted Optimal (clairvoyant_act d k)
any_act (Demand d) k = lifted Demand (demand_act d k)
any_act (Adaptive d) k = lifted Adaptive (cache_act d k)

-- the record of an access to k, from the cache before it
abbrev pub any_record_of : ℕ → AnyPolicy → AnyRecord
any_record_of k (Queues d) = done.Queues (queue_record_of k d)
any_record_of k (Optimal d) = done.Optimal (record_at d.capacity d.trace d.stats.accesses)
any_record_of k (Demand d) = done.Demand (demand_record_of k d)
any_record_of k (Adaptive d) = done.Adaptive (cache_record_of k d)

-- An access may be out of memory: its key is not resident, or brings a halving. The optimal policy has all that it needs
-- once it is open.
abbrev pub MayAllocate : AnyPolicy → ℕ → Type 0
MayAllocate (Queues d) k = queue_may_ask d k
MayAllocate (Optimal d) k = ⊥
MayAllocate (Demand d) k = demand_may_ask d k
MayAllocate (Adaptive d) k = cache_may_ask d k

-- a record of the other kind fits nowhere
abbrev pub any_undone : AnyRecord → AnyPolicy → AnyPolicy
any_undone (done.Queues r) (Queues d) = Queues (queue_undone r d)
any_undone (done.Optimal r) (Optimal d) = Optimal (clairvoyant_undone r d)
any_undone (done.Demand r) (Demand d) = Demand (demand_undone r d)
any_undone (done.Adaptive r) (Adaptive d) = Adaptive (cache_undone r d)
any_undone r d = d

abbrev pub AnyFits : AnyRecord → AnyPolicy → Type 0
AnyFits (done.Queues r) (Queues d) = QueueFits r d
AnyFits (done.Optimal r) (Optimal d) = ClairvoyantFits r d
AnyFits (done.Demand r) (Demand d) = DemandFits r d
AnyFits (done.Adaptive r) (Adaptive d) = CacheFits r d
AnyFits r d = ⊥

-- undoing the step takes memory: a key comes back
abbrev pub any_asks : AnyRecord → Type 0
any_asks (done.Queues r) = queue_asks r
any_asks (done.Optimal r) = ⊥
any_asks (done.Demand r) = demand_asks r
any_asks (done.Adaptive r) = cache_asks r

-- the outcome of the access, which names the key that left it, if one did
abbrev pub recorded_outcome : AnyRecord → Outcome
recorded_outcome (done.Queues r) = r.outcome
recorded_outcome (done.Optimal r) = outcome_of r
recorded_outcome (done.Demand r) = r.outcome
recorded_outcome (done.Adaptive r) = r.window.outcome

abbrev pub any_words : AnyRecord → ℕ
any_words (done.Queues r) = queue_words r
any_words (done.Optimal r) = 0
any_words (done.Demand r) = 0
any_words (done.Adaptive r) = cache_words r

abbrev pub any_pace : AnyPolicy → Pace
any_pace (Queues d) = queue_pace d
any_pace (Optimal d) = pace_without_sketch
any_pace (Demand d) = pace_without_sketch
any_pace (Adaptive d) = cache_pace d
