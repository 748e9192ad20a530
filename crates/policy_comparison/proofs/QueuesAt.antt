-- The queues that a cache shows are those of its policy's definition.
use Rattle.std.proofs.Common.{◌≡◌, ◌∙◌, ◌≤◌, ℕ, List, length, take, ap, sym}
use Rattle.std.proofs.lemmas.List.{length-take-le}
use Rattle.queue_cache.specs.AdaptiveCache.{AdaptiveCacheState}
use Rattle.clairvoyant.specs.Clairvoyant.{clairvoyant_at}
use Rattle.clairvoyant.specs.NextAccesses.{clairvoyant_queues}
use Rattle.demand_cache.specs.DemandCache.{DemandState}
use Rattle.demand_cache.specs.DemandQueues.{queues_named}
use Rattle.segments.specs.SegmentQueues.{three_queues}
use Rattle.queue_cache.specs.Design.{named_in}
use Rattle.queue_cache.specs.QueueCache.{QueueState}
use Rattle.policies.specs.AnyPolicy.{Job, any_queues, HasAccessed}
use Rattle.policies.specs.declared.any_policy.AnyPolicy.{AnyPolicy}
use Rattle.policies.specs.declared.any_policy.AnyPolicy.TheVariants.{Queues, Optimal, Demand, Adaptive}
use Rattle.policy_comparison.specs.QueuesAt.{queues_at, queues_by}

pub shown_queues : (j : Job) (trace : List ℕ) (n : ℕ) (d : AnyPolicy) → n ≤ length trace → HasAccessed j trace (take n trace) d → any_queues d ≡ queues_at j trace n
shown_queues j trace n (Queues d) le s =
    ap (λ (x : QueueState). named_in d.setup.design.layout x.queues) s.is ∙ ap (λ x. queues_by x j trace n) (sym s.design)
shown_queues j trace n (Optimal d) le s =
    ap clairvoyant_queues s.gives
    ∙ ap (λ i. clairvoyant_queues (clairvoyant_at j.config.capacity trace i)) (length-take-le n trace le)
    ∙ ap (λ x. queues_by x j trace n) (sym s.design)
shown_queues j trace n (Demand d) le s =
    ap (λ (x : DemandState). queues_named x.queues) s.is ∙ ap (λ x. queues_by x j trace n) (sym s.design)
shown_queues j trace n (Adaptive d) le s =
    ap (λ (x : AdaptiveCacheState). three_queues x.window.queues) s.is ∙ ap (λ x. queues_by x j trace n) (sym s.design)
