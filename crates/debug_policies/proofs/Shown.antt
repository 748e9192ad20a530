-- What a cache shows is what the definition of its policy gives.
use Rattle.std.proofs.Common.{◌≡◌, ◌∙◌, ◌≤◌, ℕ, List, Some, length, take, option_map, ap, sym, subst, refl}
use Rattle.std.proofs.lemmas.List.{length-take-le}
use Rattle.queue_cache.specs.AdaptiveCache.{AdaptiveCacheState}
use Rattle.queue_cache.specs.Residents.{cache_residents}
use Rattle.clairvoyant.specs.Belady.{belady_residents}
use Rattle.clairvoyant.specs.Clairvoyant.{ClairvoyantState}
use Rattle.demand_cache.specs.DemandCache.{DemandState}
use Rattle.demand_cache.specs.DemandQueues.{queues_residents}
use Rattle.admission.specs.Frequency.{estimate}
use Rattle.segments.specs.Queues.{residents_in}
use Rattle.sketch.specs.Sketch.{least_counter}
use Rattle.policies.specs.declared.any_policy.AnyPolicy.TheVariants.{Queues, Optimal, Demand, Adaptive}
use Rattle.policies.specs.Design.{Job, design_of, queue_setup}
use Rattle.policies.specs.AnyPolicy.{frequency_in, any_residents, estimate_in, HasAccessed}
use Rattle.queue_cache.specs.QueueCache.{QueueState}
use Rattle.queue_cache.proofs.Reached.{after-frequency, has-room}
use Rattle.debug_policies.specs.OnePolicy.{AnyPolicy, age_in, age_by, residents_at, residents_by}
use Rattle.debug_policies.specs.Inside.{estimate_by}
use Rattle.debug_policies.specs.Window.{fixed_window, moving_window, window_by, window_in}

pub shown_age : (j : Job) (trace keys : List ℕ) (d : AnyPolicy) → HasAccessed j trace keys d
    → age_in (frequency_in d) ≡ age_by (design_of j) j keys
shown_age j trace keys (Queues d) s =
    ap age_in (ap (λ (x : QueueState). x.frequency) s.is ∙ after-frequency (queue_setup d.setup.design j) (has-room j.config s.checked) keys)
    ∙ ap (λ x. age_by x j keys) (sym s.design)
shown_age j trace keys (Optimal d) s = ap (λ x. age_by x j keys) (sym s.design)
shown_age j trace keys (Demand d) s = ap (λ x. age_by x j keys) (sym s.design)
shown_age j trace keys (Adaptive d) s =
    ap (λ (x : AdaptiveCacheState). x.frequency.age) s.is ∙ ap (λ x. age_by x j keys) (sym s.design)

pub shown_keys : (j : Job) (trace : List ℕ) (n : ℕ) (d : AnyPolicy) → n ≤ length trace → HasAccessed j trace (take n trace) d → any_residents d ≡ residents_at j trace n
shown_keys j trace n (Queues d) le s =
    ap (λ (x : QueueState). residents_in x.queues) s.is ∙ ap (λ x. residents_by x j trace n) (sym s.design)
shown_keys j trace n (Optimal d) le s =
    ap (λ (x : ClairvoyantState). x.residents) s.gives
    ∙ ap (belady_residents j.config.capacity trace) (length-take-le n trace le)
    ∙ ap (λ x. residents_by x j trace n) (sym s.design)
shown_keys j trace n (Demand d) le s =
    ap (λ (x : DemandState). queues_residents x.queues) s.is ∙ ap (λ x. residents_by x j trace n) (sym s.design)
shown_keys j trace n (Adaptive d) le s = ap cache_residents s.is ∙ ap (λ x. residents_by x j trace n) (sym s.design)

pub shown_window : (j : Job) (trace keys : List ℕ) (d : AnyPolicy) → HasAccessed j trace keys d → window_in d j ≡ window_by (design_of j) j keys
shown_window j trace keys (Queues d) s = subst (λ x. fixed_window x j.config ≡ window_by x j keys) (sym s.design) refl
shown_window j trace keys (Optimal d) s = subst (λ x. fixed_window x j.config ≡ window_by x j keys) (sym s.design) refl
shown_window j trace keys (Demand d) s = subst (λ x. fixed_window x j.config ≡ window_by x j keys) (sym s.design) refl
shown_window j trace keys (Adaptive d) s =
    ap (λ (x : AdaptiveCacheState). moving_window x.window) s.is ∙ ap (λ x. window_by x j keys) (sym s.design)

pub shown_estimate : (j : Job) (trace keys : List ℕ) (d : AnyPolicy) (key : ℕ) → HasAccessed j trace keys d
    → estimate_in key d ≡ estimate_by (design_of j) j keys key
shown_estimate j trace keys (Queues d) key s =
    ap (option_map (estimate key)) (ap (λ (x : QueueState). x.frequency) s.is ∙ after-frequency (queue_setup d.setup.design j) (has-room j.config s.checked) keys)
    ∙ ap (λ x. estimate_by x j keys key) (sym s.design)
shown_estimate j trace keys (Optimal d) key s = ap (λ x. estimate_by x j keys key) (sym s.design)
shown_estimate j trace keys (Demand d) key s = ap (λ x. estimate_by x j keys key) (sym s.design)
shown_estimate j trace keys (Adaptive d) key s =
    ap (λ (x : AdaptiveCacheState). Some (least_counter key x.frequency.table)) s.is ∙ ap (λ x. estimate_by x j keys key) (sym s.design)
