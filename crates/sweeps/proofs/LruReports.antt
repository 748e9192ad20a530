-- The report of a job of Lru has what a cache of Lru counts.
use Rattle.std.proofs.Common.{◌≡◌, List, ℕ, ap, sym, refl, ◌∙◌}
use Rattle.step_record.specs.declared.job.Policy.TheVariants.{Lru}
use Rattle.engine_base.proofs.Machine.{counted}
use Rattle.engine_base.specs.Stats.{stats_of}
use Rattle.engine_base.specs.declared.stats.Stats.{Stats}
use Rattle.queue_cache.specs.Lru.{lru}
use Rattle.queue_cache.specs.declared.design.QueueSetup.{QueueSetup}
use Rattle.queue_cache.specs.QueueCache.{queue_machine, state_after}
use Rattle.queue_cache.proofs.Balance.{queue-counting}
use Rattle.policies.specs.Design.{Job, queue_setup}
use Rattle.policies.specs.AnyPolicy.{outcomes_by, stats_on}
use Rattle.policies.specs.Reports.{report_of, report_on}
use Rattle.policies.proofs.Designs.{design-named}

lru-stats : (j : Job) (trace : List ℕ) → j.policy ≡ Lru → (state_after (queue_setup lru j) trace).stats ≡ stats_on j trace
unfolding stats_on
lru-stats j trace is =
    let s : QueueSetup = queue_setup lru j in
    counted (queue_machine s) (λ d. d.stats) (queue-counting s) trace ∙ ap (λ x. stats_of (outcomes_by x j trace)) (sym (design-named j Lru is))

-- what a cache of Lru of this capacity counts, with any configuration, makes the report
pub lru-report : (j : Job) (trace : List ℕ) (s : Stats) → j.policy ≡ Lru → ((q : QueueSetup) → q.design ≡ lru → q.config.capacity ≡ j.config.capacity → s ≡ (state_after q trace).stats) → report_of j s ≡ report_on j trace
lru-report j trace s is gives = ap (report_of j) (gives (queue_setup lru j) refl refl ∙ lru-stats j trace is)
