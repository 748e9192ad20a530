-- The report of a job of a policy that keeps each missed key has what a cache over the numbers of the keys counts.
use Rattle.std.proofs.Common.{◌≡◌, Ok, List, [], ℕ, ap, sym, refl, ◌∙◌}
use Rattle.engine_base.specs.Config.{config_fault}
use Rattle.engine_base.specs.Machine.{after, state_after_all}
use Rattle.engine_base.specs.Stats.{stats_of}
use Rattle.engine_base.proofs.Machine.{counted}
use Rattle.demand_cache.specs.DemandCache.{DemandState, demand_access, demand_machine}
use Rattle.demand_cache.specs.declared.demand_policy.DemandPolicy.{DemandPolicy}
use Rattle.demand_cache.specs.DemandQueues.{empty_cache}
use Rattle.queue_cache.proofs.Reached.{has-room}
use Rattle.policies.specs.declared.design.Design.TheVariants.{Demand}
use Rattle.policies.specs.Design.{Job, design_of}
use Rattle.policies.specs.AnyPolicy.{outcomes_by, stats_on}
use Rattle.policies.specs.Reports.{report_of, report_on}
use Rattle.policies.proofs.Machines.{with-room}
use Rattle.demand_cache.specs.Renaming.{DemandIgnoresNames}
use Rattle.trace_index.specs.TraceNumbers.{key_number, numbers_of}
use Rattle.trace_index.proofs.Numbers.{numbers_differ}

module _ (ignores : DemandIgnoresNames) (j : Job) (p : DemandPolicy) (ok : config_fault j.config ≡ Ok tt) (is : design_of j ≡ Demand p) where
  numbered-stats : (trace : List ℕ) → (after (demand_machine p j.config.capacity) (numbers_of trace)).stats ≡ stats_on j trace
  unfolding stats_on
  numbered-stats trace =
      let c : ℕ = j.config.capacity in
      counted (demand_machine p c) (λ d. d.stats) record { starts = refl; counts = λ k d. refl } (numbers_of trace)
      ∙ (ignores p c).counts (key_number trace) trace (numbers_differ trace)
      ∙ ap stats_of (sym (with-room p c trace (has-room j.config ok)))
      ∙ ap (λ x. stats_of (outcomes_by x j trace)) (sym is)

  -- of an empty cache that made all accesses
  pub numbered-report : (trace numbers : List ℕ) (start d : DemandState) → start.queues ≡ empty_cache p j.config.capacity → start.stats ≡ stats_of []
      → numbers ≡ numbers_of trace → d ≡ state_after_all demand_access start numbers → report_of j d.stats ≡ report_on j trace
  numbered-report trace numbers start d empty none are made =
      let starts : start ≡ (demand_machine p j.config.capacity).start =
      ap (λ q. record { queues = q; stats = start.stats }) empty ∙ ap (λ s. record { queues = empty_cache p j.config.capacity; stats = s }) none in
      ap (λ (e : DemandState). report_of j e.stats) (made ∙ ap (λ (s : DemandState). state_after_all demand_access s numbers) starts ∙ ap (after (demand_machine p j.config.capacity)) are)
      ∙ ap (report_of j) (numbered-stats trace)
