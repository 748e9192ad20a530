-- The engine of the policies that keep each missed key, with the keys renamed.
use Rattle.std.proofs.Common.{◌≡◌, ℕ, zero, suc, ap, ◌∙◌, refl}
use Rattle.std.proofs.Math.Path.{fun_ext}
use Rattle.queue_table.specs.Queues.{Queues}
use Rattle.engine_base.specs.declared.outcome.Outcome.{Outcome}
use Rattle.queue_table.specs.Moves.{item_of, Plan, outcome_of, after_all}
use Rattle.queue_table.specs.Lists.{QueueLists, lists_of, queues_in}
use Rattle.demand_cache.specs.DemandPolicy.{plan_by}
use Rattle.demand_cache.specs.DemandQueues.{DemandQueues, queues_of, plan_of, queues_act}
use Rattle.engine_base.specs.declared.stats.Stats.{Stats}
use Rattle.demand_cache.specs.DemandCache.{DemandState, state_with, demand_access, demand_machine}
use Rattle.demand_cache.specs.Names.{renamed_outcome}
use Rattle.demand_cache.specs.Renaming.{DemandIgnoresNames}
use Rattle.demand_cache.proofs.RenamedMachines.{IsInjective, stats-with-renamed, ignores-names}
use Rattle.demand_cache.proofs.RenamedQueues.{renamed_queues, all-renamed, outcome-renamed}
use Rattle.demand_cache.proofs.RenamedPlans.{plan-renamed}

abbrev renamed_lists : (ℕ → ℕ) → QueueLists → QueueLists
renamed_lists f l = lists_of (renamed_queues f (queues_in l))

abbrev renamed_cache : (ℕ → ℕ) → DemandQueues → DemandQueues
renamed_cache f d = record d { lists = renamed_lists f d.lists }

abbrev renamed_state : (ℕ → ℕ) → DemandState → DemandState
renamed_state f d = record { queues = renamed_cache f d.queues; stats = d.stats }

lists-renamed : (f : ℕ → ℕ) (l : QueueLists) → queues_in (renamed_lists f l) ≡ renamed_queues f (queues_in l)
lists-renamed f l = fun_ext at
  where
    at : (q : ℕ) → queues_in (renamed_lists f l) q ≡ renamed_queues f (queues_in l) q
    at zero = refl
    at (suc zero) = refl
    at (suc (suc zero)) = refl
    at (suc (suc (suc zero))) = refl
    at (suc (suc (suc (suc q)))) = refl

-- the cache after an access by the plan to k, over the queues s
abbrev act_by : DemandQueues → ℕ → Plan → Queues → Outcome × DemandQueues
act_by d k p s = (outcome_of p s, record d { own_number = p.own_number; lists = lists_of (after_all p (item_of k) s) })

module _ (f : ℕ → ℕ) (i : IsInjective f) (k : ℕ) where
  queues-renamed : (d : DemandQueues) → queues_act (f k) (renamed_cache f d) ≡ (renamed_outcome f (queues_act k d).0, renamed_cache f (queues_act k d).1)
  queues-renamed d =
      let s : Queues = queues_of d in
      let p : Plan = plan_of k d in
      ap (λ (t : Queues). act_by d (f k) (plan_by d.policy d.capacity (f k) d.own_number t) t) (lists-renamed f d.lists)
      ∙ ap (λ (q : Plan). act_by d (f k) q (renamed_queues f s)) (plan-renamed f i d.capacity k d.own_number s d.policy)
      ∙ ap (λ (o : Outcome). (o, (act_by d (f k) p (renamed_queues f s)).1)) (outcome-renamed f i p s)
      ∙ ap (λ (t : Queues). (renamed_outcome f (outcome_of p s), record d { own_number = p.own_number; lists = lists_of t })) (all-renamed f i p s k)

  access-renamed : (d : DemandState) → demand_access (f k) (renamed_state f d) ≡ (renamed_outcome f (demand_access k d).0, renamed_state f (demand_access k d).1)
  access-renamed d =
      let a : Outcome × DemandQueues = queues_act k d.queues in
      ap (λ (b : Outcome × DemandQueues). (b.0, state_with d.stats b)) (queues-renamed d.queues)
      ∙ ap (λ (stats : Stats). (renamed_outcome f a.0, record { queues = renamed_cache f a.1; stats = stats })) (stats-with-renamed f a.0 d.stats)

pub demand_ignores_names : DemandIgnoresNames
demand_ignores_names p c = ignores-names (demand_machine p c) (λ d. Unit {0}) renamed_state record {
  starts = tt;
  keeps = λ k d h. tt;
  start = λ f. refl;
  access = λ f i k d h. access-renamed f i k d;
}
