use Rattle.std.proofs.Common.{ap, rules, sym, subst}
use Rattle.demand_cache.specs.DemandQueues.{IsQueues}
use Rattle.demand_cache.proofs.Keeping.{pages-sound, cache_of, started}
use Rattle.demand_cache.proofs.demand_cache.DemandCache.new.Goals as goal

pub invariant_of-result : goal.invariant_of-result
invariant_of-result g c = record {
  least = c.requires.least;
  most = c.requires.most;
  queues = subst (λ v. IsQueues c.args.capacity (cache_of c.args.policy c.args.capacity 0 v)) (sym c.for_items.ensures) (started pages-sound c.args.policy c.args.capacity c.requires.least);
  counts = search rules;
}

pub returns-clause-queues : goal.returns-clause-queues
returns-clause-queues g c = ap (cache_of c.args.policy c.args.capacity 0) c.for_items.ensures
