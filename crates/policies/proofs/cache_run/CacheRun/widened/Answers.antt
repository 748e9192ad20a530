use Rattle.std.proofs.Common.{sym, subst}
use Rattle.demand_cache.specs.DemandCache.{DemandState}
use Rattle.policies.specs.AnyPolicy.{HasAccessed}
use Rattle.policies.specs.CacheRun.{HasTaken}
use Rattle.policies.specs.declared.any_policy.AnyPolicy.TheVariants.{Demand}
use Rattle.policies.proofs.cache_run.CacheRun.widened.Goals as goal

pub returns-in-Ok-access_all : goal.returns-in-Ok-access_all
returns-in-Ok-access_all c j trace done s =
    let taken = subst (HasTaken j trace done) c.in-Narrow.is s in
    c.in-Ok-access_all.ensures.all j trace done (subst (λ (d : DemandState). HasAccessed j trace done (Demand d)) (sym c.in-Ok.ensures) taken)
