use Rattle.demand_cache.proofs.Accesses.{HasMade}
use Rattle.demand_cache.proofs.demand_cache.DemandCache.access_all_by.Given as goal

abbrev pub invariant-loop-i : goal.invariant-loop-i
invariant-loop-i g l = HasMade (g.K.KeyName.keys l.keys) l.i l.initial.self l.self
