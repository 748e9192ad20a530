use Rattle.demand_cache.proofs.Keeping.{pages-sound, demand-keeps, misses-admitted}
use Rattle.demand_cache.proofs.theorems.demand_keeps.Goals as goal

pub returns : goal.returns
returns c = record { residents = demand-keeps pages-sound; misses = misses-admitted pages-sound }
