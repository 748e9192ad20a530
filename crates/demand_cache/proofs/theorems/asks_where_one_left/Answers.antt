use Rattle.demand_cache.proofs.Keeping.{pages-sound, asks-where-one-left}
use Rattle.demand_cache.proofs.theorems.asks_where_one_left.Goals as goal

pub returns : goal.returns
returns c = asks-where-one-left pages-sound
