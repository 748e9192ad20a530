use Rattle.queue_cache.proofs.Fitting.{asks_where_one_left}
use Rattle.queue_cache.proofs.adaptive_theorems.cache_asks_where_one_left.Goals as goal

pub returns : goal.returns
returns c = asks_where_one_left
