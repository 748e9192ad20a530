use Rattle.queue_cache.proofs.Fitting.{cache_keeps}
use Rattle.queue_cache.proofs.adaptive_theorems.cache_keeps.Goals as goal

pub returns : goal.returns
returns c = cache_keeps
