use Rattle.queue_cache.proofs.Fitting.{hits_ask_nothing}
use Rattle.queue_cache.proofs.adaptive_theorems.cache_hits_ask_nothing.Goals as goal

pub returns : goal.returns
returns c = hits_ask_nothing
