use Rattle.queue_cache.proofs.OneQueue.{lru-steps}
use Rattle.queue_cache.proofs.theorems.lru_step_law.Goals as goal

pub returns : goal.returns
returns c = lru-steps
