use Rattle.queue_cache.proofs.Balance.{queue-keeps}
use Rattle.queue_cache.proofs.theorems.queues_keep.Goals as goal

pub returns : goal.returns
returns c = queue-keeps
