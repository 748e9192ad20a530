use Rattle.engine_base.proofs.Limited.{refused}
use Rattle.queue_cache.specs.QueueCache.{queue_access}
use Rattle.queue_cache.specs.QueueStep.{queue_count}
use Rattle.queue_cache.proofs.theorems.queues_accept.Goals as goal

pub returns : goal.returns
returns c = refused queue_count queue_access
