use Rattle.queue_cache.proofs.Counting.{hits_grow}
use Rattle.queue_cache.proofs.distance_theorems.hits_grow.Goals as goal

pub returns : goal.returns
returns c = hits_grow
