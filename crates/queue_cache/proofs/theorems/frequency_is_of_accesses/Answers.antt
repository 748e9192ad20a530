use Rattle.queue_cache.proofs.Reached.{stands-frequency}
use Rattle.queue_cache.proofs.theorems.frequency_is_of_accesses.Goals as goal

pub returns : goal.returns
returns c = stands-frequency
