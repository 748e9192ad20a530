use Rattle.queue_cache.proofs.Worked.{worked}
use Rattle.queue_cache.proofs.adaptive_theorems.worked_example.Goals as goal

pub returns : goal.returns
returns c = worked
