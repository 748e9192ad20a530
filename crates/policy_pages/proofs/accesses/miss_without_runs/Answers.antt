use Rattle.std.proofs.Common.{refl}
use Rattle.queue_table.specs.Moves.{no_run}
use Rattle.queue_table.proofs.Carried.{no-run}
use Rattle.policy_pages.proofs.accesses.miss_without_runs.Goals as goal

pub returns : goal.returns
returns c l o i s u v left own = c.miss_after_runs.ensures no_run no_run l o i s s s u v refl refl (no-run s) (no-run s) left own
