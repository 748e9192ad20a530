use Rattle.std.proofs.Common.{◌∙◌}
use Rattle.trace_read.proofs.Runs.{run_none}
use Rattle.trace_read.proofs.pending.Pending.none.Goals as goal

pub returns-clause-keys : goal.returns-clause-keys
returns-clause-keys c = c.new.ensures.keys ∙ run_none 0
