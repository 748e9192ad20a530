use Rattle.sweeps.proofs.Sums.{add-up}
use Rattle.sweeps.proofs.theorems.intervals_add_up.Goals as goal

pub returns : goal.returns
returns c = add-up c.any_covers_trace.ensures
