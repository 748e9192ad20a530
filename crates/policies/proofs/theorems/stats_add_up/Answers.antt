use Rattle.policies.proofs.StepLaws.{stats_add_up}
use Rattle.policies.proofs.theorems.stats_add_up.Goals as goal

pub returns : goal.returns
returns c = stats_add_up c.any_covers_trace.ensures
