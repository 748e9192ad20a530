use Rattle.policy_comparison.proofs.CutHits.{add-up}
use Rattle.policy_comparison.proofs.theorems.compared_intervals_add_up.Goals as goal

pub returns : goal.returns
returns c = add-up
