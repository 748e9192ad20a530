use Rattle.policy_laws.proofs.Optimal.{is_strategy}
use Rattle.policy_laws.proofs.optimality.belady_is_strategy.Goals as goal

pub returns : goal.returns
returns c = is_strategy
