use Rattle.policies.proofs.StepLaws.{residents_distinct}
use Rattle.policies.proofs.theorems.residents_distinct.Goals as goal

pub returns : goal.returns
returns c = residents_distinct
