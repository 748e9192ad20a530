use Rattle.policies.proofs.StepLaws.{any_step_law}
use Rattle.policies.proofs.theorems.any_step_law.Goals as goal

pub returns : goal.returns
returns c = any_step_law c.clairvoyant_step_law.ensures
