use Rattle.policies.proofs.StepLaws.{any_answers}
use Rattle.policies.proofs.theorems.any_answers.Goals as goal

pub returns : goal.returns
returns c = any_answers c.clairvoyant_step_law.ensures
