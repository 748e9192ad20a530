use Rattle.policies.proofs.StepLaws.{any_accepts}
use Rattle.policies.proofs.theorems.any_accepts.Goals as goal

pub returns : goal.returns
returns c = any_accepts c.clairvoyant_accepts.ensures
