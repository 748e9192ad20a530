use Rattle.policies.proofs.StepLaws.{any_records_show_outcome}
use Rattle.policies.proofs.theorems.any_records_show_outcome.Goals as goal

pub returns : goal.returns
returns c = any_records_show_outcome c.clairvoyant_step_law.ensures
