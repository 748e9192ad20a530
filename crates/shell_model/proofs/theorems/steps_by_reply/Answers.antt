use Rattle.shell_model.proofs.Making.{stepped}
use Rattle.shell_model.proofs.theorems.steps_by_reply.Goals as goal

pub returns : goal.returns
returns c = stepped
