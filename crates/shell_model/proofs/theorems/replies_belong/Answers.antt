use Rattle.shell_model.proofs.Engines.{answers_law}
use Rattle.shell_model.proofs.theorems.replies_belong.Goals as goal

pub returns : goal.returns
returns c = answers_law
