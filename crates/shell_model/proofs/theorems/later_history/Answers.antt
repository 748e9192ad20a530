use Rattle.shell_model.proofs.Reached.{later-laws}
use Rattle.shell_model.proofs.theorems.later_history.Goals as goal

pub returns : goal.returns
returns c = later-laws
