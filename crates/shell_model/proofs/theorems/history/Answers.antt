use Rattle.shell_model.proofs.Holding.{history-laws}
use Rattle.shell_model.proofs.theorems.history.Goals as goal

pub returns : goal.returns
returns c = history-laws
