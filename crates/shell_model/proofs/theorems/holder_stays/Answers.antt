use Rattle.shell_model.proofs.Engines.{hold_laws}
use Rattle.shell_model.proofs.theorems.holder_stays.Goals as goal

pub returns : goal.returns
returns c = hold_laws
