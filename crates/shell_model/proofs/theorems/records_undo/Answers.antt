use Rattle.shell_model.proofs.Reached.{record-law}
use Rattle.shell_model.proofs.theorems.records_undo.Goals as goal

pub returns : goal.returns
returns c = record-law
