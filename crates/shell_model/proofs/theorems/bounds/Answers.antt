use Rattle.shell_model.proofs.Bounding.{bound-law}
use Rattle.shell_model.proofs.theorems.bounds.Goals as goal

pub returns : goal.returns
returns c = bound-law
