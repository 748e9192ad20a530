use Rattle.shell_laws.proofs.Holding.{holder-law}
use Rattle.shell_laws.proofs.theorems.holders_drain.Goals as goal

pub returns : goal.returns
returns c = holder-law
