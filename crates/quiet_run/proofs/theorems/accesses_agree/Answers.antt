use Rattle.quiet_run.proofs.Accessing.{accesses-law}
use Rattle.quiet_run.proofs.theorems.accesses_agree.Goals as goal

pub returns : goal.returns
returns c = accesses-law
