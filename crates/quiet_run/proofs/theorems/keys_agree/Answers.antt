use Rattle.quiet_run.proofs.QuietServing.{keys-law}
use Rattle.quiet_run.proofs.theorems.keys_agree.Goals as goal

pub returns : goal.returns
returns c = keys-law
