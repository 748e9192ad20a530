use Rattle.std.proofs.Common.{arith}
use Rattle.conservative_laws.proofs.Examples.{obey}
use Rattle.conservative_laws.proofs.theorems.reports_obey_laws.Goals as goal

pub returns : goal.returns
returns c = search (arith, obey)
