use Rattle.conservative_laws.proofs.Examples.{have_anomaly}
use Rattle.conservative_laws.proofs.theorems.fifo_and_clock_have_anomaly.Goals as goal

pub returns : goal.returns
returns c = have_anomaly
