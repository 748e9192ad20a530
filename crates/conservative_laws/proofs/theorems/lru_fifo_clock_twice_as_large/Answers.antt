use Rattle.conservative_laws.proofs.Jobs.{twice_as_large}
use Rattle.conservative_laws.proofs.theorems.lru_fifo_clock_twice_as_large.Goals as goal

pub returns : goal.returns
returns c = twice_as_large c.lru_fifo_clock_compete.ensures
