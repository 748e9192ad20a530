use Rattle.std.proofs.Common.{arith}
use Rattle.clairvoyant.proofs.Shown.{shown_tests}
use Rattle.clairvoyant.proofs.bit_set.BitSet.take.Goals as goal

pub returns-clause-takes : goal.returns-clause-takes
returns-clause-takes c = λ q. let was = c.take.ensures.takes q in grind (arith, shown_tests, was)
