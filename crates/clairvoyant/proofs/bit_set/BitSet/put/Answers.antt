use Rattle.std.proofs.Common.{arith}
use Rattle.clairvoyant.proofs.Shown.{shown_tests}
use Rattle.clairvoyant.proofs.bit_set.BitSet.put.Goals as goal

pub returns-clause-puts : goal.returns-clause-puts
returns-clause-puts c = λ q. let was = c.put.ensures.puts q in grind (arith, shown_tests, was)
