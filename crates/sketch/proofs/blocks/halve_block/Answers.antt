use Rattle.std.proofs.lemmas.Bool.Decides.{nat_tests}
use Rattle.std.proofs.Common.{arith}
use Rattle.sketch.proofs.Halves.{eight, quad, two_same}
use Rattle.sketch.proofs.blocks.halve_block.Goals as goal

pub returns-clause-lost : goal.returns-clause-lost
returns-clause-lost c = grind (arith, nat_tests, eight, two_same, quad)
