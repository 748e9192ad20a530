use Rattle.std.proofs.lemmas.Bool.Decides.{nat_tests}
use Rattle.std.proofs.Common.{arith}
use Rattle.replacement.proofs.misses.windowed.Goals as goal

pub returns : goal.returns
returns g c = grind (arith, nat_tests)
