use Rattle.std.proofs.lemmas.Bool.Decides.{nat_tests}
use Rattle.std.proofs.Common.{arith}
use Rattle.sketch.proofs.Tables.{columns_below}
use Rattle.sketch.proofs.sketch.Sketch.columns_of.Goals as goal

pub returns-then-key-self-clause-below : goal.returns-then-key-self-clause-below
returns-then-key-self-clause-below c = grind (arith, nat_tests, columns_below)
