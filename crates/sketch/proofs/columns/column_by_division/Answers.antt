use Rattle.std.proofs.lemmas.Bool.Decides.{nat_tests}
use Rattle.std.proofs.Common.{arith}
use Rattle.sketch.specs.Columns.{column as column_of}
use Rattle.sketch.proofs.columns.column_by_division.Goals as goal
use Rattle.sketch.proofs.columns.column_by_division.Goals.{in-Mixed, in-Plain}

pub returns : goal.returns
unfolding column_of
returns c = grind (arith, nat_tests)
