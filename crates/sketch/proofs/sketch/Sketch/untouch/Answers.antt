use Rattle.std.proofs.lemmas.Bool.Decides.{nat_tests}
use Rattle.std.proofs.Common.{arith}
use Rattle.std.proofs.lemmas.List.{with_items_is}
use Rattle.sketch.proofs.Tables.{keyed, fits_some}
use Rattle.sketch.proofs.sketch.Sketch.untouch.Goals as goal

pub lower_rows-requires-clause-some : goal.lower_rows-requires-clause-some
lower_rows-requires-clause-some c = grind (arith, nat_tests, fits_some)

pub returns : goal.returns
returns c = search (arith, with_items_is, keyed)
