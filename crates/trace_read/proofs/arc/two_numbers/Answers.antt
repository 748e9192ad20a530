use Rattle.std.proofs.Common.{arith}
use Rattle.std.proofs.lemmas.Grind.{common_steps}
use Rattle.trace_read.proofs.arc.two_numbers.Goals as goal

pub decimal-requires-2-clause-digits : goal.decimal-requires-2-clause-digits
decimal-requires-2-clause-digits c = grind (arith, common_steps)

pub decimal-requires-clause-digits : goal.decimal-requires-clause-digits
decimal-requires-clause-digits c = grind (arith, common_steps)

pub returns : goal.returns
returns c = grind (arith, common_steps)
