use Rattle.std.proofs.Common.{arith}
use Rattle.std.proofs.lemmas.Grind.{common_steps}
use Rattle.trace_read.proofs.digits.first_word.Goals as goal

pub returns : goal.returns
returns c = grind (arith, common_steps)
