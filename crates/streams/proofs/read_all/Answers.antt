use Rattle.std.proofs.Common.{arith}
use Rattle.std.proofs.lemmas.Grind.{common_steps}
use Rattle.streams.proofs.read_all.Goals as goal

pub returns-in_err-count-clause-few : goal.returns-in_err-count-clause-few
returns-in_err-count-clause-few g c = grind (arith, common_steps)

pub returns-then-count-limit-clause-large : goal.returns-then-count-limit-clause-large
returns-then-count-limit-clause-large g c = grind (arith, common_steps)

pub reads-preserved : goal.reads-preserved
reads-preserved g c = grind (arith, common_steps)

pub returns-in_err-extend_from_slice-clause-few : goal.returns-in_err-extend_from_slice-clause-few
returns-in_err-extend_from_slice-clause-few g c = grind (arith, common_steps)
