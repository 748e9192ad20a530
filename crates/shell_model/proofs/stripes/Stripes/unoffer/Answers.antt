use Rattle.std.proofs.lemmas.Grind.{common_steps}
use Rattle.std.proofs.Common.{arith}
use Rattle.shell_model.proofs.OneStripe.{written}
use Rattle.shell_model.proofs.stripes.Stripes.unoffer.Goals as goal

pub returns : goal.returns
returns c = grind (arith, common_steps, written)
