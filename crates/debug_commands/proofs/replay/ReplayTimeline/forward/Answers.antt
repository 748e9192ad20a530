use Rattle.std.proofs.Common.{arith}
use Rattle.std.proofs.lemmas.Grind.{common_steps}
use Rattle.debug_commands.proofs.replay.ReplayTimeline.forward.Goals as goal

pub returns-in-Err-clause-source : goal.returns-in-Err-clause-source
returns-in-Err-clause-source c = grind (arith, common_steps)

pub returns-in-Ok-clause-same : goal.returns-in-Ok-clause-same
returns-in-Ok-clause-same c = grind (arith, common_steps)

pub returns-in-Ok-clause-source : goal.returns-in-Ok-clause-source
returns-in-Ok-clause-source c = grind (arith, common_steps)
