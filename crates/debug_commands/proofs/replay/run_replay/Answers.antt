use Rattle.std.proofs.Common.{arith}
use Rattle.std.proofs.lemmas.Grind.{common_steps}
use Rattle.debug_commands.proofs.replay.run_replay.Goals as goal

pub returns-clause-walked : goal.returns-clause-walked
returns-clause-walked g c = grind (arith, common_steps)
