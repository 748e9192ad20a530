use Rattle.std.proofs.Common.{arith}
use Rattle.std.proofs.lemmas.Grind.{common_steps}
use Rattle.debug_commands.proofs.dialogue.run.Goals as goal

pub position-requires-2 : goal.position-requires-2
position-requires-2 g c = grind (arith, common_steps)
