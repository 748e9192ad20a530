use Rattle.std.proofs.Common.{arith}
use Rattle.std.proofs.lemmas.Grind.{common_steps}
use Rattle.debug_commands.proofs.shell_text.push_state.Goals as goal

pub returns : goal.returns
returns c = grind (arith, common_steps)
