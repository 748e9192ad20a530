use Rattle.std.proofs.Common.{arith}
use Rattle.std.proofs.lemmas.Grind.{common_steps}
use Rattle.policy_actors.proofs.feeder.Feeder.take.Goals as goal

pub give-requires-clause-next : goal.give-requires-clause-next
give-requires-clause-next g c = grind (arith, common_steps)

pub returns-in-Ok-clause-taken : goal.returns-in-Ok-clause-taken
returns-in-Ok-clause-taken g c = grind (arith, common_steps)
