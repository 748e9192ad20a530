use Rattle.std.proofs.Common.{arith}
use Rattle.std.proofs.lemmas.Grind.{common_steps}
use Rattle.debug_policies.proofs.debugger.TwoPoliciesTimeline.next.Goals as goal

pub returns-clause-facts : goal.returns-clause-facts
returns-clause-facts g c = grind (arith, common_steps)
