use Rattle.std.proofs.lemmas.Bool.Decides.{nat_tests}
use Rattle.std.proofs.Common.{arith}
use Rattle.std.proofs.lemmas.Bool.{eq-eqb, ne_eqb}
use Rattle.policy_pages.proofs.arc.join.Goals as goal

pub returns-then-l1-capacity : goal.returns-then-l1-capacity
returns-then-l1-capacity g c = grind (arith, nat_tests, eq-eqb)

pub returns-else-l1-capacity : goal.returns-else-l1-capacity
returns-else-l1-capacity g c = grind (arith, nat_tests, ne_eqb)
