use Rattle.std.proofs.lemmas.Bool.Decides.{nat_tests}
use Rattle.std.proofs.Common.{arith}
use Rattle.queue_table.proofs.Runs.{no-due}
use Rattle.policy_pages.proofs.sieve.pass.Goals.{then-stopped, else-stopped}
use Rattle.policy_pages.proofs.sieve.pass.Goals as goal

pub returns-clause-run : goal.returns-clause-run
returns-clause-run g c = grind (arith, nat_tests, no-due)
