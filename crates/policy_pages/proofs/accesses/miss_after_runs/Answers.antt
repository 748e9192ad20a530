use Rattle.std.proofs.lemmas.Bool.Decides.{nat_tests}
use Rattle.std.proofs.Common.{arith}
use Rattle.queue_table.proofs.Carried.{carried}
use Rattle.policy_pages.proofs.accesses.miss_after_runs.Goals as goal

pub returns : goal.returns
returns d e r l o i s a b u v he hr ran again left own = grind (arith, nat_tests, carried)
