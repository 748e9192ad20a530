use Rattle.std.proofs.Common.{arith}
use Rattle.std.proofs.lemmas.Grind.{common_steps}
use Rattle.sweeps.proofs.capacities.sweep_each.Goals as goal

pub loop-job-preserved : goal.loop-job-preserved
loop-job-preserved g c = grind (arith, common_steps)

pub returns-clause-fault : goal.returns-clause-fault
returns-clause-fault g c = grind (arith, common_steps)

pub returns-in_err-check_capacities-clause-fault : goal.returns-in_err-check_capacities-clause-fault
returns-in_err-check_capacities-clause-fault g c = grind (arith, common_steps)

pub returns-in_err-reports-clause-fault : goal.returns-in_err-reports-clause-fault
returns-in_err-reports-clause-fault g c = grind (arith, common_steps)
