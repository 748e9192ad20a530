use Rattle.std.proofs.Common.{arith}
use Rattle.std.proofs.lemmas.Grind.{common_steps}
use Rattle.policies.proofs.job_checks.check_jobs.Goals as goal

pub loop-index-preserved : goal.loop-index-preserved
loop-index-preserved c = grind (arith, common_steps)

pub returns-then-is_err : goal.returns-then-is_err
returns-then-is_err c = grind (arith, common_steps)
