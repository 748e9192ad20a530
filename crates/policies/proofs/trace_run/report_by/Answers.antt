use Rattle.std.proofs.lemmas.Bool.Decides.{nat_tests}
use Rattle.std.proofs.Common.{arith}
use Rattle.policies.proofs.trace_run.report_by.Goals as goal

pub returns : goal.returns
returns c = grind (arith, nat_tests)
