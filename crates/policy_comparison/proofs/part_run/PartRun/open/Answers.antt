use Rattle.std.proofs.Common.{refl, arith}
use Rattle.policies.specs.AnyPolicy.{outcomes_on}
use Rattle.policy_comparison.proofs.Walked.{agree-none}
use Rattle.policy_comparison.proofs.part_run.PartRun.open.Goals as goal

pub returns : goal.returns
returns c = λ other one two. record {
  within = omega arith;
  some = tt;
  none = (refl, c.in_ok-pair.ensures other one two, agree-none (outcomes_on c.args.first.now other) (outcomes_on c.args.second.now other));
}
