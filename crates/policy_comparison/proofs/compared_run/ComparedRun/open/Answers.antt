use Rattle.policies.specs.AnyPolicy.{outcomes_on}
use Rattle.policy_comparison.specs.Comparison.{hits_beside}
use Rattle.policy_comparison.proofs.compared_run.ComparedRun.open.Goals as goal

pub returns : goal.returns
returns c = λ other one two. record {
  pair = c.in_ok-pair.ensures other one two;
  counted = c.none-counted.ensures (hits_beside (outcomes_on c.args.first.now other) (outcomes_on c.args.second.now other));
}
