use Rattle.std.proofs.Common.{subst, sym}
use Rattle.policies.specs.AnyPolicy.{outcomes_on}
use Rattle.policy_comparison.specs.Comparison.{compared_on, hits_beside}
use Rattle.policy_comparison.specs.ComparedRows.{HasCounted}
use Rattle.policy_comparison.proofs.Compared.{beside-long}
use Rattle.policy_comparison.proofs.compared_run.ComparedRun.counts.Goals as goal

pub returns : goal.returns
unfolding compared_on
returns c = λ every first second trace has.
    let hits = hits_beside (outcomes_on first trace) (outcomes_on second trace) in
    c.counts.ensures every hits (subst (λ n. HasCounted every hits n c.args.self.now.counted) (sym (beside-long first second trace)) has.counted)
