use Rattle.std.proofs.Common.{◌∙◌, ap}
use Rattle.debug_policies.specs.OnePolicy.{OnePolicyState}
use Rattle.debug_policies.specs.TwoPolicies.{policies_timeline}
use Rattle.debug_policies.proofs.debugger.TwoPolicies.open.Goals as goal

pub returns-clause-timeline : goal.returns-clause-timeline
returns-clause-timeline g c =
    ap (λ (w : OnePolicyState). policies_timeline w.trace w.job c.in_ok-open-2.field-0.job) c.in_ok-open.ensures
    ∙ ap (λ (w : OnePolicyState). policies_timeline c.args.trace.now c.args.first.now w.job) c.in_ok-open-2.ensures
