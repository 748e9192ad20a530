use Rattle.std.proofs.Common.{◌∙◌, ap, List, ℕ, take, length}
use Rattle.policies.specs.AnyPolicy.{estimate_in}
use Rattle.debug_policies.specs.OnePolicy.{Job, OnePolicyState}
use Rattle.debug_policies.specs.Inside.{estimate_at}
use Rattle.debug_policies.proofs.Shown.{shown_estimate}
use Rattle.debug_policies.proofs.one_policy.OnePolicy.estimate.Goals as goal

pub returns : goal.returns
returns c =
    let trace : List ℕ = c.self.inside.trace.now in
    let j : Job = c.self.inside.job in
    let s = c.self.inside.session in
    c.estimate.ensures ∙ ap (estimate_in c.args.key) c.engine.ensures.engine
    ∙ shown_estimate j trace (take (length s.kept) trace) s.engine c.args.key c.self.invariant.stands
    ∙ ap (λ (w : OnePolicyState). estimate_at w.job w.trace w.at c.args.key) c.self.view_is
