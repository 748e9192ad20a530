use Rattle.std.proofs.Common.{◌∙◌, ap, List, ℕ, take, length}
use Rattle.policies.specs.AnyPolicy.{Job, frequency_in}
use Rattle.debug_policies.specs.OnePolicy.{age_at, age_in, OnePolicyState}
use Rattle.debug_policies.proofs.Shown.{shown_age}
use Rattle.debug_policies.proofs.one_policy.OnePolicy.age.Goals as goal

pub returns-in-Some : goal.returns-in-Some
returns-in-Some c =
    let trace : List ℕ = c.self.inside.trace.now in
    let j : Job = c.self.inside.job in
    let s = c.self.inside.session in
    c.age.ensures ∙ ap age_in (c.in-Some.ensures ∙ ap frequency_in c.engine.ensures.engine)
    ∙ shown_age j trace (take (length s.kept) trace) s.engine c.self.invariant.stands
    ∙ ap (λ (w : OnePolicyState). age_at w.job w.trace w.at) c.self.view_is

pub returns-in-None : goal.returns-in-None
returns-in-None c =
    let trace : List ℕ = c.self.inside.trace.now in
    let j : Job = c.self.inside.job in
    let s = c.self.inside.session in
    ap age_in (c.in-None.ensures ∙ ap frequency_in c.engine.ensures.engine)
    ∙ shown_age j trace (take (length s.kept) trace) s.engine c.self.invariant.stands
    ∙ ap (λ (w : OnePolicyState). age_at w.job w.trace w.at) c.self.view_is
