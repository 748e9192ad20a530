use Rattle.std.proofs.Common.{◌∙◌, ap, List, ℕ, take, length}
use Rattle.debug_policies.specs.OnePolicy.{AnyPolicy, Job, OnePolicyState}
use Rattle.debug_policies.specs.Window.{window_at, window_in}
use Rattle.debug_policies.proofs.Shown.{shown_window}
use Rattle.debug_policies.proofs.one_policy.OnePolicy.window.Goals as goal

pub returns : goal.returns
returns c =
    let trace : List ℕ = c.self.inside.trace.now in
    let j : Job = c.self.inside.job in
    let s = c.self.inside.session in
    c.window_in.ensures ∙ ap (λ (d : AnyPolicy). window_in d j) c.engine.ensures.engine
    ∙ shown_window j trace (take (length s.kept) trace) s.engine c.self.invariant.stands
    ∙ ap (λ (w : OnePolicyState). window_at w.job w.trace w.at) c.self.view_is
