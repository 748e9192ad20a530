use Rattle.std.proofs.Common.{◌≡◌, ◌∙◌, ◌++◌, ap, subst, Option, List, ℕ}
use Rattle.std.specs.Prelude.{codes, OnOk}
use Rattle.step_record.specs.Job.{name_of}
use Rattle.debug_policies.specs.Inside.{estimate_at, estimate_text}
use Rattle.debug_policies.specs.OnePolicy.{OnePolicyState}
use Rattle.policy_comparison.proofs.Texts.{added_behind}
use Rattle.debug_policies.proofs.one_policy.OnePolicy.show_estimate.Goals as goal

pub returns : goal.returns
returns c =
    let one : OnePolicyState = c.args.self.now in
    let text : List ℕ = c.args.text.now.items in
    let label : List ℕ = c.args.label.now in
    let mid : List ℕ = c.push_policy.new.text.items in
    let last : List ℕ = c.push_estimate.new.text.items in
    let estimate : Option ℕ = estimate_at one.job one.trace one.at c.args.key in
    let more : OnOk c.push_estimate.result (last ≡ mid ++ estimate_text estimate) =
    subst (λ e. OnOk c.push_estimate.result (last ≡ mid ++ estimate_text e)) c.estimate.ensures c.push_estimate.ensures in
    added_behind c.push_estimate.result text label (codes " ") (name_of one.job.policy one.job.sizes) (estimate_text estimate) mid last
    (c.in_ok-push_policy.ensures ∙ ap (λ (w : OnePolicyState). text ++ (label ++ (codes " " ++ name_of w.job.policy w.job.sizes))) c.self.view_is) more
