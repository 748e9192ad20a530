use Rattle.std.proofs.Common.{◌≡◌, ◌∙◌, ◌++◌, ap, subst, List, ℕ}
use Rattle.std.specs.Prelude.{codes, OnOk}
use Rattle.step_record.specs.Job.{name_of}
use Rattle.debug_policies.specs.Window.{Window, Job, window_at, window_text}
use Rattle.debug_policies.specs.OnePolicy.{OnePolicyState}
use Rattle.policy_comparison.proofs.Texts.{added_behind}
use Rattle.debug_policies.proofs.one_policy.OnePolicy.show_window.Goals as goal

pub returns : goal.returns
returns c =
    let one : OnePolicyState = c.args.self.now in
    let text : List ℕ = c.args.text.now.items in
    let label : List ℕ = c.args.label.now in
    let mid : List ℕ = c.push_policy.new.text.items in
    let last : List ℕ = c.push_window.new.text.items in
    let name : List ℕ = name_of one.job.policy one.job.sizes in
    let window : Window = window_at one.job one.trace one.at in
    let first : mid ≡ text ++ (label ++ (codes " " ++ name)) =
    c.in_ok-push_policy.ensures ∙ ap (λ (j : Job). text ++ (label ++ (codes " " ++ name_of j.policy j.sizes))) c.job.ensures in
    let more : OnOk c.push_window.result (last ≡ mid ++ window_text window) =
    subst (λ (w : Window). OnOk c.push_window.result (last ≡ mid ++ window_text w)) c.window.ensures c.push_window.ensures in
    added_behind c.push_window.result text label (codes " ") name (window_text window) mid last first more
