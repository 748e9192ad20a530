use Rattle.std.proofs.Common.{◌≡◌, ◌∙◌, ◌++◌, ap, subst, List, ℕ}
use Rattle.std.specs.Prelude.{codes, OnOk}
use Rattle.step_record.specs.Job.{name_of}
use Rattle.debug_policies.specs.Inside.{outcome_text}
use Rattle.debug_policies.specs.OnePolicy.{Outcome, OnePolicyState, outcome_at}
use Rattle.policy_comparison.proofs.Texts.{added_behind}
use Rattle.debug_policies.proofs.one_policy.OnePolicy.show_outcome.Goals as goal

pub returns : goal.returns
returns c =
    let one : OnePolicyState = c.args.self.now in
    let text : List ℕ = c.args.text.now.items in
    let label : List ℕ = c.args.label.now in
    let mid : List ℕ = c.push_policy.new.text.items in
    let last : List ℕ = c.push_outcome.new.text.items in
    let outcome : Outcome = outcome_at one.job one.trace one.at in
    let more : OnOk c.push_outcome.result (last ≡ mid ++ outcome_text outcome) =
    subst (λ (o : Outcome). OnOk c.push_outcome.result (last ≡ mid ++ outcome_text o)) c.last_outcome.ensures c.push_outcome.ensures in
    added_behind c.push_outcome.result text label (codes " ") (name_of one.job.policy one.job.sizes) (outcome_text outcome) mid last
    (c.in_ok-push_policy.ensures ∙ ap (λ (w : OnePolicyState). text ++ (label ++ (codes " " ++ name_of w.job.policy w.job.sizes))) c.self.view_is) more
