use Rattle.std.proofs.Common.{◌≡◌, ◌∙◌, ◌++◌, ap, subst, List, ℕ, length}
use Rattle.std.specs.Prelude.{OnOk}
use Rattle.std.specs.List.{flat_map}
use Rattle.segments.specs.NamedQueue.{NamedQueueData}
use Rattle.policies.specs.AnyPolicy.{Job, any_queues}
use Rattle.policy_comparison.specs.QueuesAt.{queues_at}
use Rattle.policy_comparison.proofs.QueuesAt.{shown_queues}
use Rattle.debug_policies.specs.Inside.{queue_line, queue_lines}
use Rattle.debug_policies.specs.OnePolicy.{OnePolicyState}
use Rattle.debug_policies.proofs.one_policy.OnePolicy.show_queues.Goals as goal

pub returns : goal.returns
returns c =
    let trace : List ℕ = c.self.inside.trace.now in
    let j : Job = c.self.inside.job in
    let s = c.self.inside.session in
    let n : ℕ = length s.kept in
    let label : List ℕ = c.args.label.now in
    let text : List ℕ = c.args.text.now.items in
    let last : List ℕ = c.push_queues.new.text.items in
    let queues : List NamedQueueData = c.as_slice.result.now in
    let held : queues ≡ queues_at j trace n =
    c.as_slice.ensures.value ∙ c.in_ok-queues.ensures ∙ ap any_queues c.engine.ensures.engine
    ∙ shown_queues j trace n s.engine c.self.invariant.within c.self.invariant.stands in
    subst (λ (w : OnePolicyState). OnOk c.push_queues.result (last ≡ text ++ queue_lines label w.job w.trace w.at)) c.self.view_is
    (subst (λ (q : List NamedQueueData). OnOk c.push_queues.result (last ≡ text ++ flat_map (queue_line label j) q)) held c.push_queues.ensures)
