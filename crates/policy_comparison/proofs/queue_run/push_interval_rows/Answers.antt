use Rattle.std.proofs.Common.{◌≡◌, ◌∙◌, ◌++◌, List, ℕ, subst}
use Rattle.std.specs.Prelude.{OnOk}
use Rattle.policy_comparison.proofs.Ended.{ended-rows}
use Rattle.policy_comparison.proofs.queue_run.push_interval_rows.Goals as goal

pub returns : goal.returns
returns c = λ job trace ends.
    subst (λ (l : List ℕ). OnOk c.push_queue_rows.result (c.push_queue_rows.new.text.items ≡ c.args.text.now.items ++ l))
    (ended-rows job trace c.args.interval.now c.args.left.now c.args.cache.now c.as_slice.result.now ends (c.as_slice.ensures.value ∙ c.in_ok-queues.ensures))
    c.push_queue_rows.ensures
