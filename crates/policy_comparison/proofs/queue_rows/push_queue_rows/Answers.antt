use Rattle.std.proofs.Common.{◌∙◌, ◌++◌, ℕ, List, ap, get_or, arith, refl}
use Rattle.policy_comparison.specs.QueueRows.{Interval, queue_row}
use Rattle.policy_comparison.specs.QueuesAt.{NamedQueueData}
use Rattle.policy_comparison.proofs.Rows.{rows-next, rows-last}
use Rattle.policy_comparison.proofs.queue_rows.push_queue_rows.Goals as goal

pub loop-i-init : goal.loop-i-init
loop-i-init c = refl

pub loop-i-preserved : goal.loop-i-preserved
loop-i-preserved c =
    let i : Interval = c.args.interval.now in
    let text : List ℕ = c.loop-i.text.items in
    let queues : List NamedQueueData = c.args.queues.now in
    let queue : NamedQueueData = c.index-queues-i.result in
    rows-next i (λ row. get_or c.args.left.now row 0) queues c.loop-i.i text c.push_queue_row.new.text.items queue (omega (arith, c.loop-i-test.true))
    (c.in_ok-push_queue_row.ensures ∙ ap (λ (q : NamedQueueData). text ++ queue_row i q c.number_at.result) c.index-queues-i.is
    ∙ ap (λ (n : ℕ). text ++ queue_row i (get_or queues c.loop-i.i queue) n) c.number_at.ensures)
    ∙ c.loop-i.invariant

pub returns : goal.returns
returns c =
    rows-last c.args.interval.now (λ row. get_or c.args.left.now row 0) c.args.queues.now c.loop-i.i c.loop-i.text.items (omega (arith, c.loop-i-test.false))
    ∙ c.loop-i.invariant
