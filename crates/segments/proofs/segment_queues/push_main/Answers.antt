use Rattle.std.proofs.Common.{◌≡◌, ◌∙◌, ◌++◌, [], ◌∷◌, ap, subst, append_assoc, List}
use Rattle.std.specs.Prelude.{OnOk, codes}
use Rattle.segments.specs.Queues.{Queues}
use Rattle.segments.specs.NamedQueue.{NamedQueueData}
use Rattle.segments.specs.SegmentQueues.{item_queue}
use Rattle.segments.proofs.segment_queues.push_main.Goals as goal

pub returns : goal.returns
returns c =
    let s : Queues = c.args.segments.now.lists in
    let protected : List NamedQueueData = item_queue (codes "protected") s.protected ∷ [] in
    subst (λ l. OnOk c.push_segment-2.result (c.push_segment-2.new.queues.items ≡ l))
    (ap (λ l. l ++ protected) c.in_ok-push_segment.ensures
    ∙ append_assoc c.args.queues.now.items (item_queue (codes "probation") s.probation ∷ []) protected)
    c.push_segment-2.ensures
