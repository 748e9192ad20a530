use Rattle.std.proofs.Common.{◌∙◌, sym}
use Rattle.queue_table.specs.QueueTable.{queues}
use Rattle.queue_table.proofs.Beside.{contained-in, one-count}
use Rattle.queue_table.proofs.key_queues.count_beside.Goals as goal

pub returns-in-Some : goal.returns-in-Some
returns-in-Some g c q n w h =
    let f = c.in-Some.ensures in
    one-count c.args.item c.in-Some.found.count n c.in-Some.found.queue q (queues c.args.table.now) f.distinct f.low w f.stands h

pub returns-in-None : goal.returns-in-None
returns-in-None g c q n w h =
    let f = c.in-None.ensures in
    absurd (cc (sym f.missing ∙ (contained-in c.args.item n q (queues c.args.table.now) f.distinct w h).0))
