use Rattle.std.proofs.Common.{◌∙◌, ap, sym}
use Rattle.queue_table.specs.QueueTable.{queues}
use Rattle.queue_table.specs.Queues.{Queues}
use Rattle.segments.specs.KeyRow.{row_of}
use Rattle.queue_table.proofs.Tabled.{lists-shown}
use Rattle.demand_cache.specs.DemandCache.{DemandState}
use Rattle.demand_cache.specs.DemandPolicy.{named_by}
use Rattle.demand_cache.specs.DemandQueues.{queues_named}
use Rattle.demand_cache.proofs.demand_cache.DemandCache.row_of.Goals as goal

pub returns : goal.returns
returns c =
    let s : Queues = queues c.self.inside.queues in
    c.first_row.ensures s c.queue_of.ensures
    ∙ ap (row_of c.args.key) (c.queue_rows-rows.ensures.rows s
    ∙ ap (named_by c.self.inside.policy c.self.inside.own_number) (sym (lists-shown s c.tabled.ensures))
    ∙ ap (λ (d : DemandState). queues_named d.queues) c.self.view_is)
