use Rattle.std.proofs.Common.{map, Some, suc, ap, sym, get_or, ◌∙◌, arith}
use Rattle.queue_table.specs.Ring.{olders, order_of}
use Rattle.queue_table.proofs.Ends.{last-slot}
use Rattle.queue_table.proofs.links.newest_slot.Goals as goal

pub returns : goal.returns
returns g c =
    let s = (map g.S.RingSlot.shown c.args.slots.now) in
    last-slot s (suc c.args.queue) (order_of s) (omega (arith, c.requires.low)) c.requires.queued c.requires.some ∙ ap Some (ap (λ k. get_or (olders s) k 0) (sym c.slot_behind.ensures) ∙ c.older_than.ensures)
