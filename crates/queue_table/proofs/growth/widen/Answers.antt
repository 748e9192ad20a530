use Rattle.std.proofs.lemmas.Grind.{common_steps}
use Rattle.std.proofs.Common.{map, ◌∙◌, ◌+◌, ap, arith}
use Rattle.queue_table.specs.Ring.{order_of}
use Rattle.queue_table.proofs.Tables.{held-spread}
use Rattle.queue_table.proofs.Growing.{wider_room}
use Rattle.queue_table.proofs.growth.widen.Goals as goal

pub returns-clause-held : goal.returns-clause-held
returns-clause-held g c =
    let h = c.requires.held in
    held-spread (map g.K.Slot.RingSlot.shown c.args.slots.now) c.fill.new.index (order_of (map g.K.Slot.RingSlot.shown c.args.slots.now)) h.queued c.requires.free c.fill.ensures.indexed
    (wider_room _ c.args.index.now.bits _ (c.fill.ensures.bits ∙ (c.in_ok-index.ensures.bits ∙ ap (λ n. n + 1) c.bits-bits.ensures)) h.room)

pub fill-requires-clause-few : goal.fill-requires-clause-few
fill-requires-clause-few g c = grind (arith, common_steps)

pub fill-requires-clause-room : goal.fill-requires-clause-room
fill-requires-clause-room g c = grind (arith, common_steps)

pub returns-clause-load : goal.returns-clause-load
returns-clause-load g c = grind (arith, common_steps)

pub returns-clause-roomy : goal.returns-clause-roomy
returns-clause-roomy g c = grind (arith, common_steps)
