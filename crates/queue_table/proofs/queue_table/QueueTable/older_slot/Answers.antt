use Rattle.std.proofs.lemmas.Bool.Decides.{nat_tests}
use Rattle.std.proofs.lemmas.Grind.{common_steps}
use Rattle.std.proofs.Common.{◌<◌, ℕ, List, Option, Some, None, length, arith}
use Rattle.std.specs.Prelude.{IfSome}
use Rattle.std.specs.Option.{unwrap_or}
use Rattle.engine_base.specs.declared.item.Item.{Item}
use Rattle.queue_table.specs.Ring.{Slot, order_of, IsQueued}
use Rattle.queue_table.specs.QueueTable.{IsSlotOf}
use Rattle.queue_table.proofs.Calls.{slot-within}
use Rattle.queue_table.proofs.Kept.{before-within}
use Rattle.queue_table.proofs.queue_table.QueueTable.older_slot.Given as given
use Rattle.queue_table.proofs.queue_table.QueueTable.older_slot.Goals as goal
use Rattle.queue_table.proofs.queue_table.QueueTable.older_slot.Goals.{After-self}

-- the slots are linked in their order
queued-there : (g : given.Over) (c : After-self g) → IsQueued c.args.self.now (order_of c.args.self.now)
queued-there g c = grind (arith, nat_tests)

found-within : (slots : List Slot) (i : Item) (r : Option ℕ) (d : ℕ) → IfSome r (λ at. IsSlotOf at i slots) → d < length slots → unwrap_or r d < length slots
found-within slots i None d h w = w
found-within slots i (Some at) d h w = slot-within slots (order_of slots) h.queued at h.used

pub returns-in_default-clause-within : goal.returns-in_default-clause-within
returns-in_default-clause-within g c = grind (arith, common_steps, before-within, queued-there)

pub returns-clause-within : goal.returns-clause-within
returns-clause-within g c =
    let w = before-within c.args.self.now (queued-there g (goal.at.returns-clause-within g c).After-self) c.args.place.queue c.requires.queue in
    let d : c.slot_before-2.result < length c.args.self.now = (let e = c.slot_before-2.ensures in omega (arith, w, e)) in
    let r = found-within c.args.self.now c.in-Some.older c.find_slot.result c.slot_before-2.result c.find_slot.ensures.there d in
    omega (arith, r, c.unwrap_or.ensures)
