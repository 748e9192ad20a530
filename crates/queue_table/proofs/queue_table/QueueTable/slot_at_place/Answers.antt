use Rattle.std.proofs.Common.{map, ◌≡◌, ◌<◌, ◌∙◌, List, suc, length, ap, sym, subst}
use Rattle.queue_table.specs.Ring.{Slot, entries, newers, next_but, order_of, order_without, IsQueued}
use Rattle.queue_table.specs.QueueTable.{IsBehind}
use Rattle.queue_table.proofs.Ends.{cut-behind}
use Rattle.queue_table.proofs.queue_table.QueueTable.slot_at_place.Given as given
use Rattle.queue_table.proofs.queue_table.QueueTable.slot_at_place.Goals as goal
use Rattle.queue_table.proofs.queue_table.QueueTable.slot_at_place.Goals.{After-next_slot}

-- the slots are linked in their order
queued-there : (g : given.Over) (c : After-next_slot g) → IsQueued c.args.self.now (order_of c.args.self.now)
queued-there g c =
    subst (λ (s : List Slot). IsQueued s (order_of s)) c.self.view_is (c.self.invariant.held (subst (λ (s : List Slot). 0 < length s) (sym c.self.view_is) c.requires.some)).queued

pub returns-clause-behind : goal.returns-clause-behind
returns-clause-behind g c apart gap =
    let slots = c.args.self.now in
    let e : c.next_slot.result ≡ next_but (newers slots) c.older_slot.result c.args.but = c.next_slot.ensures ∙ ap (λ (s : List Slot). next_but (newers s) c.older_slot.result c.args.but) (ap (map g.K.Slot.RingSlot.shown) c.deref.ensures.value ∙ c.self.view_is) in
    subst (λ b. IsBehind b c.args.place.queue c.args.place.older (entries slots) (order_without c.args.but (order_of slots) (suc c.args.place.queue))) (sym e)
    (cut-behind slots (order_of slots) (queued-there g (goal.at.returns-clause-behind g c).After-next_slot) c.args.place.queue c.args.but c.older_slot.result c.requires.queue apart c.args.place.older c.older_slot.ensures.none
    (λ n z h. let s = c.older_slot.ensures.older n z h in (s.used, s.item)) gap)
