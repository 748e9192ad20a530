use Rattle.std.proofs.lemmas.Grind.{common_steps}
use Rattle.std.proofs.Common.{map, ◌≤◌, ◌*◌, ◌^◌, List, length, sym, ap, ◌∙◌, subst, arith}
use Rattle.std.proofs.lemmas.List.{nil_from_length}
use Rattle.queue_table.specs.Ring.{Slot, order_of}
use Rattle.queue_table.specs.QueueTable.{IsInSlots}
use Rattle.queue_table.proofs.Growing.{IsGrown, grown, room_for}
use Rattle.queue_table.proofs.growth.grow.Given as given
use Rattle.queue_table.proofs.growth.grow.Goals as goal
use Rattle.queue_table.proofs.growth.grow.Goals.{After-add_slot}

grown-here : (g : given.Over) (c : goal.After-add_slot g) → IsGrown c.add_slot.result (map g.K.Slot.RingSlot.shown c.args.slots.now.items) (map g.K.Slot.RingSlot.shown c.add_slot.new.slots.items) c.widen.new.index
grown-here g c =
    let lent = ap (map g.K.Slot.RingSlot.shown) c.deref.ensures.value in
    let held = subst (λ (s : List Slot). IsInSlots s c.widen.new.index (order_of s)) lent c.widen.ensures.held in
    let roomy = subst (λ (s : List Slot). 2 * length s ≤ 2 ^ c.widen.new.index.bits) lent c.in_ok-widen.ensures.roomy in
    let e = c.add_slot.ensures in
    grown c.add_slot.result (map g.K.Slot.RingSlot.shown c.args.slots.now.items) (map g.K.Slot.RingSlot.shown c.begin.new.slots.items) (map g.K.Slot.RingSlot.shown c.add_slot.new.slots.items) c.widen.new.index record { held = held; same = c.begin.ensures.same } (room_for _ _ roomy) e.ring e.entries e.tags e.err

pub returns-clause-sound : goal.returns-clause-sound
returns-clause-sound g c = (grown-here g (goal.at.returns-clause-sound g c).After-add_slot).sound

pub returns-clause-lists : goal.returns-clause-lists
returns-clause-lists g c = (grown-here g (goal.at.returns-clause-lists g c).After-add_slot).lists

pub returns-clause-ok : goal.returns-clause-ok
returns-clause-ok g c = (grown-here g (goal.at.returns-clause-ok g c).After-add_slot).ok

pub widen-requires-clause-free : goal.widen-requires-clause-free
widen-requires-clause-free g c = nil_from_length _ (ap (λ s. length (order_of (map g.K.Slot.RingSlot.shown s) 0)) c.deref.ensures.value ∙ (c.begin.ensures.same.lengths 0 ∙ ap length c.requires.none))

pub returns-clause-few : goal.returns-clause-few
returns-clause-few g c = grind (arith, common_steps)

pub returns-clause-load : goal.returns-clause-load
returns-clause-load g c = grind (arith, common_steps)

pub widen-requires-clause-held : goal.widen-requires-clause-held
widen-requires-clause-held g c = subst (λ (s : List Slot). IsInSlots s c.begin.new.index (order_of s)) (sym (ap (map g.K.Slot.RingSlot.shown) c.deref.ensures.value)) c.in_ok-begin.ensures.held

pub add_slot-requires-clause-ring : goal.add_slot-requires-clause-ring
add_slot-requires-clause-ring g c = c.in_ok-begin.ensures.held.queued.linked

pub returns-in_err-begin-clause-sound : goal.returns-in_err-begin-clause-sound
returns-in_err-begin-clause-sound g c = c.in_err-begin.ensures.err

pub returns-in_err-begin-clause-lists : goal.returns-in_err-begin-clause-lists
returns-in_err-begin-clause-lists g c = c.begin.ensures.same.lists

pub returns-in_err-widen-clause-sound : goal.returns-in_err-widen-clause-sound
returns-in_err-widen-clause-sound g c = λ _. subst (λ (s : List Slot). IsInSlots s c.widen.new.index (order_of s)) (ap (map g.K.Slot.RingSlot.shown) c.deref.ensures.value) c.widen.ensures.held

pub returns-in_err-widen-clause-lists : goal.returns-in_err-widen-clause-lists
returns-in_err-widen-clause-lists g c = c.begin.ensures.same.lists
