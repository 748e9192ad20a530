use Rattle.std.proofs.lemmas.Bool.Decides.{nat_tests}
use Rattle.std.proofs.Common.{ap, map, arith, ◌≡◌, ◌∙◌, List, Some, suc, sym, subst}
use Rattle.queue_table.specs.Ring.{Slot, entries, slot_entry, order_of, HasItems}
use Rattle.queue_table.specs.Items.{newest_of}
use Rattle.queue_table.specs.QueueTable.{entry_at, IsKept, IsUsed}
use Rattle.queue_table.proofs.Orders.{section-used}
use Rattle.queue_table.proofs.Calls.{slot-within}
use Rattle.queue_table.proofs.Ends.{last-stands, last-entry}
use Rattle.queue_table.proofs.Kept.{has-items}
use Rattle.queue_table.proofs.queue_table.QueueTable.newest.Given as given
use Rattle.queue_table.proofs.queue_table.QueueTable.newest.Goals as goal
use Rattle.queue_table.proofs.queue_table.QueueTable.newest.Goals.{After-deref, After-newest_slot-at, After-entry_of}

has-some : (g : given.Over) (c : goal.After-deref g) → HasItems c.args.queue c.args.self.now
has-some g c = has-items _ _ _ (subst (λ (s : List Slot). IsKept s c.self.inside.index c.self.inside.lengths) c.self.view_is c.self.invariant) c.args.queue c.of.result c.requires c.of.ensures c.if-of-eq0.false

-- the slot at the end, and its entry
end-there : (g : given.Over) (c : goal.After-newest_slot-at g) → newest_of (order_of c.args.self.now (suc c.args.queue)) ≡ Some c.newest_slot-at.result
end-there g c = subst (λ (s : List Slot). newest_of (order_of s (suc c.args.queue)) ≡ Some c.newest_slot-at.result) (ap (map g.K.Slot.RingSlot.shown) c.deref.ensures.value ∙ c.self.view_is) c.newest_slot-at.ensures

used-there : (g : given.Over) (c : goal.After-newest_slot-at g) → IsUsed c.newest_slot-at.result c.args.self.now
used-there g c = section-used c.args.queue c.newest_slot-at.result (order_of c.args.self.now) c.requires (last-stands c.newest_slot-at.result (order_of c.args.self.now (suc c.args.queue)) (end-there g c))

entry-there : (g : given.Over) (c : goal.After-entry_of g) → entry_at c.newest_slot-at.result c.args.self.now ≡ c.entry_of.result
entry-there g c = subst (λ (s : List Slot). slot_entry (entries s) c.newest_slot-at.result ≡ c.entry_of.result) (ap (map g.K.Slot.RingSlot.shown) c.deref-2.ensures.value ∙ c.self.view_is) c.entry_of.ensures

pub newest_slot-at-requires : goal.newest_slot-at-requires
newest_slot-at-requires g c = subst (HasItems c.args.queue) (sym (ap (map g.K.Slot.RingSlot.shown) c.deref.ensures.value ∙ c.self.view_is)) (has-some g (goal.at.newest_slot-at-requires g c).After-deref)

pub entry_of-requires : goal.entry_of-requires
entry_of-requires g c =
    let at = goal.at.entry_of-requires g c in
    rw (ap (map g.K.Slot.RingSlot.shown) c.deref-2.ensures.value ∙ c.self.view_is) (slot-within c.args.self.now (order_of c.args.self.now) (has-some g at.After-deref).queued c.newest_slot-at.result (used-there g at.After-newest_slot-at))

pub returns-clause-used : goal.returns-clause-used
returns-clause-used g c = used-there g (goal.at.returns-clause-used g c).After-newest_slot-at

pub returns-clause-entry : goal.returns-clause-entry
returns-clause-entry g c = entry-there g (goal.at.returns-clause-entry g c).After-entry_of

pub returns-clause-last : goal.returns-clause-last
returns-clause-last g c = grind (arith, nat_tests, last-entry, end-there, entry-there)
