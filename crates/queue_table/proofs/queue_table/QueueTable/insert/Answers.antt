use Rattle.std.proofs.Common.{suc, map, ap, sym, subst, arith}
use Rattle.queue_table.specs.Entries.{IsGap}
use Rattle.queue_table.specs.Ring.{entries, slot_entry, order_of}
use Rattle.queue_table.specs.QueueTable.{IsBehind}
use Rattle.queue_table.proofs.Ends.{behind-place, none-out}
use Rattle.queue_table.proofs.Kept.{some-slots}
use Rattle.queue_table.proofs.queue_table.QueueTable.insert.Given as given
use Rattle.queue_table.proofs.queue_table.QueueTable.insert.Goals as goal
use Rattle.queue_table.proofs.queue_table.QueueTable.insert.Goals.{After-slot_at_place-before}

pub slot_at_place-before-requires-clause-some : goal.slot_at_place-before-requires-clause-some
slot_at_place-before-requires-clause-some g c = some-slots c.args.self.now 0 c.requires.room

-- the slot that was found stands right after the place
behind : (g : given.Over) (c : goal.After-slot_at_place-before g) → IsBehind c.slot_at_place-before.result c.args.place.queue c.args.place.older (entries c.args.self.now) (order_of c.args.self.now (suc c.args.place.queue))
behind g c =
    let out = none-out c.args.self.now (order_of c.args.self.now) c.slot_at_place-before.ensures.queued c.args.place.queue c.requires.queue in
    subst (IsBehind c.slot_at_place-before.result c.args.place.queue c.args.place.older (entries c.args.self.now)) out
    (c.slot_at_place-before.ensures.behind (λ z. omega (arith, z)) (subst (IsGap c.args.place.older) (sym (ap (map (λ k. slot_entry (entries c.args.self.now) k)) out)) c.requires.gap))

pub put-requires-clause-place : goal.put-requires-clause-place
put-requires-clause-place g c = behind-place c.slot_at_place-before.result c.args.place.queue c.args.place.older (entries c.args.self.now) (order_of c.args.self.now) (behind g (goal.at.put-requires-clause-place g c).After-slot_at_place-before)

pub returns-clause-queues : goal.returns-clause-queues
returns-clause-queues g c = c.put.ensures.back c.args.place.older (behind g (goal.at.returns-clause-queues g c).After-slot_at_place-before)
