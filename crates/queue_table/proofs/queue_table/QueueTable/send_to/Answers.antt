use Rattle.std.proofs.Common.{suc, subst, arith}
use Rattle.queue_table.specs.Entries.{IsGap}
use Rattle.queue_table.specs.Queues.{Queues}
use Rattle.queue_table.specs.Ring.{entries, order_of, order_without}
use Rattle.queue_table.specs.QueueTable.{IsBehind}
use Rattle.queue_table.proofs.Ends.{behind-place}
use Rattle.queue_table.proofs.Kept.{some-used, used-slot}
use Rattle.queue_table.proofs.queue_table.QueueTable.send_to.Given as given
use Rattle.queue_table.proofs.queue_table.QueueTable.send_to.Goals as goal
use Rattle.queue_table.proofs.queue_table.QueueTable.send_to.Goals.{After-slot_at_place-before}
use Rattle.queue_table.proofs.Contents.{taken-order}

pub slot_at_place-before-requires-clause-some : goal.slot_at_place-before-requires-clause-some
slot_at_place-before-requires-clause-some g c = some-used c.args.self.now c.args.at c.requires.used

-- the slot that was found stands right after the place among the others
behind : (g : given.Over) (c : goal.After-slot_at_place-before g) → IsBehind c.slot_at_place-before.result c.args.place.queue c.args.place.older (entries c.args.self.now) (order_without c.args.at (order_of c.args.self.now) (suc c.args.place.queue))
behind g c =
    let h = c.slot_at_place-before.ensures.queued in
    let r = (used-slot c.args.self.now c.args.at h c.requires.used).0 in
    let out = (taken-order (order_of c.args.self.now) (entries c.args.self.now) c.args.at h.short h.distinct c.requires.used) in
    c.slot_at_place-before.ensures.behind (λ z. omega (arith, z, r, c.requires.queue)) (subst (λ (s : Queues). IsGap c.args.place.older (s c.args.place.queue)) out c.requires.gap)

pub shift-requires-clause-place : goal.shift-requires-clause-place
shift-requires-clause-place g c = behind-place c.slot_at_place-before.result c.args.place.queue c.args.place.older (entries c.args.self.now) (order_without c.args.at (order_of c.args.self.now)) (behind g (goal.at.shift-requires-clause-place g c).After-slot_at_place-before)

pub returns-clause-queues : goal.returns-clause-queues
returns-clause-queues g c = c.shift.ensures.back c.args.place.older (behind g (goal.at.returns-clause-queues g c).After-slot_at_place-before)
