use Rattle.std.proofs.Common.{map, ◌≤◌, subst, ℕ}
use Rattle.queue_table.specs.Ring.{order_of, count}
use Rattle.queue_table.proofs.Ends.{last-free}
use Rattle.queue_table.proofs.links.newest_free.Goals as goal

pub returns : goal.returns
returns g c =
    let s = (map g.S.RingSlot.shown c.args.slots.now) in
    subst (λ (k : ℕ). 1 ≤ count k (order_of s 0)) c.older_than.ensures (last-free s (order_of s) c.requires.queued c.requires.room)
